use Rattle.std.proofs.Common.{ℕ, ◌-◌, Some, sym, ◌∙◌, ap, subst}
use Rattle.ojp_load.specs.Asking.{IsToldOf}
use Rattle.ojp_load.proofs.TripFacts.{told_fault, told_trip}
use Rattle.ojp_load.proofs.asking.seconds_of.Goals as goal

pub returns-in-Trip : goal.returns-in-Trip
returns-in-Trip c tables by known =
    let same = ap (λ (n : ℕ). n - c.args.ask.now.start) (sym c.seconds.ensures.value) ∙ (ap (λ (n : ℕ). c.seconds.result - n) (sym c.seconds-in-Trip.ensures.value) ∙ sym c.saturating_sub.ensures) in
    subst (λ (n : ℕ). IsToldOf tables c.args.ask.now (Some n)) same (told_trip tables c.args.ask.now c.args.reply.now c.in-Trip.trip c.in-Trip.is by)

pub returns-in-Fault : goal.returns-in-Fault
returns-in-Fault c tables by known = told_fault tables c.args.ask.now c.args.reply.now c.in-Fault.field-0 c.in-Fault.is known by
