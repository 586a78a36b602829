use Rattle.std.proofs.Common.{◌/◌, ◌+◌, ◌≤◌, ◌<◌, ◌*◌, ◌-◌, ℕ, Vec, Global, arith, sym, subst, true≢false}
use Rattle.ojp_values.specs.declared.trips.Event.{Event}
use Rattle.ojp_stop_events.specs.Found.{AreFirst}
use Rattle.ojp_stop_events.proofs.EventFacts.{from_day, no_day, none_more, not_early, not_late, to_next_call}
use Rattle.ojp_stop_events.proofs.answers.add_call.Goals as goal
use Rattle.ojp_stop_events.proofs.answers.add_call.Goals.{in-Ok+in_ok-add_run, in_default}

pub days-init : goal.days-init
days-init c =
    let first = c.saturating_sub-from.result / 86400 in
    let early : 86400 * first ≤ c.args.ask.now.start - 187140 = omega arith in
    from_day c.args.table.now c.args.ask.now c.args.journey c.args.position first c.args.first.now.items
    (not_early c.args.table.now c.args.ask.now c.args.journey c.args.position first c.requires.well early) c.requires.before

pub days-preserved : goal.days-preserved
days-preserved c =
    let table = c.args.table.now in
    let ask = c.args.ask.now in
    let j = c.args.journey in
    let p = c.args.position in
    let rest : Vec Event Global → Type 0 = λ first. AreFirst table ask j p (c.days.number + 1) first.items in
    elim c.match-new.branch [
      | in-Ok+in_ok-add_run w ↦
          subst rest (sym w.first-is)
          (subst (λ (n : ℕ). AreFirst table ask j p (n + 1) w.add_run.new.first.items) w.in-Ok.ensures.value w.in_ok-add_run.ensures)
      | in_default w ↦
          subst rest (sym w.first-is)
          (none_more table ask j p c.days.number c.days.first.items c.days.invariant
          (no_day table ask j p c.days.number (λ in_range. true≢false (sym (w.in_default.ensures.exact.1 in_range)))))
    ]

pub returns : goal.returns
returns c =
    let late : c.args.ask.now.start + 143940 < 86400 * c.days.number = omega arith in
    to_next_call c.args.table.now c.args.ask.now c.args.journey c.args.position c.days.number c.days.first.items
    (not_late c.args.table.now c.args.ask.now c.args.journey c.args.position c.days.number c.requires.well late) c.days.invariant
