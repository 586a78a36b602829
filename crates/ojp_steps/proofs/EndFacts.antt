-- How a command that ended so ends with its status.
use Rattle.std.proofs.Common.{◌≤◌, ℕ, [], ◌∷◌, ◌++◌, Result, Ok, Err, inl, inr, sym, subst, arith}
use Rattle.std.proofs.KnownBytes.{Appends-trans}
use Rattle.ojp_values.specs.Texts.{Text}
use Rattle.ojp_outside.specs.Causes.{Rests}
use Rattle.ojp_outside.specs.Seen.{SinkView}
use Rattle.ojp_steps.specs.Lent.{Lent, lent, Tells, TellsTrace}
use Rattle.ojp_steps.specs.Failures.{line_of, text_of}
use Rattle.ojp_steps.specs.Endings.{HasEnding, Concludes, EndsAs}
use Rattle.ojp_steps.specs.declared.failures.Failure.{Failure}

-- a command that told no trace
pub ends_as : {E : Type 0} (done : Type 0) (cause : Failure → Type 0) (ended : Result (Unit {0}) Failure) (faults : Lent E SinkView) (status : ℕ)
    → HasEnding done cause ended → Concludes ended faults status → EndsAs [] done cause faults status
ends_as done cause (Ok nothing) faults status e c = inl (c.0, e, c.1)
ends_as done cause (Err failure) faults status e c = inr (failure, c.0, e, c.1)

-- what was told on standard error, first the trace and then the line of a failure
told_on : (trace line : Text) {E : Type 0} (seen : E → SinkView) (old mid new : E) → TellsTrace (lent seen old mid) trace → (seen old).faults ≤ (seen mid).faults
    → Tells (lent seen mid new) line → (seen mid).faults ≤ (seen new).faults → Tells (lent seen old new) (trace ++ line)
told_on [] line seen old mid new same later tells on rests = subst (λ (e : _). Tells (lent seen e new) line) same tells rests
told_on (b ∷ trace) line seen old mid new traced later tells on rests =
    let first : Rests (seen old).faults (seen mid).faults = record { same = omega (arith, rests.same, later, on); below_end = omega (arith, rests.same, rests.below_end, later, on) } in
    let second : Rests (seen mid).faults (seen new).faults = record { same = omega (arith, rests.same, later, on); below_end = rests.below_end } in
    Appends-trans (seen old).written (seen mid).written (seen new).written (b ∷ trace) line (traced first) (tells second)

-- a command that told this trace
pub ends_traced : {E : Type 0} (trace : Text) (done : Type 0) (cause : Failure → Type 0) (ended : Result (Unit {0}) Failure) (seen : E → SinkView) (old mid new : E) (status : ℕ)
    → HasEnding done cause ended → TellsTrace (lent seen old mid) trace → (seen old).faults ≤ (seen mid).faults → Concludes ended (lent seen mid new) status → EndsAs trace done cause (lent seen old new) status
ends_traced trace done cause (Ok nothing) seen old mid new status e traced later c = inl (c.0, e, subst (λ (x : _). TellsTrace (lent seen old x) trace) (sym c.1) traced)
ends_traced trace done cause (Err failure) seen old mid new status e traced later c = inr (failure, c.0, e, told_on trace (line_of (text_of failure)) seen old mid new traced later c.1 c.2)
