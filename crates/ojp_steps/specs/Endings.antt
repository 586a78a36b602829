-- How a command ends: its work was done, or a failure has its cause; with the status and the line of it.
use Rattle.std.specs.Prelude.{◌≡◌, ◌≤◌, ℕ, ◌++◌, ◌⊎◌, Result, Ok, Err}
use Rattle.ojp_values.specs.Texts.{Text}
use Rattle.ojp_outside.specs.Seen.{SinkView}
use Rattle.ojp_steps.specs.Lent.{Lent, before, after, IsUnused, Tells, TellsTrace}
use Rattle.ojp_steps.specs.Failures.{status_of, text_of, line_of}
use Rattle.ojp_steps.specs.declared.failures.Failure.{Failure}

-- a command did what it is to do, or failed for a cause
abbrev pub HasEnding : Type 0 → (Failure → Type 0) → Result (Unit {0}) Failure → Type 0
HasEnding done cause (Ok nothing) = done
HasEnding done cause (Err failure) = cause failure

-- the status of a command that ended so, and the line of its failure; the count of faults of standard error did not fall
abbrev pub Concludes : {E : Type 0} → Result (Unit {0}) Failure → Lent E SinkView → ℕ → Type 0
Concludes (Ok nothing) faults status = (status ≡ 0) × IsUnused faults
Concludes (Err failure) faults status = (status ≡ status_of failure) × Tells faults (line_of (text_of failure)) × ((before faults).faults ≤ (after faults).faults)

-- with status 0 all was done, and standard error has the trace; with another a failure has its cause, and its line stands behind the trace
abbrev pub EndsAs : {E : Type 0} → Text → Type 0 → (Failure → Type 0) → Lent E SinkView → ℕ → Type 0
EndsAs trace done cause faults status =
    ((status ≡ 0) × done × TellsTrace faults trace)
    ⊎ ((failure : Failure) × (status ≡ status_of failure) × cause failure × Tells faults (trace ++ line_of (text_of failure)))
