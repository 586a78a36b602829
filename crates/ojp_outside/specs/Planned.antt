-- Calls that fail as a list of their numbers says.
use Rattle.std.specs.Prelude.{ℕ, Bool, ◌==◌, if◌then◌else◌, List, Result, Ok, Err}
use Rattle.std.specs.List.{list_any}
use Rattle.ojp_outside.specs.Causes.{next_count}

-- the list names the call of this number
abbrev pub is_planned : ℕ → List ℕ → Bool
is_planned call plan = list_any (λ n. n == call) plan

-- the writes that found no memory: those that failed where no fault was planned
abbrev pub refused_after : {T E : Type 0} → Bool → Result T E → ℕ → ℕ
refused_after planned (Ok count) refused = refused
refused_after planned (Err failed) refused = if planned then refused else next_count refused

-- the count of faults after an answer: it rises where the call failed, and nowhere else
abbrev pub faults_after : {T E : Type 0} → Result T E → ℕ → ℕ
faults_after (Ok value) faults = faults
faults_after (Err failed) faults = next_count faults
