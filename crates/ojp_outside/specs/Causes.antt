-- Counts of faults, and the answers that they stand behind.
use Rattle.std.specs.Prelude.{◌≡◌, ℕ, ◌+◌, ◌-◌, ◌*◌, ◌^◌, ◌<◌, ◌≤◌, min, OnErr, OnOk, Result}

-- the count rose, or stands at its last value
abbrev pub Rose : ℕ → ℕ → Type 0
Rose before now = min (before + 1) (2 ^ 64 - 1) ≤ now

-- the count rose where the call failed, and stands still where it did not
pub record HasCause {T E : Type 0} (before now : ℕ) (result : Result T E) : Type 0 where
  pub later : before ≤ now
  pub at_rest : OnOk result (now ≡ before)
  pub failed : OnErr result (Rose before now)

-- the count did not rise, and does not stand at its last value
pub record Rests (before now : ℕ) : Type 0 where
  pub same : now ≡ before
  pub below_end : now < 2 ^ 64 - 1

-- the count that follows, which stands still at its last value
abbrev pub next_count : ℕ → ℕ
next_count count = min (count + 1) (2 ^ 64 - 1)
