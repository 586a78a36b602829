-- What a call took from the bytes that a source has left, or added to those that a sink holds, where they are told.
use Rattle.std.specs.Prelude.{◌≡◌, ℕ, ◌≤◌, ◌<◌, Bool, ◌||◌, ◌&&◌, ◌==◌, nat_lt, List, length, take, Option, Result, Ok, Err}
use Rattle.std.specs.Io.KnownBytes.{Appends, Consumes}

-- told bytes lost a prefix
abbrev pub LosesPrefix : Option (List ℕ) → Option (List ℕ) → Type 0
LosesPrefix old new = (taken : List ℕ) × Consumes old new taken

-- told bytes grew by a prefix of these
abbrev pub AppendsPrefix : Option (List ℕ) → Option (List ℕ) → List ℕ → Type 0
AppendsPrefix old new bytes = (n : ℕ) × (n ≤ length bytes) × Appends old new (take n bytes)

-- the end of the input was seen: before, or by a read of nothing into some room
abbrev pub ended_by : {E : Type 0} → Bool → Result ℕ E → ℕ → Bool
ended_by before (Ok count) room = before || (count == 0 && nat_lt 0 room)
ended_by before (Err failed) room = before
