-- A stream of numbers that are drawn from a first one, by linear congruence modulo 2^64.
use Rattle.std.specs.Prelude.{ℕ, zero, suc, ◌+◌, ◌*◌, ◌/◌, ◌%◌, List, map}
use Rattle.std.specs.List.{range_with_len}

-- the state behind a state
unfoldable pub next_state : ℕ → ℕ
next_state z = (z * 6_364_136_223_846_793_005 + 1_442_695_040_888_963_407) % 18_446_744_073_709_551_616

-- the state behind so many draws
unfoldable pub state_after : ℕ → ℕ → ℕ
state_after z zero = z
state_after z (suc k) = next_state (state_after z k)

-- a state draws its upper 31 bits, modulo m
abbrev pub drawn_from : ℕ → ℕ → ℕ
drawn_from z m = (z / 8_589_934_592) % m

-- what is drawn behind k draws, below m
abbrev pub draw : ℕ → ℕ → ℕ → ℕ
draw z k m = drawn_from (next_state (state_after z k)) m

-- what f gives for each number below n, in order
unfoldable pub below : {X : Type 0} → (ℕ → X) → ℕ → List X
below f n = map f (range_with_len 0 n)
