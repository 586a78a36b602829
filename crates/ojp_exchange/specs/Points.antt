-- Look-ups among exchange points that rise.
use Rattle.std.specs.Prelude.{◌≡◌, ℕ, ◌<◌, ◌≤◌, true, false, List, Some, length, slice_get}
use Rattle.ojp_values.specs.Lists.{Among}
use Rattle.ojp_values.specs.Texts.{Text, same, text_lt}
use Rattle.ojp_values.specs.declared.trips.Neighbour.{Neighbour}
use Rattle.ojp_values.specs.declared.trips.Point.{Point}

-- the code is declared with that time
abbrev pub HasNeighbour : List Neighbour → Text → ℕ → Type 0
HasNeighbour neighbours code change = (neighbour : Neighbour) × Among neighbour neighbours × (neighbour.code ≡ code) × (neighbour.change ≡ change)

abbrev pub HasNoNeighbour : List Neighbour → Text → Type 0
HasNoNeighbour neighbours code = (neighbour : Neighbour) → Among neighbour neighbours → neighbour.code ≡ code → ⊥

-- the points at stops before that one are just the first so many
pub record AreParted (points : List Point) (stop : Text) (count : ℕ) : Type 0 where
  pub within : count ≤ length points
  pub below : (k : ℕ) (point : Point) → slice_get points k ≡ Some point → k < count → text_lt point.stop stop ≡ true
  pub above : (k : ℕ) (point : Point) → slice_get points k ≡ Some point → count ≤ k → text_lt point.stop stop ≡ false

-- the points at the stop are just those from the one number to before the other
pub record IsStretch (points : List Point) (stop : Text) (from to : ℕ) : Type 0 where
  pub order : from ≤ to
  pub within : to ≤ length points
  pub before : (k : ℕ) (point : Point) → slice_get points k ≡ Some point → k < from → same stop point.stop ≡ false
  pub inside : (k : ℕ) (point : Point) → slice_get points k ≡ Some point → from ≤ k → k < to → same stop point.stop ≡ true
  pub behind : (k : ℕ) (point : Point) → slice_get points k ≡ Some point → to ≤ k → same stop point.stop ≡ false
