-- Which regions declare another that does not declare them.
use Rattle.std.specs.Prelude.{◌≡◌, ℕ, ◌+◌, ◌<◌, Bool, true, false, MatchBool, List, Some, length, slice_get}
use Rattle.ojp_values.specs.Lists.{Among}
use Rattle.ojp_values.specs.Texts.{Text, same}
use Rattle.ojp_values.specs.declared.trips.Neighbour.{Neighbour}
use Rattle.ojp_values.specs.declared.trips.Point.{Point}
use Rattle.ojp_exchange.specs.Kept.{Says, SaysNothing}

-- the neighbour is one of the regions, and does not declare the point's region there
abbrev pub IsLacking : List Text → List Point → Point → Neighbour → Type 0
IsLacking codes points point neighbour = Among neighbour.code codes × SaysNothing points point.stop neighbour.code point.region

-- the neighbour declares the point's region there, if it is one of the regions
abbrev pub Returns : List Text → List Point → Point → Neighbour → Type 0
Returns codes points point neighbour = Among neighbour.code codes → (change : ℕ) × Says points point.stop neighbour.code point.region change

-- so does each neighbour of the point
abbrev pub AllReturn : List Text → List Point → Point → Type 0
AllReturn codes points point = (neighbour : Neighbour) → Among neighbour point.neighbours → Returns codes points point neighbour

-- the code is that of the first neighbour that does not
pub record IsFirstLacking (codes : List Text) (points : List Point) (point : Point) (code : Text) : Type 0 where
  pub number : ℕ
  pub neighbour : Neighbour
  pub at : slice_get point.neighbours number ≡ Some neighbour
  pub code_is : neighbour.code ≡ code
  pub lacking : IsLacking codes points point neighbour
  pub before : (k : ℕ) (other : Neighbour) → slice_get point.neighbours k ≡ Some other → k < number → Returns codes points point other

-- the point and the code are of the first point with a neighbour that does not
pub record IsFirstPoint (codes : List Text) (points : List Point) (stop region code : Text) : Type 0 where
  pub number : ℕ
  pub point : Point
  pub at : slice_get points number ≡ Some point
  pub stop_is : point.stop ≡ stop
  pub region_is : point.region ≡ region
  pub first : IsFirstLacking codes points point code
  pub before : (k : ℕ) (other : Point) → slice_get points k ≡ Some other → k < number → AllReturn codes points other

-- whether no point behind the one of that number is at its stop, next to it
pub record IsLastThere (points : List Point) (i : ℕ) (last : Bool) : Type 0 where
  pub point : Point
  pub at : slice_get points i ≡ Some point
  pub end : length points ≡ i + 1 → last ≡ true
  pub apart : (next : Point) → slice_get points (i + 1) ≡ Some next → MatchBool last (same point.stop next.stop ≡ false) (same point.stop next.stop ≡ true)
