-- The pairs of a search, and the ends to which each is asked.
use Rattle.std.specs.Prelude.{◌≡◌, Bool, not, ◌&&◌, ◌||◌, List, [], ◌∷◌, ◌++◌, map, filter, Option, Some, None, if◌then◌else◌}
use Rattle.ojp_values.specs.Lists.{Each, IsRising}
use Rattle.ojp_values.specs.Texts.{Text, same, text_lt, home}
use Rattle.ojp_exchange.specs.Book.{Book, Spot, spot_lt, has_region, serves, leads_out}

-- a stop with a region, from which a search may ask the region
pub record Pair : Type 0 where
  pub stop : Text
  pub region : Text

-- pairs are ordered by stop and region
abbrev pub pair_lt : Pair → Pair → Bool
pair_lt p q = text_lt p.stop q.stop || (same p.stop q.stop && text_lt p.region q.region)

-- the pair in its place among rising pairs
abbrev pub placed : Pair → List Pair → List Pair
placed p [] = p ∷ []
placed p (q ∷ qs) = if pair_lt p q then p ∷ q ∷ qs else q ∷ placed p qs

-- the pairs with that of an own stop, where its region is one of the book
abbrev pub with_own : Book → Text → Option Text → List Pair → List Pair
with_own book stop None pairs = pairs
with_own book stop (Some code) pairs = if has_region book code then placed (record { stop = stop; region = code }) pairs else pairs

-- the pair of a spot
abbrev pub pair_of : Spot → Pair
pair_of spot = record { stop = spot.stop; region = spot.region }

-- the pairs of a search that begins at the stop, rising: each exchange point with a region that declares it, and an own
-- stop with its region
unfoldable pub pairs_from : Book → Text → List Pair
pairs_from book begin = with_own book begin (home begin) (map pair_of book.spots)

-- the spot is one of the region, leads on to another region, and is neither the stop nor the goal
abbrev pub is_way_on : Book → Text → Text → Text → Spot → Bool
is_way_on book goal stop region spot =
    same region spot.region && (leads_out book region spot.stop && (not (same stop spot.stop) && not (same goal spot.stop)))

-- the goal, if it is the region's own or the region declares it
abbrev pub served_goal : Book → Text → Text → List Text
served_goal book goal region = if serves book region goal then goal ∷ [] else []

-- the ends of a pair where one searches towards the goal: the region's ways on, rising, and then the goal
unfoldable pub ends_towards : Book → Text → Text → Text → List Text
ends_towards book goal stop region =
    map (λ (spot : Spot). spot.stop) (filter (is_way_on book goal stop region) book.spots) ++ served_goal book goal region

-- the spots rise, and each is at an exchange point
abbrev pub AreInOrder : List Spot → Type 0
AreInOrder spots = IsRising spot_lt spots × Each (λ (spot : Spot). home spot.stop ≡ None) spots
