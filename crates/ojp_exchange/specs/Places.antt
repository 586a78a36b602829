-- The places of a book, which are the numbers of its spots: who may change where, and which of them lead on.
use Rattle.std.specs.Prelude.{◌≡◌, ℕ, List, Bool, ◌&&◌, Some, slice_get, ◌↔◌}
use Rattle.std.specs.List.{filter}
use Rattle.ojp_values.specs.Lists.{Among, Pairwise}
use Rattle.ojp_values.specs.Texts.{Text, same}
use Rattle.ojp_exchange.specs.declared.spots.Edge.{Edge}
use Rattle.ojp_exchange.specs.Book.{Book, Link, Spot, leads_out}

-- the spot stands at the place
abbrev pub IsSpotAt : Book → ℕ → Spot → Type 0
IsSpotAt book place spot = slice_get book.spots place ≡ Some spot

-- the spot of the region at the stop stands at the place
pub record IsPairAt (book : Book) (place : ℕ) (stop region : Text) : Type 0 where
  pub spot : Spot
  pub at : IsSpotAt book place spot
  pub stop_is : spot.stop ≡ stop
  pub region_is : spot.region ≡ region

-- the region declares no such stop
abbrev pub NoPairAt : Book → Text → Text → Type 0
NoPairAt book stop region = (place : ℕ) → IsPairAt book place stop region → ⊥

-- one who arrived at the one place may change to the other in so much time
pub record IsEdge (book : Book) (from to change : ℕ) : Type 0 where
  pub link : Link
  pub listed : Among link book.links
  pub time : link.change ≡ change
  pub arrives : IsPairAt book from link.stop link.other
  pub leaves : IsPairAt book to link.stop link.region

-- the edge to the place with the time for the change
abbrev pub edge_to : ℕ → ℕ → Edge
edge_to to change = record { to = to; change = change }

-- the edges are the changes from the place
abbrev pub AreEdges : Book → ℕ → List Edge → Type 0
AreEdges book place edges = (to change : ℕ) → Among (edge_to to change) edges ↔ IsEdge book place to change

-- the code has the number among the codes
abbrev pub IsCodeAt : List Text → ℕ → Text → Type 0
IsCodeAt codes number code = slice_get codes number ≡ Some code

-- the code is none of these
abbrev pub IsNoCode : List Text → Text → Type 0
IsNoCode codes code = (number : ℕ) → IsCodeAt codes number code → ⊥

-- the spot is one of the region, and leads on to another region
abbrev pub leads_on : Book → Text → Spot → Bool
leads_on book region spot = same region spot.region && leads_out book region spot.stop

-- the places are those of the region that lead on, rising
abbrev pub AreWays : Book → Text → List ℕ → Type 0
AreWays book region ways = Pairwise (IsSpotAt book) ways (filter (leads_on book region) book.spots)
