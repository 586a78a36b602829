-- The wanted queries of a record by numbers: what is wanted of the origin, of the target, of the origin's own pair and
-- of the pair of each place of the book.
use Rattle.std.specs.Prelude.{Bool, true, false, List, [], ◌∷◌, map, Option, Some, None, if◌then◌else◌}
use Rattle.ojp_values.specs.Texts.{Text, home}
use Rattle.ojp_values.specs.declared.asks.TripAsk.{TripAsk}
use Rattle.ojp_exchange.specs.Book.{Book, Spot}
use Rattle.ojp_records.specs.declared.queries.Query.{Query}
use Rattle.ojp_records.specs.declared.queries.Query.TheVariants.{Check}
use Rattle.ojp_records.specs.declared.queries.Entry.{Entry}
use Rattle.ojp_records.specs.declared.places.PlaceState.{PlaceState}
use Rattle.ojp_records.specs.declared.places.PlaceState.TheVariants.{Known, Unknown, Unheard}
use Rattle.ojp_records.specs.Places.{checks_in, place_state}
use Rattle.ojp_records.specs.Pairs.{Pair, pair_of}
use Rattle.ojp_records.specs.Wanted.{improving_start, wanted_at}

-- those of the queries that are there
abbrev pub somes : List (Option Query) → List Query
somes [] = []
somes (None ∷ queries) = somes queries
somes (Some query ∷ queries) = query ∷ somes queries

-- the check of the stop by the region with the code
abbrev pub check_at : Text → Option Text → Option Query
check_at stop None = None
check_at stop (Some code) = Some (Check code stop)

-- the check of the stop, unless it is an exchange point
abbrev pub stop_check : Text → Option Query
stop_check stop = check_at stop (home stop)

-- the origin's check, while it was not told
abbrev pub origin_slot : TripAsk → PlaceState → Option Query
origin_slot ask Unheard = stop_check ask.origin
origin_slot ask state = None

-- the target's check, while it was not told, unless the origin is unknown
abbrev pub target_slot : TripAsk → PlaceState → PlaceState → Option Query
target_slot ask Unknown target = None
target_slot ask origin Unheard = stop_check ask.target
target_slot ask origin target = None

-- both places are known
abbrev pub are_known : PlaceState → PlaceState → Bool
are_known Known Known = true
are_known origin target = false

-- the query of a pair, where both places are known
abbrev pub known_slot : Bool → Option Query → Option Query
known_slot known query = if known then query else None

-- what the record wants of the pair
unfoldable pub pair_slot : Book → TripAsk → List Entry → Pair → Option Query
pair_slot book ask told pair = wanted_at told pair (improving_start book ask told pair)

-- what the record wants of the origin's own pair, if the origin is no exchange point
abbrev pub own_pair_slot : Book → TripAsk → List Entry → Option Text → Option Query
own_pair_slot book ask told None = None
own_pair_slot book ask told (Some code) = pair_slot book ask told (record { stop = ask.origin; region = code })

-- what the record wants of the pairs, where both places are known: the origin's own pair, and that of each place
abbrev pub pair_slots : Book → TripAsk → List Entry → Bool → List (Option Query)
pair_slots book ask told known =
    map (known_slot known) (own_pair_slot book ask told (home ask.origin) ∷ map (λ (spot : Spot). pair_slot book ask told (pair_of spot)) book.spots)

-- by the states of origin and target: the origin's check, the target's, and what is wanted of the pairs
abbrev pub slots_by : Book → TripAsk → List Entry → PlaceState → PlaceState → List (Option Query)
slots_by book ask told origin target =
    origin_slot ask origin ∷ target_slot ask origin target ∷ pair_slots book ask told (are_known origin target)

-- what the record wants, by numbers
unfoldable pub slots : Book → TripAsk → List Entry → List (Option Query)
slots book ask told = slots_by book ask told (place_state book (checks_in told) ask.origin) (place_state book (checks_in told) ask.target)
