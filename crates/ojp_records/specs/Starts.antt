-- What a record tells of arrivals: the known starts of a pair, and the best arrival.
use Rattle.std.specs.Prelude.{ℕ, ◌+◌, Bool, not, ◌&&◌, List, [], ◌∷◌, ◌++◌, map, filter, flat_map, Option, Some, None, nat_le, if◌then◌else◌}
use Rattle.ojp_values.specs.Lists.{least, lesser}
use Rattle.ojp_values.specs.Texts.{Text, same}
use Rattle.ojp_values.specs.declared.asks.TripAsk.{TripAsk}
use Rattle.ojp_values.specs.declared.replies.TripResult.{TripResult}
use Rattle.ojp_values.specs.declared.replies.TripResult.TheVariants as results
use Rattle.ojp_values.specs.declared.replies.MultiReply.TheVariants as multi_replies
use Rattle.ojp_values.specs.declared.replies.Delivery.{Delivery}
use Rattle.ojp_values.specs.declared.replies.Delivery.TheVariants as deliveries
use Rattle.ojp_timetable.specs.Runs.{day_long}
use Rattle.ojp_exchange.specs.Book.{Book, Link, has_region, serves}
use Rattle.ojp_records.specs.declared.queries.Query.{Query}
use Rattle.ojp_records.specs.declared.queries.Query.TheVariants.{Reach}
use Rattle.ojp_records.specs.declared.queries.Entry.{Entry}
use Rattle.ojp_records.specs.Pairs.{ends_towards}

-- at the stop one may arrive at the moment by the region
pub record Arrival : Type 0 where
  pub stop : Text
  pub region : Text
  pub moment : ℕ

-- the arrivals that the results tell, at the targets in their order
abbrev pub arrivals_told : Text → List Text → List TripResult → List Arrival
arrivals_told region [] found = []
arrivals_told region (stop ∷ stops) [] = []
arrivals_told region (stop ∷ stops) (results.Trip trip ∷ found) = record { stop = stop; region = region; moment = trip.end } ∷ arrivals_told region stops found
arrivals_told region (stop ∷ stops) (results.NoTrip none ∷ found) = arrivals_told region stops found

-- the arrivals that are heard by the reply to a query
abbrev pub arrivals_heard : Book → TripAsk → Query → Option Delivery → List Arrival
arrivals_heard book ask (Reach region stop start) (Some (deliveries.Multi (multi_replies.Results found))) =
    arrivals_told region (ends_towards book ask.target stop region) found
arrivals_heard book ask query reply = []

-- the arrival is within the requested day
abbrev pub is_within : TripAsk → Arrival → Bool
is_within ask arrival = nat_le arrival.moment (ask.start + day_long)

-- the heard arrivals, but for those after the requested day
unfoldable pub arrivals : Book → TripAsk → List Entry → List Arrival
arrivals book ask told = filter (is_within ask) (flat_map (λ (entry : Entry). arrivals_heard book ask entry.query entry.reply) told)

-- the link is a change from the arrival to the region at the stop
abbrev pub is_change : Text → Text → Arrival → Link → Bool
is_change stop region arrival link = same stop link.stop && (same region link.region && same arrival.region link.other)

-- the arrival is at the stop, by another region of the book
abbrev pub may_change : Book → Text → Text → Arrival → Bool
may_change book stop region arrival = same stop arrival.stop && (not (same region arrival.region) && has_region book arrival.region)

-- the starts of a pair after the arrival: the arrival plus the time for the change
unfoldable pub starts_after : Book → Text → Text → Arrival → List ℕ
starts_after book stop region arrival =
    if may_change book stop region arrival
    then map (λ (link : Link). arrival.moment + link.change) (filter (is_change stop region arrival) book.links)
    else []

-- the asked start, where the stop is the origin and the region serves it
unfoldable pub asked_start : Book → TripAsk → Text → Text → List ℕ
asked_start book ask stop region = if same stop ask.origin && serves book region stop then ask.start ∷ [] else []

-- the known starts of a pair
unfoldable pub known_starts : Book → TripAsk → List Entry → Text → Text → List ℕ
known_starts book ask told stop region =
    asked_start book ask stop region ++ flat_map (starts_after book stop region) (arrivals book ask told)

-- the lesser of both, where there is one
abbrev pub lesser_of : Option ℕ → Option ℕ → Option ℕ
lesser_of None y = y
lesser_of (Some x) y = Some (lesser x y)

-- the moment of the arrival
abbrev pub moment_of : Arrival → ℕ
moment_of arrival = arrival.moment

-- the arrival is at the requested target
abbrev pub is_at_target : TripAsk → Arrival → Bool
is_at_target ask arrival = same ask.target arrival.stop

-- the best arrival: the least heard at the requested target
unfoldable pub best : Book → TripAsk → List Entry → Option ℕ
best book ask told = least (map moment_of (filter (is_at_target ask) (arrivals book ask told)))
