-- How a board takes the trips of a reply, target by target.
use Rattle.std.specs.Prelude.{◌≡◌, ℕ, Bool, not, ◌&&◌, ◌⊎◌, List, [], ◌∷◌, ◌++◌, map, length, take, Option, Some, None}
use Rattle.std.specs.List.{filter}
use Rattle.ojp_values.specs.Lists.{least}
use Rattle.ojp_values.specs.Texts.{Text, same}
use Rattle.ojp_values.specs.declared.asks.TripAsk.{TripAsk}
use Rattle.ojp_values.specs.declared.replies.TripResult.{TripResult}
use Rattle.ojp_values.specs.declared.replies.Delivery.{Delivery}
use Rattle.ojp_values.specs.declared.replies.Delivery.TheVariants as deliveries
use Rattle.ojp_values.specs.declared.replies.MultiReply.TheVariants as multi_replies
use Rattle.ojp_exchange.specs.Book.{Book, Spot}
use Rattle.ojp_exchange.specs.Places.{IsPairAt, NoPairAt, leads_on}
use Rattle.ojp_records.specs.declared.queries.Entry.{Entry}
use Rattle.ojp_records.specs.Starts.{Arrival, arrivals_told, is_within, moment_of, is_at_target}
use Rattle.ojp_labels.specs.Labels.{marked_at}
use Rattle.ojp_labels.specs.Boards.{AreLabels}
use Rattle.ojp_labels.specs.declared.labels.Label.{Label}

-- the spot is neither the stop nor the requested target
abbrev pub is_away : TripAsk → Text → Spot → Bool
is_away ask stop spot = not (same stop spot.stop) && not (same ask.target spot.stop)

-- the stop of the spot
abbrev pub stop_of : Spot → Text
stop_of spot = spot.stop

-- the spots by which the region leads on
abbrev pub ways_on : Book → Text → List Spot
ways_on book region = filter (leads_on book region) book.spots

-- the targets among the first ways
abbrev pub stops_to : Book → TripAsk → Text → Text → ℕ → List Text
stops_to book ask stop region ways = map stop_of (filter (is_away ask stop) (take ways (ways_on book region)))

-- the targets but for the requested one
abbrev pub way_stops : Book → TripAsk → Text → Text → List Text
way_stops book ask stop region = map stop_of (filter (is_away ask stop) (ways_on book region))

-- the arrivals within the requested day that these results tell
abbrev pub told_by : TripAsk → Text → List Text → List TripResult → List Arrival
told_by ask region stops found = filter (is_within ask) (arrivals_told region stops found)

-- the labels follow these arrivals, whatever was told and heard before
abbrev pub Follow : Book → TripAsk → List Arrival → List Label → List Label → Type 0
Follow book ask more old new = (told : List Entry) (heard : List Arrival) → AreLabels book ask told heard old → AreLabels book ask told (heard ++ more) new

-- the best of these arrivals
abbrev pub best_by : TripAsk → List Arrival → Option ℕ
best_by ask heard = least (map moment_of (filter (is_at_target ask) heard))

-- a multi reply has one result for each of these targets
abbrev pub AnswersEach : List Text → Option Delivery → Type 0
AnswersEach stops (Some (deliveries.Multi (multi_replies.Results found))) = length stops ≡ length found
AnswersEach stops reply = Unit {0}

-- the arrivals that a reply of the region tells at these targets
abbrev pub heard_in : Text → List Text → Option Delivery → List Arrival
heard_in region stops None = []
heard_in region stops (Some (deliveries.Multi (multi_replies.Results found))) = arrivals_told region stops found
heard_in region stops (Some (deliveries.Multi (multi_replies.Fault fault))) = []
heard_in region stops (Some (deliveries.Trip reply)) = []
heard_in region stops (Some (deliveries.Events reply)) = []
heard_in region stops (Some (deliveries.Points reply)) = []

-- those of them that are within the requested day
abbrev pub told_in : TripAsk → Text → List Text → Option Delivery → List Arrival
told_in ask region stops reply = filter (is_within ask) (heard_in region stops reply)

-- the label of the pair's place is marked, or it has none and the labels are as they were
abbrev pub IsMarked : Book → Text → Text → ℕ → Bool → List Label → List Label → Type 0
IsMarked book region stop start failed old new =
    ((place : ℕ) × IsPairAt book place stop region × (new ≡ marked_at old place start failed)) ⊎ (NoPairAt book stop region × (new ≡ old))
