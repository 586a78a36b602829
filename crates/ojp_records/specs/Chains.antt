-- Trips of a record that a traveller can ride one after another.
use Rattle.std.specs.Prelude.{◌≡◌, ◌≢◌, ℕ, ◌+◌, ◌≤◌, List, [], ◌∷◌, Some}
use Rattle.std.specs.List.{flat_map}
use Rattle.ojp_values.specs.Lists.{Among}
use Rattle.ojp_values.specs.Texts.{Text}
use Rattle.ojp_values.specs.declared.asks.TripAsk.{TripAsk}
use Rattle.ojp_values.specs.declared.trips.Leg.{Leg}
use Rattle.ojp_values.specs.declared.trips.Trip.{Trip}
use Rattle.ojp_values.specs.declared.replies.TripResult.{TripResult}
use Rattle.ojp_values.specs.declared.replies.TripResult.TheVariants as results
use Rattle.ojp_values.specs.declared.replies.MultiReply.TheVariants as multi_replies
use Rattle.ojp_values.specs.declared.replies.Delivery.TheVariants as deliveries
use Rattle.ojp_timetable.specs.Runs.{day_long}
use Rattle.ojp_timetable.specs.Journeys.{Standing, IsAt, reached}
use Rattle.ojp_exchange.specs.Book.{Book, HasChange}
use Rattle.ojp_records.specs.declared.queries.Query.TheVariants.{Reach}
use Rattle.ojp_records.specs.declared.queries.Entry.{Entry}
use Rattle.ojp_records.specs.Told.{EntryFits}

-- a fitting reply in the record gave the trip for a query of the region, from the stop at the start
pub record IsTripOf (book : Book) (ask : TripAsk) (told : List Entry) (region stop : Text) (start : ℕ) (trip : Trip) : Type 0 where
  pub entry : Entry
  pub of_record : Among entry told
  pub query : entry.query ≡ Reach region stop start
  pub fits : EntryFits book ask entry
  pub found : List TripResult
  pub reply : entry.reply ≡ Some (deliveries.Multi (multi_replies.Results found))
  pub listed : Among (results.Trip trip) found
  pub rides : trip.legs ≢ []

-- a trip of the next region goes on from where one stands, after the time for the change
pub record GoesOnBy (book : Book) (ask : TripAsk) (told : List Entry) (at : Standing) (next : Text) (trip : Trip) : Type 0 where
  pub other : at.region ≢ next
  pub change : ℕ
  pub has : HasChange book at.stop at.region next change
  pub of_record : IsTripOf book ask told next at.stop (at.moment + change) trip

-- the trips go on from where one stands, and end at the target at a
abbrev pub ChainOn : Book → TripAsk → List Entry → Standing → List Trip → ℕ → Type 0
ChainOn book ask told at [] a = IsAt at ask.target a
ChainOn book ask told at (trip ∷ trips) a =
    (next : Text) × GoesOnBy book ask told at next trip × ChainOn book ask told (reached at trip.legs) trips a

-- the first trip is from the origin at the asked start, and the last ends at the target at a
abbrev pub Chain : Book → TripAsk → List Entry → List Trip → ℕ → Type 0
Chain book ask told [] a = ⊥
Chain book ask told (trip ∷ trips) a =
    (region : Text) × IsTripOf book ask told region ask.origin ask.start trip
    × ChainOn book ask told (reached (record { region = region; stop = ask.origin; moment = ask.start }) trip.legs) trips a

-- the legs of the trip
abbrev pub legs_of : Trip → List Leg
legs_of trip = trip.legs

-- the legs are those of such trips, one after another, which end at the target at a, within the requested day
pub record Chained (book : Book) (ask : TripAsk) (told : List Entry) (legs : List Leg) (a : ℕ) : Type 0 where
  pub trips : List Trip
  pub joined : legs ≡ flat_map legs_of trips
  pub chain : Chain book ask told trips a
  pub within : a ≤ ask.start + day_long
