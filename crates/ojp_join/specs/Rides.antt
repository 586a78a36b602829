-- The trips of a record, and which of them one must have ridden.
use Rattle.std.specs.Prelude.{◌≡◌, ◌≢◌, ℕ, ◌+◌, ◌-◌, ◌<◌, ◌≤◌, List, [], ◌∷◌, Option, Some, None, length, slice_get}
use Rattle.ojp_values.specs.Lists.{Among}
use Rattle.ojp_values.specs.Texts.{Text}
use Rattle.ojp_values.specs.declared.asks.TripAsk.{TripAsk}
use Rattle.ojp_values.specs.declared.trips.Leg.{Leg}
use Rattle.ojp_values.specs.declared.trips.Trip.{Trip}
use Rattle.ojp_values.specs.declared.replies.TripResult.{TripResult}
use Rattle.ojp_values.specs.declared.replies.TripResult.TheVariants as results
use Rattle.ojp_values.specs.declared.replies.MultiReply.{MultiReply}
use Rattle.ojp_values.specs.declared.replies.MultiReply.TheVariants as multi_replies
use Rattle.ojp_values.specs.declared.replies.Delivery.{Delivery}
use Rattle.ojp_values.specs.declared.replies.Delivery.TheVariants as deliveries
use Rattle.ojp_exchange.specs.Book.{Book, HasChange}
use Rattle.ojp_records.specs.declared.queries.Query.TheVariants.{Reach}
use Rattle.ojp_records.specs.declared.queries.Entry.{Entry}
use Rattle.ojp_records.specs.Chains.{Chained}
use Rattle.ojp_join.specs.declared.rides.Ride.{Ride}
use Rattle.ojp_join.specs.declared.rides.Need.{Need}

-- the results of a reply to an ask with many targets
abbrev pub multi_results : MultiReply → List TripResult
multi_results (multi_replies.Results found) = found
multi_results (multi_replies.Fault fault) = []

abbrev pub results_by : Delivery → List TripResult
results_by (deliveries.Multi reply) = multi_results reply
results_by (deliveries.Trip reply) = []
results_by (deliveries.Events reply) = []
results_by (deliveries.Points reply) = []

-- the results of a reply, if it has some
abbrev pub results_in : Option Delivery → List TripResult
results_in None = []
results_in (Some delivery) = results_by delivery

-- the trip is that result of that entry, whose region was asked so
pub record IsRide (told : List Entry) (ride : Ride) (trip : Trip) : Type 0 where
  pub it : Entry
  pub at : slice_get told ride.entry ≡ Some it
  pub query : it.query ≡ Reach ride.region ride.stop ride.start
  pub listed : slice_get (results_in it.reply) ride.result ≡ Some (results.Trip trip)

-- the last of the legs ends at the stop
abbrev pub EndsAt : List Leg → Text → Type 0
EndsAt legs stop = (leg : Leg) × (slice_get legs (length legs - 1) ≡ Some leg) × (leg.alight ≡ stop)

-- one arrives at the moment; or by another region, and after the change to the next one it is that moment
abbrev pub IsInTime : Book → Option Text → Text → Text → ℕ → ℕ → Type 0
IsInTime book None stop region end moment = end ≡ moment
IsInTime book (Some next) stop region end moment = (region ≢ next) × (change : ℕ) × HasChange book stop region next change × (moment ≡ end + change)

-- the trip of the region arrives where and when it must
abbrev pub Meets : Book → Need → Text → Trip → Type 0
Meets book need region trip = EndsAt trip.legs need.stop × IsInTime book need.next need.stop region trip.end need.moment

-- the result is such a trip
abbrev pub IsMet : Book → Need → Text → TripResult → Type 0
IsMet book need region (results.Trip trip) = Meets book need region trip
IsMet book need region (results.NoTrip stop) = ⊥

-- none of the results is
abbrev pub NoneMeets : Book → Need → Text → List TripResult → Type 0
NoneMeets book need region found = (result : TripResult) → Among result found → IsMet book need region result → ⊥

-- the result of that number is
abbrev pub IsFound : Book → Need → Text → List TripResult → ℕ → Type 0
IsFound book need region found number = (trip : Trip) × (slice_get found number ≡ Some (results.Trip trip)) × Meets book need region trip

-- no trip of the entry of that number is
abbrev pub HasNoRide : Book → Need → List Entry → ℕ → Type 0
HasNoRide book need told number =
    (it : Entry) (region stop : Text) (start : ℕ) → slice_get told number ≡ Some it → it.query ≡ Reach region stop start → NoneMeets book need region (results_in it.reply)

-- the legs are those of a chain to the end, from the first of which it is within the requested day
pub record AreJoined (book : Book) (ask : TripAsk) (told : List Entry) (end : ℕ) (legs : List Leg) : Type 0 where
  pub chained : Chained book ask told legs end
  pub first : Leg
  pub rest : List Leg
  pub are : legs ≡ first ∷ rest
  pub count : length legs ≤ 86_401
  pub forward : first.departs ≤ end
  pub within : end ≤ first.departs + 86_400
