-- One small timetable, and what the definitions say of it. Day 19849 is Monday 2024-05-06, and 1714982400 is 08:00 on it in UTC.
use Rattle.std.specs.Prelude.{◌≡◌, ℕ, true, List, [], ◌∷◌, Some, None, codes, slice_index, replicate}
use Rattle.ojp_values.specs.Texts.{Text}
use Rattle.ojp_values.specs.declared.trips.Leg.{Leg}
use Rattle.ojp_values.specs.declared.trips.Point.{Point}
use Rattle.ojp_values.specs.declared.asks.TripAsk.{TripAsk}
use Rattle.ojp_values.specs.declared.asks.Ask.TheVariants as asks
use Rattle.ojp_values.specs.declared.kinds.EventKind.TheVariants.{Departure}
use Rattle.ojp_values.specs.declared.replies.Fault.TheVariants as faults
use Rattle.ojp_values.specs.declared.replies.TripReply.TheVariants as trip_replies
use Rattle.ojp_values.specs.declared.replies.EventsReply.TheVariants as events_replies
use Rattle.ojp_values.specs.declared.replies.PointsReply.TheVariants as points_replies
use Rattle.ojp_values.specs.declared.replies.Delivery.TheVariants as deliveries
use Rattle.ojp_timetable.specs.Tables.{Timetable, Service, Journey, Call}
use Rattle.ojp_timetable.specs.Journeys.{Standing, HasTime, Regional, United}
use Rattle.ojp_timetable.specs.GatewayAnswers.{GatewayAnswers}
use Rattle.ojp_timetable.specs.Answers.{RegionAnswers}

-- each day of 2024
abbrev pub daily : Service
daily = record { id = codes "W"; first = 19723; last = 20088; marks = replicate 7 true }

abbrev pub leaving : Call
leaving = record { stop = codes "AA:a"; arrives = None; departs = Some 29400 }

abbrev pub arriving : Call
arriving = record { stop = codes "AA:b"; arrives = Some 30000; departs = None }

-- J1 leaves AA:a at 08:10 and reaches AA:b at 08:20
abbrev pub first_journey : Journey
first_journey = record { id = codes "J1"; line = codes "L5"; service = 0; calls = leaving ∷ arriving ∷ [] }

-- a region with that one journey, in a zone whose noons these are
abbrev pub small : List ℕ → Timetable
small noons =
    record {
      region = codes "AA";
      places = record { stop = codes "AA:a"; change = 60; name = codes "Alder & Beech" } ∷ record { stop = codes "AA:b"; change = 60; name = codes "Beech" } ∷ [];
      points = [];
      services = daily ∷ [];
      journeys = first_journey ∷ [];
      noons = noons;
    }

-- the ride of J1 on 2024-05-06, where noon is that of UTC
abbrev pub ride : Leg
ride =
    record {
      region = codes "AA";
      journey = codes "J1";
      line = codes "L5";
      day = 19849;
      board = codes "AA:a";
      board_name = codes "Alder & Beech";
      departs = 1714983000;
      alight = codes "AA:b";
      alight_name = codes "Beech";
      arrives = 1714983600;
    }

-- noon of 2024-05-06 is that of UTC
abbrev pub IsInUtc : List ℕ → Type 0
IsInUtc noons = slice_index noons 19847 ≡ 1714996800

-- the ride is a journey from AA:a at 08:00 to AA:b, of the region and of the regions together
abbrev pub RideIsAJourney : Type 0
RideIsAJourney =
    (noons : List ℕ) → IsInUtc noons
    → Regional (small noons) (codes "AA:a") 1714982400 (codes "AA:b") 1714983600 (ride ∷ [])
    × United (small noons ∷ []) (codes "AA:a") 1714982400 (codes "AA:b") 1714983600 (ride ∷ [])

abbrev pub asked : Text → Text → TripAsk
asked o d = record { origin = o; start = 1714982400; target = d }

-- a stop that is both ends is answered as such though it is unknown, and of two unknown stops the origin is named
abbrev pub FaultsAreNamed : Type 0
FaultsAreNamed =
    (noons : List ℕ)
    → RegionAnswers (small noons) (asks.Trip (asked (codes "AA:q") (codes "AA:q"))) (deliveries.Trip (trip_replies.Fault (faults.SameStop (codes "AA:q"))))
    × (RegionAnswers (small noons) (asks.Trip (asked (codes "AA:a") (codes "ZZ:z"))) (deliveries.Trip (trip_replies.Fault (faults.StopUnknown (codes "ZZ:z"))))
    × (RegionAnswers (small noons) (asks.Trip (asked (codes "ZZ:y") (codes "ZZ:z"))) (deliveries.Trip (trip_replies.Fault (faults.StopUnknown (codes "ZZ:y"))))
    × (RegionAnswers (small noons) (asks.Events (record { stop = codes "AA:q"; start = 1714982400; kind = Departure; number = 1 })) (deliveries.Events (events_replies.Fault (faults.StopUnknown (codes "AA:q"))))
    × RegionAnswers (small noons) (asks.Points (record { place = None })) (deliveries.Points (points_replies.Points [])))))

-- the same ride a day after a start, and after one that is a second earlier: the first is a journey
abbrev pub DayIsExact : Type 0
DayIsExact =
    (noons : List ℕ) → IsInUtc noons
    → Regional (small noons) (codes "AA:a") 1714897200 (codes "AA:b") 1714983600 (ride ∷ [])
    × (Regional (small noons) (codes "AA:a") 1714897199 (codes "AA:b") 1714983600 (ride ∷ []) → ⊥)

-- where one reached AA:b at 08:20
abbrev pub at_twenty_past : Standing
at_twenty_past = record { region = codes "AA"; stop = codes "AA:b"; moment = 1714983600 }

-- a leg that departs at the moment
abbrev pub leaves_at : ℕ → Leg
leaves_at moment = record ride { board = codes "AA:b"; departs = moment }

-- AA:b needs 60 seconds for a change: there is time for what departs at 08:21:00, and not for what departs a second before
abbrev pub ChangeIsExact : Type 0
ChangeIsExact =
    (noons : List ℕ)
    → HasTime (small noons) at_twenty_past (leaves_at 1714983660)
    × (HasTime (small noons) at_twenty_past (leaves_at 1714983659) → ⊥)

-- a ride of the region between these stops
abbrev pub short_ride : Text → Text → ℕ → Text → ℕ → Leg
short_ride region board departs alight arrives =
    record { region = region; journey = codes "J"; line = codes "L"; day = 19849; board = board; board_name = codes "a"; departs = departs; alight = alight; alight_name = codes "b"; arrives = arrives }

-- by BB to x:P, by AA from there to AA:b and back, and on by BB
abbrev pub out_and_back : List Leg
out_and_back =
    short_ride (codes "BB") (codes "BB:y") 1714982400 (codes "x:P") 1714983000
    ∷ short_ride (codes "AA") (codes "x:P") 1714983600 (codes "AA:b") 1714984200
    ∷ short_ride (codes "AA") (codes "AA:b") 1714984800 (codes "x:P") 1714985400
    ∷ short_ride (codes "BB") (codes "x:P") 1714986000 (codes "BB:z") 1714986600
    ∷ []

-- rides out of an exchange point and back to it are no part of a journey, whatever the timetables are
abbrev pub OutAndBackIsNone : Type 0
OutAndBackIsNone = (tables : List Timetable) (o : Text) (t : ℕ) (d : Text) (a : ℕ) → United tables o t d a out_and_back → ⊥

-- at x:P the region declares the other one
abbrev pub shared_point : Text → Text → ℕ → Point
shared_point region other change = record { region = region; stop = codes "x:P"; change = 60; neighbours = record { code = other; change = change } ∷ [] }

-- a region with that one exchange point
abbrev pub with_point : Text → Text → ℕ → Timetable
with_point region other change =
    record {
      region = region;
      places = record { stop = codes "x:P"; change = 60; name = codes "P" } ∷ [];
      points = shared_point region other change ∷ [];
      services = [];
      journeys = [];
      noons = [];
    }

-- AA and BB, in whatever order
abbrev pub both_regions : List Timetable
both_regions = with_point (codes "BB") (codes "AA") 600 ∷ with_point (codes "AA") (codes "BB") 300 ∷ []

-- the entry of AA comes before that of BB
abbrev pub both_entries : List Point
both_entries = shared_point (codes "AA") (codes "BB") 300 ∷ shared_point (codes "BB") (codes "AA") 600 ∷ []

-- the gateway lists both entries of a point that two regions share, and no other stop is an exchange point
pub record PointsAreListed : Type 0 where
  pub all : GatewayAnswers both_regions (asks.Points (record { place = None })) (deliveries.Points (points_replies.Points both_entries))
  pub one : GatewayAnswers both_regions (asks.Points (record { place = Some (codes "x:P") })) (deliveries.Points (points_replies.Points both_entries))
  pub none : GatewayAnswers both_regions (asks.Points (record { place = Some (codes "AA:a") })) (deliveries.Points (points_replies.Fault (faults.StopUnknown (codes "AA:a"))))
