-- Small networks: what a search wants at each step of a record, the best arrival and the end.
-- All moments are of 2024-05-06, in UTC; a region needs 300 seconds for a change from another one, unless said otherwise.
use Rattle.std.specs.Prelude.{◌≡◌, ℕ, ◌+◌, ◌-◌, ◌*◌, List, [], ◌∷◌, ◌++◌, Some, None, codes}
use Rattle.ojp_values.specs.Texts.{Text}
use Rattle.ojp_values.specs.declared.asks.TripAsk.{TripAsk}
use Rattle.ojp_values.specs.declared.replies.Fault.TheVariants.{StopUnknown, NoTrip, RegionFailed}
use Rattle.ojp_values.specs.declared.replies.TripResult.{TripResult}
use Rattle.ojp_values.specs.declared.replies.TripResult.TheVariants as results
use Rattle.ojp_values.specs.declared.replies.MultiReply.TheVariants as multi_replies
use Rattle.ojp_values.specs.declared.replies.EventsReply.TheVariants as events_replies
use Rattle.ojp_values.specs.declared.replies.Delivery.TheVariants as deliveries
use Rattle.ojp_exchange.specs.Book.{Book, Spot, Link}
use Rattle.ojp_records.specs.declared.queries.Query.TheVariants.{Check, Reach}
use Rattle.ojp_records.specs.declared.queries.Entry.{Entry}
use Rattle.ojp_records.specs.Starts.{best}
use Rattle.ojp_records.specs.Wanted.{wanted}
use Rattle.ojp_records.specs.Ends.{fault}
use Rattle.ojp_records.specs.Told.{IsRecord}

-- the moment of the day, by its hours and minutes
abbrev pub at : ℕ → ℕ → ℕ
at hours minutes = 1714953600 + (hours * 3600 + minutes * 60)

-- the region AA
abbrev pub code_aa : Text
code_aa = codes "AA"

-- the region BB
abbrev pub code_bb : Text
code_bb = codes "BB"

-- the region CC
abbrev pub code_cc : Text
code_cc = codes "CC"

-- the exchange point x:P
abbrev pub point_p : Text
point_p = codes "x:P"

-- the exchange point x:Q
abbrev pub point_q : Text
point_q = codes "x:Q"

-- the stop AA:a
abbrev pub start_stop : Text
start_stop = codes "AA:a"

-- the region declares the stop, with 60 seconds for a change of its own
abbrev pub spot : Text → Text → Spot
spot stop region = record { stop = stop; region = region; change = 60 }

-- the region declares the other one at the stop
abbrev pub link : Text → Text → Text → ℕ → Link
link stop region other change = record { stop = stop; region = region; other = other; change = change }

-- a trip of one ride
abbrev pub by_ride : Text → Text → Text → ℕ → Text → ℕ → TripResult
by_ride region journey board departs alight arrives =
    results.Trip (record {
      duration = arrives - departs;
      start = departs;
      end = arrives;
      transfers = 0;
      legs = record {
        region = region;
        journey = journey;
        line = codes "L";
        day = 19849;
        board = board;
        board_name = codes "a";
        departs = departs;
        alight = alight;
        alight_name = codes "b";
        arrives = arrives;
      } ∷ [];
    })

-- the region has the stop
abbrev pub known : Text → Text → Entry
known region stop = record { query = Check region stop; reply = Some (deliveries.Events (events_replies.Events [])) }

-- the region replied with these results
abbrev pub heard : Text → Text → ℕ → List TripResult → Entry
heard region stop start found = record { query = Reach region stop start; reply = Some (deliveries.Multi (multi_replies.Results found)) }

-- the query failed
abbrev pub failed_reach : Text → Text → ℕ → Entry
failed_reach region stop start = record { query = Reach region stop start; reply = None }

-- x:P is shared by AA, BB and CC, and x:Q by AA and BB; CC needs so much for a change at x:P from AA and from BB
abbrev pub three_regions : ℕ → ℕ → Book
three_regions from_aa from_bb =
    record {
      codes = code_aa ∷ code_bb ∷ code_cc ∷ [];
      spots = spot point_p code_aa ∷ spot point_p code_bb ∷ spot point_p code_cc ∷ spot point_q code_aa ∷ spot point_q code_bb ∷ [];
      links = link point_p code_aa code_bb 300 ∷ link point_p code_aa code_cc 300 ∷ link point_p code_bb code_aa 300 ∷ link point_p code_bb code_cc 300
          ∷ link point_p code_cc code_aa from_aa ∷ link point_p code_cc code_bb from_bb ∷ link point_q code_aa code_bb 300 ∷ link point_q code_bb code_aa 300 ∷ [];
    }

-- The later arrival wins. By AA a traveller is at x:P at 10:00, and by way of x:Q and BB at 10:05; but CC needs 900
-- seconds from AA and 60 from BB, so only the later one reaches the ride of CC at 10:06.

-- from AA:a at 08:55 to CC:z
abbrev pub to_cc : TripAsk
to_cc = record { origin = start_stop; start = at 8 55; target = codes "CC:z" }

-- 900 seconds from AA and 60 from BB
abbrev pub slow_change : Book
slow_change = three_regions 900 60

-- both places are known
abbrev pub places_known : List Entry
places_known = known code_aa start_stop ∷ known code_cc (codes "CC:z") ∷ []

-- AA reaches x:P at 10:00 and x:Q at 09:20
abbrev pub both_points : List Entry
both_points =
    places_known
    ++ heard code_aa start_stop (at 8 55) (by_ride code_aa (codes "J1") start_stop (at 9 0) point_p (at 10 0) ∷ by_ride code_aa (codes "J2") start_stop (at 9 0) point_q (at 9 20) ∷ []) ∷ []

-- BB reaches x:P from x:Q at 10:05
abbrev pub slow_to_p : Entry
slow_to_p = heard code_bb point_q (at 9 25) (by_ride code_bb (codes "K1") point_q (at 9 30) point_p (at 10 5) ∷ [])

-- the arrival by BB at x:P is heard before CC is asked there
abbrev pub later_first : List Entry
later_first =
    both_points
    ++ slow_to_p
    ∷ heard code_cc point_p (at 10 6) (by_ride code_cc (codes "M1") point_p (at 10 6) (codes "CC:z") (at 10 30) ∷ [])
    ∷ heard code_aa point_p (at 10 10) (results.NoTrip point_q ∷ [])
    ∷ heard code_bb point_p (at 10 5) (results.NoTrip point_q ∷ [])
    ∷ []

-- CC is asked from the arrival by AA first, and again after that by BB
abbrev pub earlier_first : List Entry
earlier_first =
    both_points
    ++ heard code_bb point_p (at 10 5) (results.NoTrip point_q ∷ [])
    ∷ heard code_cc point_p (at 10 15) (by_ride code_cc (codes "M2") point_p (at 10 20) (codes "CC:z") (at 10 50) ∷ [])
    ∷ slow_to_p
    ∷ heard code_aa point_p (at 10 10) (results.NoTrip point_q ∷ [])
    ∷ heard code_cc point_p (at 10 6) (by_ride code_cc (codes "M1") point_p (at 10 6) (codes "CC:z") (at 10 30) ∷ [])
    ∷ []

-- whichever of the two was heard first, the end is the same
pub record LaterArrivalWins : Type 0 where
  pub checks : wanted slow_change to_cc [] ≡ Check code_aa start_stop ∷ Check code_cc (codes "CC:z") ∷ []
  pub origin : wanted slow_change to_cc places_known ≡ Reach code_aa start_stop (at 8 55) ∷ []
  pub points : wanted slow_change to_cc both_points ≡ Reach code_bb point_p (at 10 5) ∷ Reach code_cc point_p (at 10 15) ∷ Reach code_bb point_q (at 9 25) ∷ []
  pub superseded : wanted slow_change to_cc (both_points ++ slow_to_p ∷ []) ≡ Reach code_aa point_p (at 10 10) ∷ Reach code_bb point_p (at 10 5) ∷ Reach code_cc point_p (at 10 6) ∷ []
  pub nothing_more : wanted slow_change to_cc later_first ≡ []
  pub best_arrival : best slow_change to_cc later_first ≡ Some (at 10 30)
  pub trip : fault slow_change to_cc later_first ≡ None
  pub nothing_more_either : wanted slow_change to_cc earlier_first ≡ []
  pub best_arrival_too : best slow_change to_cc earlier_first ≡ Some (at 10 30)
  pub trip_too : fault slow_change to_cc earlier_first ≡ None

-- Out and back. From AA:a to AA:z a ride of AA itself arrives at 12:00; by x:P, a ride of BB and x:Q one is there at 10:10.

-- AA and BB share x:P and x:Q
abbrev pub two_regions : Book
two_regions =
    record {
      codes = code_aa ∷ code_bb ∷ [];
      spots = spot point_p code_aa ∷ spot point_p code_bb ∷ spot point_q code_aa ∷ spot point_q code_bb ∷ [];
      links = link point_p code_aa code_bb 300 ∷ link point_p code_bb code_aa 300 ∷ link point_q code_aa code_bb 300 ∷ link point_q code_bb code_aa 300 ∷ [];
    }

-- from AA:a at 08:55 to AA:z
abbrev pub to_aa : TripAsk
to_aa = record { origin = start_stop; start = at 8 55; target = codes "AA:z" }

-- both places are known
abbrev pub own_places : List Entry
own_places = known code_aa start_stop ∷ known code_aa (codes "AA:z") ∷ []

-- AA reaches x:P at 09:10 and AA:z at 12:00
abbrev pub own_trip : List Entry
own_trip =
    own_places
    ++ heard code_aa start_stop (at 8 55) (by_ride code_aa (codes "J1") start_stop (at 9 0) point_p (at 9 10) ∷ results.NoTrip point_q ∷ by_ride code_aa (codes "J2") start_stop (at 9 0) (codes "AA:z") (at 12 0) ∷ []) ∷ []

-- BB reaches x:Q at 09:40
abbrev pub out : List Entry
out = own_trip ++ heard code_bb point_p (at 9 15) (by_ride code_bb (codes "K1") point_p (at 9 20) point_q (at 9 40) ∷ []) ∷ []

-- AA reaches AA:z from there at 10:10
abbrev pub back : List Entry
back = out ++ heard code_aa point_q (at 9 45) (results.NoTrip point_p ∷ by_ride code_aa (codes "J3") point_q (at 9 50) (codes "AA:z") (at 10 10) ∷ []) ∷ []

-- the record was told in turn, and its replies fit
pub record OutAndBack : Type 0 where
  pub told_well : IsRecord two_regions to_aa back
  pub checks : wanted two_regions to_aa [] ≡ Check code_aa start_stop ∷ Check code_aa (codes "AA:z") ∷ []
  pub origin : wanted two_regions to_aa own_places ≡ Reach code_aa start_stop (at 8 55) ∷ []
  pub best_by_itself : best two_regions to_aa own_trip ≡ Some (at 12 0)
  pub point : wanted two_regions to_aa own_trip ≡ Reach code_bb point_p (at 9 15) ∷ []
  pub return : wanted two_regions to_aa out ≡ Reach code_aa point_q (at 9 45) ∷ []
  pub nothing_more : wanted two_regions to_aa back ≡ []
  pub best_arrival : best two_regions to_aa back ≡ Some (at 10 10)
  pub trip : fault two_regions to_aa back ≡ None

-- From an exchange point to another, which three regions share: nothing is checked, and each region is asked.

-- AA, BB and CC share x:P and x:Q
abbrev pub shared_points : Book
shared_points =
    record {
      codes = code_aa ∷ code_bb ∷ code_cc ∷ [];
      spots = spot point_p code_aa ∷ spot point_p code_bb ∷ spot point_p code_cc ∷ spot point_q code_aa ∷ spot point_q code_bb ∷ spot point_q code_cc ∷ [];
      links = link point_p code_aa code_bb 300 ∷ link point_p code_aa code_cc 300 ∷ link point_p code_bb code_aa 300 ∷ link point_p code_bb code_cc 300 ∷ link point_p code_cc code_aa 300 ∷ link point_p code_cc code_bb 300
          ∷ link point_q code_aa code_bb 300 ∷ link point_q code_aa code_cc 300 ∷ link point_q code_bb code_aa 300 ∷ link point_q code_bb code_cc 300 ∷ link point_q code_cc code_aa 300 ∷ link point_q code_cc code_bb 300 ∷ [];
    }

-- from x:P at 08:59 to x:Q
abbrev pub to_point : TripAsk
to_point = record { origin = point_p; start = at 8 59; target = point_q }

-- BB is heard first, and reaches x:Q at 09:40
abbrev pub first_heard : List Entry
first_heard = heard code_bb point_p (at 8 59) (by_ride code_bb (codes "K1") point_p (at 9 5) point_q (at 9 40) ∷ []) ∷ []

-- AA and CC reach it later
abbrev pub all_heard : List Entry
all_heard =
    first_heard
    ++ heard code_aa point_p (at 8 59) (by_ride code_aa (codes "J1") point_p (at 9 0) point_q (at 9 50) ∷ [])
    ∷ heard code_cc point_p (at 8 59) (by_ride code_cc (codes "M1") point_p (at 9 10) point_q (at 9 45) ∷ [])
    ∷ []

-- the first that is heard is the best, and the others are heard too
pub record PointToPoint : Type 0 where
  pub regions : wanted shared_points to_point [] ≡ Reach code_aa point_p (at 8 59) ∷ Reach code_bb point_p (at 8 59) ∷ Reach code_cc point_p (at 8 59) ∷ []
  pub others : wanted shared_points to_point first_heard ≡ Reach code_aa point_p (at 8 59) ∷ Reach code_cc point_p (at 8 59) ∷ []
  pub nothing_more : wanted shared_points to_point all_heard ≡ []
  pub best_arrival : best shared_points to_point all_heard ≡ Some (at 9 40)
  pub trip : fault shared_points to_point all_heard ≡ None

-- A failure that is superseded. CC fails at x:P for the start at 10:05, which an arrival at 09:30 then supersedes.

-- 300 seconds everywhere
abbrev pub even_change : Book
even_change = three_regions 300 300

-- AA reaches x:P at 10:00 and x:Q at 09:10
abbrev pub points_heard : List Entry
points_heard =
    places_known
    ++ heard code_aa start_stop (at 8 55) (by_ride code_aa (codes "J1") start_stop (at 9 0) point_p (at 10 0) ∷ by_ride code_aa (codes "J2") start_stop (at 9 0) point_q (at 9 10) ∷ []) ∷ []

-- CC fails at x:P from 10:05
abbrev pub failed_once : List Entry
failed_once = points_heard ++ heard code_bb point_p (at 10 5) (results.NoTrip point_q ∷ []) ∷ failed_reach code_cc point_p (at 10 5) ∷ []

-- BB reaches x:P at 09:30
abbrev pub sooner : List Entry
sooner =
    failed_once
    ++ heard code_bb point_q (at 9 15) (by_ride code_bb (codes "K1") point_q (at 9 20) point_p (at 9 30) ∷ []) ∷ heard code_aa point_p (at 9 35) (results.NoTrip point_q ∷ []) ∷ []

-- CC is asked there again from 09:35, and reaches CC:z at 10:00
abbrev pub superseded : List Entry
superseded = sooner ++ heard code_cc point_p (at 9 35) (by_ride code_cc (codes "M1") point_p (at 9 40) (codes "CC:z") (at 10 0) ∷ []) ∷ []

-- CC fails from 09:35 too
abbrev pub failed_again : List Entry
failed_again = sooner ++ failed_reach code_cc point_p (at 9 35) ∷ []

-- a trip where the second reply comes, and a failure of CC where that fails too
pub record FailureIsSuperseded : Type 0 where
  pub points : wanted even_change to_cc points_heard ≡ Reach code_bb point_p (at 10 5) ∷ Reach code_cc point_p (at 10 5) ∷ Reach code_bb point_q (at 9 15) ∷ []
  pub failed : wanted even_change to_cc failed_once ≡ Reach code_bb point_q (at 9 15) ∷ []
  pub stands_then : fault even_change to_cc failed_once ≡ Some (RegionFailed code_cc)
  pub again : wanted even_change to_cc sooner ≡ Reach code_cc point_p (at 9 35) ∷ []
  pub nothing_more : wanted even_change to_cc superseded ≡ []
  pub best_arrival : best even_change to_cc superseded ≡ Some (at 10 0)
  pub trip : fault even_change to_cc superseded ≡ None
  pub nothing_more_either : wanted even_change to_cc failed_again ≡ []
  pub no_arrival : best even_change to_cc failed_again ≡ None
  pub stands : fault even_change to_cc failed_again ≡ Some (RegionFailed code_cc)

-- The time for a change is exact. BB declares 600 seconds from AA at x:P, so a traveller who is there at 08:30 may
-- leave with BB from 08:40:00; with 601 from 08:40:01.

-- AA and BB share x:P, where BB needs so much for a change from AA
abbrev pub one_point : ℕ → Book
one_point from_aa =
    record {
      codes = code_aa ∷ code_bb ∷ [];
      spots = spot point_p code_aa ∷ spot point_p code_bb ∷ [];
      links = link point_p code_aa code_bb 300 ∷ link point_p code_bb code_aa from_aa ∷ [];
    }

-- from AA:a at 07:55 to BB:z
abbrev pub to_bb : TripAsk
to_bb = record { origin = start_stop; start = at 7 55; target = codes "BB:z" }

-- AA reaches x:P at 08:30
abbrev pub at_point : List Entry
at_point =
    known code_bb (codes "BB:z") ∷ known code_aa start_stop
    ∷ heard code_aa start_stop (at 7 55) (by_ride code_aa (codes "J1") start_stop (at 8 0) point_p (at 8 30) ∷ []) ∷ []

-- the start with BB is the arrival plus what BB declares
pub record ChangeIsExact : Type 0 where
  pub met : wanted (one_point 600) to_bb at_point ≡ Reach code_bb point_p (at 8 40) ∷ []
  pub one_more : wanted (one_point 601) to_bb at_point ≡ Reach code_bb point_p (at 8 40 + 1) ∷ []

-- Unknown places. AA and BB share no exchange point, and the book has no region ZZ.

-- AA and BB without exchange points
abbrev pub apart : Book
apart = record { codes = code_aa ∷ code_bb ∷ []; spots = []; links = [] }

-- from the origin at 08:00 to the target
abbrev pub ask_to : Text → Text → TripAsk
ask_to origin target = record { origin = origin; start = at 8 0; target = target }

-- the region does not have the stop
abbrev pub unknown : Text → Text → Entry
unknown region stop = record { query = Check region stop; reply = Some (deliveries.Events (events_replies.Fault (StopUnknown stop))) }

-- the check failed
abbrev pub unchecked : Text → Text → Entry
unchecked region stop = record { query = Check region stop; reply = None }

-- a stop that BB does not have
abbrev pub nowhere : Text
nowhere = codes "BB:nope"

-- a stop of a region that the book lacks
abbrev pub of_no_region : Text
of_no_region = codes "ZZ:z"

-- a stop of no region is asked of none; an unknown origin ends the search at once; an unknown target comes before a failed check
pub record PlacesAreChecked : Type 0 where
  pub both : wanted apart (ask_to start_stop nowhere) [] ≡ Check code_aa start_stop ∷ Check code_bb nowhere ∷ []
  pub other : wanted apart (ask_to start_stop nowhere) (unknown code_bb nowhere ∷ []) ≡ Check code_aa start_stop ∷ []
  pub ends : wanted apart (ask_to start_stop nowhere) (unknown code_bb nowhere ∷ known code_aa start_stop ∷ []) ≡ []
  pub target : fault apart (ask_to start_stop nowhere) (unknown code_bb nowhere ∷ known code_aa start_stop ∷ []) ≡ Some (StopUnknown nowhere)
  pub unknown_first : fault apart (ask_to start_stop nowhere) (unknown code_bb nowhere ∷ unchecked code_aa start_stop ∷ []) ≡ Some (StopUnknown nowhere)
  pub origin_only : wanted apart (ask_to start_stop of_no_region) [] ≡ Check code_aa start_stop ∷ []
  pub no_region : fault apart (ask_to start_stop of_no_region) (known code_aa start_stop ∷ []) ≡ Some (StopUnknown of_no_region)
  pub nothing : wanted apart (ask_to (codes "ZZ:y") of_no_region) [] ≡ []
  pub origin : fault apart (ask_to (codes "ZZ:y") of_no_region) [] ≡ Some (StopUnknown (codes "ZZ:y"))
  pub failed_check : fault apart (ask_to start_stop (codes "BB:b")) (known code_bb (codes "BB:b") ∷ unchecked code_aa start_stop ∷ []) ≡ Some (RegionFailed code_aa)
  pub no_trip : fault apart (ask_to start_stop (codes "BB:b")) (known code_bb (codes "BB:b") ∷ known code_aa start_stop ∷ []) ≡ Some (NoTrip (codes "BB:b"))

-- What can't improve is wanted no more. Once BB:z is reached at 09:40, no start of CC at 09:55 or 10:00 matters.

-- the exchange point x:R
abbrev pub point_r : Text
point_r = codes "x:R"

-- AA shares x:P with BB, and x:Q and x:R with CC
abbrev pub three_points : Book
three_points =
    record {
      codes = code_aa ∷ code_bb ∷ code_cc ∷ [];
      spots = spot point_p code_aa ∷ spot point_p code_bb ∷ spot point_q code_aa ∷ spot point_q code_cc ∷ spot point_r code_aa ∷ spot point_r code_cc ∷ [];
      links = link point_p code_aa code_bb 300 ∷ link point_p code_bb code_aa 300 ∷ link point_q code_aa code_cc 300 ∷ link point_q code_cc code_aa 300
          ∷ link point_r code_aa code_cc 300 ∷ link point_r code_cc code_aa 300 ∷ [];
    }

-- from AA:a at 08:55 to BB:z
abbrev pub later_to_bb : TripAsk
later_to_bb = record { origin = start_stop; start = at 8 55; target = codes "BB:z" }

-- AA reaches x:P at 09:10, x:Q at 09:50 and x:R at 09:55
abbrev pub three_heard : List Entry
three_heard =
    known code_aa start_stop ∷ known code_bb (codes "BB:z")
    ∷ heard code_aa start_stop (at 8 55)
    (by_ride code_aa (codes "J1") start_stop (at 9 0) point_p (at 9 10) ∷ by_ride code_aa (codes "J2") start_stop (at 9 0) point_q (at 9 50)
    ∷ by_ride code_aa (codes "J3") start_stop (at 9 0) point_r (at 9 55) ∷ []) ∷ []

-- BB reaches BB:z at 09:40
abbrev pub reached : List Entry
reached = three_heard ++ heard code_bb point_p (at 9 15) (by_ride code_bb (codes "K1") point_p (at 9 20) (codes "BB:z") (at 9 40) ∷ []) ∷ []

-- all three are wanted, and then none
pub record LaterStartsAreDropped : Type 0 where
  pub three : wanted three_points later_to_bb three_heard ≡ Reach code_bb point_p (at 9 15) ∷ Reach code_cc point_q (at 9 55) ∷ Reach code_cc point_r (at 10 0) ∷ []
  pub none : wanted three_points later_to_bb reached ≡ []
  pub best_arrival : best three_points later_to_bb reached ≡ Some (at 9 40)
  pub trip : fault three_points later_to_bb reached ≡ None
