-- Small networks: each limit of a search, met exactly and missed by one second or one name.
use Rattle.std.specs.Prelude.{◌≡◌, ℕ, ◌+◌, ◌-◌, List, [], ◌∷◌, ◌++◌, Some, None, codes}
use Rattle.ojp_values.specs.declared.asks.TripAsk.{TripAsk}
use Rattle.ojp_values.specs.declared.asks.Ask.TheVariants as asks
use Rattle.ojp_values.specs.declared.kinds.EventKind.TheVariants.{Departure}
use Rattle.ojp_values.specs.declared.moments.TheConstants.{LAST_SECOND}
use Rattle.ojp_values.specs.declared.replies.Fault.TheVariants.{StopUnknown, RegionFailed}
use Rattle.ojp_values.specs.declared.replies.TripResult.TheVariants as results
use Rattle.ojp_exchange.specs.Book.{Book}
use Rattle.ojp_records.specs.declared.queries.Query.TheVariants.{Check, Reach}
use Rattle.ojp_records.specs.declared.queries.Entry.{Entry}
use Rattle.ojp_records.specs.Starts.{best}
use Rattle.ojp_records.specs.Wanted.{wanted}
use Rattle.ojp_records.specs.Told.{document}
use Rattle.ojp_records.specs.Ends.{fault}
use Rattle.ojp_records.specs.Examples.{at, code_aa, code_bb, code_cc, point_p, point_q, point_r, start_stop, spot, link, by_ride, known, heard, failed_reach, one_point, to_bb, at_point, three_points, later_to_bb, two_regions, to_aa, apart, ask_to, unknown, unchecked}

-- ---- the time for a change, to the end of the search

-- BB reaches BB:z at 09:00, by the ride at 08:40
abbrev pub change_met : List Entry
change_met = at_point ++ heard code_bb point_p (at 8 40) (by_ride code_bb (codes "K1") point_p (at 8 40) (codes "BB:z") (at 9 0) ∷ []) ∷ []

-- a second later only the ride at 09:40 is left, which arrives at 10:00
abbrev pub change_missed : List Entry
change_missed = at_point ++ heard code_bb point_p (at 8 40 + 1) (by_ride code_bb (codes "K2") point_p (at 9 40) (codes "BB:z") (at 10 0) ∷ []) ∷ []

-- the trip by the earlier ride, and by the later one where BB needs a second more
pub record ChangeDecides : Type 0 where
  pub met : wanted (one_point 600) to_bb change_met ≡ []
  pub earlier : best (one_point 600) to_bb change_met ≡ Some (at 9 0)
  pub trip : fault (one_point 600) to_bb change_met ≡ None
  pub missed : wanted (one_point 601) to_bb change_missed ≡ []
  pub later : best (one_point 601) to_bb change_missed ≡ Some (at 10 0)
  pub trip_too : fault (one_point 601) to_bb change_missed ≡ None

-- ---- the requested day and the last moment

-- AA reaches x:P at the moment
abbrev pub point_reached : TripAsk → ℕ → List Entry
point_reached ask moment =
    known code_bb (codes "BB:z") ∷ known code_aa start_stop
    ∷ heard code_aa start_stop ask.start (by_ride code_aa (codes "J1") start_stop ask.start point_p moment ∷ []) ∷ []

-- from AA:a, ten minutes before the last moment, to BB:z
abbrev pub at_the_end : TripAsk
at_the_end = record { origin = start_stop; start = LAST_SECOND - 600; target = codes "BB:z" }

-- BB reaches BB:z at the moment
abbrev pub target_reached : ℕ → List Entry
target_reached moment =
    point_reached to_bb (at 8 30) ++ heard code_bb point_p (at 8 35) (by_ride code_bb (codes "K1") point_p (at 8 35) (codes "BB:z") moment ∷ []) ∷ []

-- a start exactly a day after the asked one is wanted, and one a second later is not; the same at the last moment; an
-- arrival exactly a day after the asked start counts, and one a second later does not
pub record DayIsExact : Type 0 where
  pub start_met : wanted (one_point 300) to_bb (point_reached to_bb (at 7 55 + 86100)) ≡ Reach code_bb point_p (at 7 55 + 86400) ∷ []
  pub start_over : wanted (one_point 301) to_bb (point_reached to_bb (at 7 55 + 86100)) ≡ []
  pub last_met : wanted (one_point 300) at_the_end (point_reached at_the_end (LAST_SECOND - 300)) ≡ Reach code_bb point_p LAST_SECOND ∷ []
  pub last_over : wanted (one_point 301) at_the_end (point_reached at_the_end (LAST_SECOND - 300)) ≡ []
  pub arrival_met : best (one_point 300) to_bb (target_reached (at 7 55 + 86400)) ≡ Some (at 7 55 + 86400)
  pub arrival_over : best (one_point 300) to_bb (target_reached (at 7 55 + 86401)) ≡ None

-- ---- the best arrival

-- AA reaches x:Q at the moment, and BB reaches BB:z at 09:40
abbrev pub best_heard : ℕ → List Entry
best_heard moment =
    known code_aa start_stop ∷ known code_bb (codes "BB:z")
    ∷ heard code_aa start_stop (at 8 55)
    (by_ride code_aa (codes "J1") start_stop (at 9 0) point_p (at 9 10) ∷ by_ride code_aa (codes "J2") start_stop (at 9 0) point_q moment ∷ results.NoTrip point_r ∷ [])
    ∷ heard code_bb point_p (at 9 15) (by_ride code_bb (codes "K1") point_p (at 9 20) (codes "BB:z") (at 9 40) ∷ []) ∷ []

-- a start at the best arrival can't improve, and one a second before can
pub record BestIsExact : Type 0 where
  pub equal : wanted three_points later_to_bb (best_heard (at 9 35)) ≡ []
  pub before : wanted three_points later_to_bb (best_heard (at 9 35 - 1)) ≡ Reach code_cc point_q (at 9 40 - 1) ∷ []

-- ---- which region is named

-- x:P is shared by BB and CC, x:Q by AA and CC, and x:R by AA and BB
abbrev pub in_a_ring : Book
in_a_ring =
    record {
      codes = code_aa ∷ code_bb ∷ code_cc ∷ [];
      spots = spot point_p code_bb ∷ spot point_p code_cc ∷ spot point_q code_aa ∷ spot point_q code_cc ∷ spot point_r code_aa ∷ spot point_r code_bb ∷ [];
      links = link point_p code_bb code_cc 300 ∷ link point_p code_cc code_bb 300 ∷ link point_q code_aa code_cc 300 ∷ link point_q code_cc code_aa 300
          ∷ link point_r code_aa code_bb 300 ∷ link point_r code_bb code_aa 300 ∷ [];
    }

-- from CC:c at 08:00 to x:R
abbrev pub to_point_r : TripAsk
to_point_r = record { origin = codes "CC:c"; start = at 8 0; target = point_r }

-- CC reaches x:P and x:Q at 09:00, and from there BB fails and AA too
abbrev pub both_failed : List Entry
both_failed =
    known code_cc (codes "CC:c")
    ∷ heard code_cc (codes "CC:c") (at 8 0) (by_ride code_cc (codes "M1") (codes "CC:c") (at 8 10) point_p (at 9 0) ∷ by_ride code_cc (codes "M2") (codes "CC:c") (at 8 10) point_q (at 9 0) ∷ [])
    ∷ failed_reach code_bb point_p (at 9 5) ∷ failed_reach code_aa point_q (at 9 5) ∷ []

-- of two regions that failed the one of the least code is named, though the other stands first among the pairs, or was
-- asked about the origin
pub record LeastCodeIsNamed : Type 0 where
  pub settled : wanted in_a_ring to_point_r both_failed ≡ []
  pub of_pairs : fault in_a_ring to_point_r both_failed ≡ Some (RegionFailed code_aa)
  pub of_checks : fault apart (ask_to (codes "BB:b") start_stop) (unchecked code_bb (codes "BB:b") ∷ unchecked code_aa start_stop ∷ []) ≡ Some (RegionFailed code_aa)

-- ---- places and neighbours

-- an origin that is unknown ends the search while the target's check is open
pub record UnknownOriginEnds : Type 0 where
  pub nothing : wanted apart (ask_to (codes "AA:nope") (codes "BB:b")) (unknown code_aa (codes "AA:nope") ∷ []) ≡ []
  pub origin : fault apart (ask_to (codes "AA:nope") (codes "BB:b")) (unknown code_aa (codes "AA:nope") ∷ []) ≡ Some (StopUnknown (codes "AA:nope"))

-- AA and BB share x:P; at x:Q AA declares DD alone, which is no region of the book
abbrev pub with_a_stranger : Book
with_a_stranger =
    record {
      codes = code_aa ∷ code_bb ∷ [];
      spots = spot point_p code_aa ∷ spot point_p code_bb ∷ spot point_q code_aa ∷ [];
      links = link point_p code_aa code_bb 300 ∷ link point_p code_bb code_aa 300 ∷ link point_q code_aa (codes "DD") 300 ∷ [];
    }

-- a check asks for one departure from the asked start; a reach asks for all targets of its pair; an exchange point
-- where only strangers are declared is none of them
pub record DocumentsAsk : Type 0 where
  pub check : document two_regions to_aa (Check code_aa start_stop) ≡ asks.Events (record { stop = start_stop; start = at 8 55; kind = Departure; number = 1 })
  pub reach : document two_regions to_aa (Reach code_aa start_stop (at 8 55)) ≡ asks.Multi (record { origin = start_stop; start = at 8 55; targets = point_p ∷ point_q ∷ codes "AA:z" ∷ [] })
  pub from_point : document two_regions to_aa (Reach code_bb point_p (at 9 15)) ≡ asks.Multi (record { origin = point_p; start = at 9 15; targets = point_q ∷ [] })
  pub stranger : document with_a_stranger to_bb (Reach code_aa start_stop (at 7 55)) ≡ asks.Multi (record { origin = start_stop; start = at 7 55; targets = point_p ∷ [] })
