-- The premises of the law on ends are met, with a trip.
use Rattle.std.proofs.Common.{◌≡◌, ◌≢◌, ℕ, true, suc, zero, ◌+◌, ◌*◌, ◌-◌, ◌<◌, ◌≤◌, List, [], ◌∷◌, Some, None, map, length, refl, sym, ◌∙◌, ap, subst, inl, inr, arith, lit≤, lit<, slice_index, slice_get}
use Rattle.std.specs.List.{count_by, sum_by}
use Rattle.std.proofs.lemmas.List.Sums.{sum_by-cons}
use Rattle.ojp_values.specs.Dates.{operating_days}
use Rattle.ojp_values.specs.Limits.{IsChange}
use Rattle.ojp_values.specs.Lists.{Among}
use Rattle.ojp_values.specs.Texts.{Text, same, text_lt, home, is_exchange}
use Rattle.ojp_values.specs.declared.moments.TheConstants.{FIRST_DAY}
use Rattle.ojp_values.specs.declared.trips.Leg.{Leg}
use Rattle.ojp_values.specs.declared.trips.Point.{Point}
use Rattle.ojp_values.specs.declared.replies.TripResult.TheVariants as results
use Rattle.ojp_timetable.specs.Tables.{Timetable, Place, Service, Journey, has, place_of}
use Rattle.ojp_timetable.specs.declared.calls.Call.{Call}
use Rattle.ojp_timetable.specs.Points.{AreWellPoints}
use Rattle.ojp_timetable.specs.Runs.{moment, AreDays, AreFew, AreWhole, IsAt, IsLeg, NoneFalls, IsWellCall, IsWell}
use Rattle.ojp_timetable.specs.Journeys.{alighted, reached, Regional}
use Rattle.ojp_timetable.specs.Answers.{IsEarliestTrip}
use Rattle.ojp_timetable.proofs.RideFacts.{follow_forward}
use Rattle.ojp_exchange.specs.Book.{Spot, Link, HasCode, HasSpot, HasLink, IsBookOfTables, points_of, has_region, serves, is_declared, leads_out}
use Rattle.ojp_exchange.specs.Kept.{IsWellBook}
use Rattle.ojp_exchange.proofs.SortFacts.{count_within}
use Rattle.ojp_records.specs.Records.{is_told, is_failed}
use Rattle.ojp_records.specs.Places.{place_state, checks_in}
use Rattle.ojp_records.specs.Pairs.{pairs_from, ends_towards}
use Rattle.ojp_records.specs.Starts.{arrivals, starts_after, asked_start, known_starts, best}
use Rattle.ojp_records.specs.Wanted.{improving_start, wanted_pairs, wanted}
use Rattle.ojp_records.specs.Ends.{failed_checks, failed_pairs, fault}
use Rattle.ojp_records.specs.Headline.{AreTablesOf}
use Rattle.ojp_records.specs.Examples.{code_aa, point_p, point_q}
use Rattle.ojp_records.specs.OneRegion.{point_at, place_at, daily, leaving, arriving, one_journey, one_table, one_book, across, ride, trip, with_trip, PremisesHold, PremisesAreMet}

-- noons of a zone without an offset
noons_from : ℕ → ℕ → List ℕ
noons_from n zero = []
noons_from n (suc k) = (86400 * n + 43200) ∷ noons_from (suc n) k

noons_length : (n k : ℕ) → length (noons_from n k) ≡ k
unfolding noons_from
noons_length n zero = refl
noons_length n (suc k) = ap suc (noons_length (suc n) k)

noons_at : (n k i : ℕ) → i < k → slice_index (noons_from n k) i ≡ 86400 * (n + i) + 43200
unfolding noons_from
noons_at n zero i h = absurd (omega (arith, h))
noons_at n (suc k) zero h = omega arith
noons_at n (suc k) (suc i) h =
    let rest : slice_index (noons_from (suc n) k) i ≡ 86400 * (suc n + i) + 43200 = noons_at (suc n) k i (omega (arith, h)) in
    rest ∙ omega arith

p_not_q : point_p ≢ point_q
p_not_q e = omega (arith, ap (λ (l : List ℕ). slice_index l 2) e)

record NoonsAre (noons : List ℕ) : Type 0 where
  days : length noons ≡ operating_days
  at : (i : ℕ) → i < operating_days → slice_index noons i ≡ 86400 * (FIRST_DAY + i) + 43200

the_noons : NoonsAre (noons_from FIRST_DAY operating_days)
the_noons = record { days = noons_length FIRST_DAY operating_days; at = λ i h. noons_at FIRST_DAY operating_days i h }

points_well : AreWellPoints code_aa (point_at point_p ∷ point_at point_q ∷ [])
unfolding text_lt
points_well =
    record {
      few = lit≤ tt;
      each = (record { of_region = refl; exchange = refl; rising = tt; others = tt }, (record { of_region = refl; exchange = refl; rising = tt; others = tt }, tt));
      bounded = (((lit≤ tt, lit≤ tt), lit≤ tt, λ k d h. absurd (omega (arith, h))), (((lit≤ tt, lit≤ tt), lit≤ tt, λ k d h. absurd (omega (arith, h))), tt));
      rising = ((refl, tt), (tt, tt));
    }

rows_few : AreFew (place_at point_p ∷ place_at point_q ∷ []) (daily ∷ []) (one_journey ∷ [])
rows_few = record { places_few = lit≤ tt; services_few = lit≤ tt; journeys_few = lit≤ tt; calls_few = omega (arith, sum_by-cons (λ (journey : Journey). length journey.calls) one_journey [], none) }
  where
    none : sum_by (λ (journey : Journey). length journey.calls) [] ≡ 0
    none = refl

is_well :
    (noons : List ℕ) → NoonsAre noons
    → ((journey : Journey) → Among journey (one_journey ∷ []) → journey.service < 1)
    → ((journey : Journey) → Among journey (one_journey ∷ []) → NoneFalls 0 journey.calls)
    → ((journey : Journey) → Among journey (one_journey ∷ []) → (call : Call) → Among call journey.calls → IsWellCall (one_table noons) call)
    → IsWell (one_table noons)
is_well noons are services times calls =
    record {
      services = services;
      dates = dates;
      labels = (tt, tt);
      shape = shape;
      times = times;
      calls = calls;
      changes = changes;
      one_each = one_each;
      points = points_well;
      shared = shared;
      placed = placed;
      few = rows_few;
      days = are.days;
      noons_low = λ day low high. let is : slice_index noons (day - FIRST_DAY) ≡ 86400 * (FIRST_DAY + (day - FIRST_DAY)) + 43200 = are.at (day - FIRST_DAY) (omega (arith, low, high)) in omega (arith, low);
      noons_high = λ day low high. let is : slice_index noons (day - FIRST_DAY) ≡ 86400 * (FIRST_DAY + (day - FIRST_DAY)) + 43200 = are.at (day - FIRST_DAY) (omega (arith, low, high)) in omega (arith, low);
    }
  where
    dates : (service : Service) → Among service (daily ∷ []) → AreDays service.first service.last service.marks
    dates service (inl e) = subst (λ (s : Service). AreDays s.first s.last s.marks) (sym e) (lit≤ tt, lit≤ tt, lit≤ tt, refl)
    dates service (inr none) = absurd none

    shape : (journey : Journey) → Among journey (one_journey ∷ []) → AreWhole journey.calls
    shape journey (inl e) = subst (λ (j : Journey). AreWhole j.calls) (sym e) (refl, refl, (refl, refl))
    shape journey (inr none) = absurd none

    shared : (place : Place) → Among place (place_at point_p ∷ place_at point_q ∷ []) → is_exchange place.stop ≡ true → (point : Point) × Among point (point_at point_p ∷ point_at point_q ∷ []) × IsAt point place
    shared place (inl e) is = subst (λ (x : Place). (point : Point) × Among point (point_at point_p ∷ point_at point_q ∷ []) × IsAt point x) (sym e) (point_at point_p, inl refl, (refl, refl))
    shared place (inr (inl e)) is = subst (λ (x : Place). (point : Point) × Among point (point_at point_p ∷ point_at point_q ∷ []) × IsAt point x) (sym e) (point_at point_q, inr (inl refl), (refl, refl))
    shared place (inr (inr none)) is = absurd none

    placed : (point : Point) → Among point (point_at point_p ∷ point_at point_q ∷ []) → (place : Place) × Among place (place_at point_p ∷ place_at point_q ∷ []) × IsAt point place
    placed point (inl e) = subst (λ (x : Point). (place : Place) × Among place (place_at point_p ∷ place_at point_q ∷ []) × IsAt x place) (sym e) (place_at point_p, inl refl, (refl, refl))
    placed point (inr (inl e)) = subst (λ (x : Point). (place : Place) × Among place (place_at point_p ∷ place_at point_q ∷ []) × IsAt x place) (sym e) (place_at point_q, inr (inl refl), (refl, refl))
    placed point (inr (inr none)) = absurd none

    changes : (place : Place) → Among place (place_at point_p ∷ place_at point_q ∷ []) → (1 ≤ place.change) × (place.change ≤ 7200)
    changes place (inl e) = let c : place.change ≡ 60 = ap (λ (x : Place). x.change) e in (omega arith, omega arith)
    changes place (inr (inl e)) = let c : place.change ≡ 60 = ap (λ (x : Place). x.change) e in (omega arith, omega arith)
    changes place (inr (inr none)) = absurd none

    one_each : (x y : Place) → Among x (place_at point_p ∷ place_at point_q ∷ []) → Among y (place_at point_p ∷ place_at point_q ∷ []) → x.stop ≡ y.stop → x ≡ y
    one_each x y (inl e) (inl f) s = e ∙ sym f
    one_each x y (inl e) (inr (inl f)) s = absurd (p_not_q (sym (ap (λ (z : Place). z.stop) e) ∙ (s ∙ ap (λ (z : Place). z.stop) f)))
    one_each x y (inr (inl e)) (inl f) s = absurd (p_not_q (sym (ap (λ (z : Place). z.stop) f) ∙ (sym s ∙ ap (λ (z : Place). z.stop) e)))
    one_each x y (inr (inl e)) (inr (inl f)) s = e ∙ sym f
    one_each x y (inr (inr none)) h s = absurd none
    one_each x y h (inr (inr none)) s = absurd none

spot_is : (spot : Spot) (s r : Text) (c : ℕ) → s ≡ spot.stop → r ≡ spot.region → c ≡ spot.change → spot ≡ record { stop = s; region = r; change = c }
spot_is spot s r c e f g =
    subst (λ (x : Text). spot ≡ record { stop = x; region = r; change = c }) (sym e)
    (subst (λ (x : Text). spot ≡ record { stop = spot.stop; region = x; change = c }) (sym f)
    (subst (λ (x : ℕ). spot ≡ record { stop = spot.stop; region = spot.region; change = x }) (sym g) refl))

book_of : (noons : List ℕ) → IsBookOfTables (one_table noons ∷ []) one_book
unfolding text_lt same
book_of noons =
    record {
      codes = λ code. (code_to code, code_from code);
      spots = λ spot. (spot_to spot, spot_from spot);
      links = λ link. (λ none. absurd none, link_from link);
      codes_rise = (tt, tt);
      spots_rise = ((refl, tt), (tt, tt));
      links_rise = tt;
    }
  where
    code_to : (code : Text) → Among code (code_aa ∷ []) → HasCode (map points_of (one_table noons ∷ [])) code
    code_to code (inl e) = (points_of (one_table noons), inl refl, sym e)
    code_to code (inr none) = absurd none

    code_from : (code : Text) → HasCode (map points_of (one_table noons ∷ [])) code → Among code (code_aa ∷ [])
    code_from code (list, inl e, is) = inl (sym is ∙ ap (λ it. it.code) e)
    code_from code (list, inr none, is) = absurd none

    spot_to : (spot : Spot) → Among spot one_book.spots → HasSpot (map points_of (one_table noons ∷ [])) spot
    spot_to spot (inl e) = subst (HasSpot (map points_of (one_table noons ∷ []))) (sym e) (record { list = points_of (one_table noons); of_lists = inl refl; code = refl; point = point_at point_p; listed = inl refl; at = refl; time = refl })
    spot_to spot (inr (inl e)) = subst (HasSpot (map points_of (one_table noons ∷ []))) (sym e) (record { list = points_of (one_table noons); of_lists = inl refl; code = refl; point = point_at point_q; listed = inr (inl refl); at = refl; time = refl })
    spot_to spot (inr (inr none)) = absurd none

    by_point : (spot : Spot) (point : Point) → Among point (point_at point_p ∷ point_at point_q ∷ []) → point.stop ≡ spot.stop → point.change ≡ spot.change → code_aa ≡ spot.region → Among spot one_book.spots
    by_point spot point (inl e) at time region =
        let stops : point_p ≡ spot.stop = sym (ap (λ (x : Point). x.stop) e) ∙ at in
        let times : 60 ≡ spot.change = sym (ap (λ (x : Point). x.change) e) ∙ time in
        inl (spot_is spot point_p code_aa 60 stops region times)
    by_point spot point (inr (inl e)) at time region =
        let stops : point_q ≡ spot.stop = sym (ap (λ (x : Point). x.stop) e) ∙ at in
        let times : 60 ≡ spot.change = sym (ap (λ (x : Point). x.change) e) ∙ time in
        inr (inl (spot_is spot point_q code_aa 60 stops region times))
    by_point spot point (inr (inr none)) at time region = absurd none

    spot_from : (spot : Spot) → HasSpot (map points_of (one_table noons ∷ [])) spot → Among spot one_book.spots
    spot_from spot it = go it.of_lists
      where
        go : Among it.list (points_of (one_table noons) ∷ []) → Among spot one_book.spots
        go (inl e) = by_point spot it.point (subst (λ l. Among it.point l.points) e it.listed) it.at it.time (sym (ap (λ l. l.code) e) ∙ it.code)
        go (inr none) = absurd none

    link_from : (link : Link) → HasLink (map points_of (one_table noons ∷ [])) link → ⊥
    link_from link it = go it.of_lists
      where
        no_neighbour : (point : Point) → Among point (point_at point_p ∷ point_at point_q ∷ []) → point.neighbours ≡ []
        no_neighbour point (inl e) = ap (λ (x : Point). x.neighbours) e
        no_neighbour point (inr (inl e)) = ap (λ (x : Point). x.neighbours) e
        no_neighbour point (inr (inr none)) = absurd none

        go : Among it.list (points_of (one_table noons) ∷ []) → ⊥
        go (inl e) = subst (Among it.neighbour) (no_neighbour it.point (subst (λ l. Among it.point l.points) e it.listed)) it.declared
        go (inr none) = none

few_spots : (region : Text) → count_by (λ (spot : Spot). same region spot.region) one_book.spots ≤ 255
few_spots region =
    let few : count_by (λ (spot : Spot). same region spot.region) one_book.spots ≤ 2 = count_within (λ (spot : Spot). same region spot.region) one_book.spots in
    omega arith

one_book_well : IsWellBook one_book
unfolding text_lt same
one_book_well =
    record {
      codes_rise = (tt, tt);
      spots_rise = ((refl, tt), (tt, tt));
      links_rise = tt;
      sound = record { regions_few = lit≤ tt; stops_few = lit≤ tt; agreed = λ link none. absurd none };
      few = few_spots;
      exchange = exchange;
      known = known;
      spot_times = times;
      link_times = λ link none. absurd none;
      differ = λ link none. absurd none;
      declaring = λ link none. absurd none;
    }
  where
    exchange : (spot : Spot) → Among spot one_book.spots → is_exchange spot.stop ≡ true
    exchange spot (inl e) = ap (λ (it : Spot). is_exchange it.stop) e
    exchange spot (inr (inl e)) = ap (λ (it : Spot). is_exchange it.stop) e
    exchange spot (inr (inr none)) = absurd none

    known : (spot : Spot) → Among spot one_book.spots → Among spot.region one_book.codes
    known spot (inl e) = inl (ap (λ (it : Spot). it.region) e)
    known spot (inr (inl e)) = inl (ap (λ (it : Spot). it.region) e)
    known spot (inr (inr none)) = absurd none

    times : (spot : Spot) → Among spot one_book.spots → IsChange spot.change
    times spot (inl e) = subst (λ (it : Spot). IsChange it.change) (sym e) (lit≤ tt, lit≤ tt)
    times spot (inr (inl e)) = subst (λ (it : Spot). IsChange it.change) (sym e) (lit≤ tt, lit≤ tt)
    times spot (inr (inr none)) = absurd none

are_tables_of : (noons : List ℕ) → IsWell (one_table noons) → AreTablesOf (one_table noons ∷ []) one_book
are_tables_of noons well =
    record {
      tables_well = record { well = wells; one_each = ones };
      book_of = book_of noons;
      book_well = one_book_well;
    }
  where
    wells : (table : Timetable) → Among table (one_table noons ∷ []) → IsWell table
    wells table (inl e) = subst IsWell (sym e) well
    wells table (inr none) = absurd none

    ones : (x y : Timetable) → Among x (one_table noons ∷ []) → Among y (one_table noons ∷ []) → x.region ≡ y.region → x ≡ y
    ones x y (inl e) (inl f) s = e ∙ sym f
    ones x y (inr none) h s = absurd none
    ones x y h (inr none) s = absurd none

ride_is_leg : (noons : List ℕ) → NoonsAre noons → IsLeg (one_table noons) ride
unfolding moment place_of same
ride_is_leg noons are =
    let noon : slice_index noons 19847 ≡ 1714996800 = are.at 19847 (lit< tt) in
    record {
      journey = one_journey;
      day = 19849;
      i = 0;
      j = 1;
      board = leaving;
      alight = arriving;
      leaves = 29400;
      comes = 30000;
      of_table = inl refl;
      runs = record { dates = daily; at = refl; first = lit≤ tt; last = lit≤ tt; marked = refl; low = lit≤ tt; high = lit≤ tt };
      later = lit< tt;
      board_at = refl;
      alight_at = refl;
      leaves_at = refl;
      comes_at = refl;
      is = rw noon refl;
    }

leaves_is : (calls : List Call) (i : ℕ) (call : Call) (leaves : ℕ) → calls ≡ leaving ∷ arriving ∷ [] → slice_get calls i ≡ Some call → call.departs ≡ Some leaves → leaves ≡ 29400
leaves_is calls zero call leaves e at d =
    let first : Some leaving ≡ Some call = sym (ap (λ (cs : List Call). slice_get cs 0) e) ∙ at in
    let is : leaving ≡ call = cc in
    let both : Some 29400 ≡ Some leaves = ap (λ (c : Call). c.departs) is ∙ d in
    let value : 29400 ≡ leaves = cc in sym value
leaves_is calls (suc zero) call leaves e at d =
    let second : Some arriving ≡ Some call = sym (ap (λ (cs : List Call). slice_get cs 1) e) ∙ at in
    let is : arriving ≡ call = cc in
    let both : None ≡ Some leaves = ap (λ (c : Call). c.departs) is ∙ d in
    absurd (cc)
leaves_is calls (suc (suc i)) call leaves e at d =
    let none : None ≡ Some call = sym (ap (λ (cs : List Call). slice_get cs (suc (suc i))) e) ∙ at in
    absurd (cc)

comes_is : (calls : List Call) (j : ℕ) (call : Call) (comes : ℕ) → calls ≡ leaving ∷ arriving ∷ [] → slice_get calls j ≡ Some call → call.arrives ≡ Some comes → comes ≡ 30000
comes_is calls zero call comes e at d =
    let first : Some leaving ≡ Some call = sym (ap (λ (cs : List Call). slice_get cs 0) e) ∙ at in
    let is : leaving ≡ call = cc in
    let both : None ≡ Some comes = ap (λ (c : Call). c.arrives) is ∙ d in
    absurd (cc)
comes_is calls (suc zero) call comes e at d =
    let second : Some arriving ≡ Some call = sym (ap (λ (cs : List Call). slice_get cs 1) e) ∙ at in
    let is : arriving ≡ call = cc in
    let both : Some 30000 ≡ Some comes = ap (λ (c : Call). c.arrives) is ∙ d in
    let value : 30000 ≡ comes = cc in sym value
comes_is calls (suc (suc j)) call comes e at d =
    let none : None ≡ Some call = sym (ap (λ (cs : List Call). slice_get cs (suc (suc j))) e) ∙ at in
    absurd (cc)

-- each ride of J1 takes 600 seconds
takes : (noons : List ℕ) (leg : Leg) → IsLeg (one_table noons) leg → leg.arrives ≡ leg.departs + 600
unfolding moment
takes noons leg it = go it.of_table
  where
    go : Among it.journey (one_journey ∷ []) → leg.arrives ≡ leg.departs + 600
    go (inl e) =
        let calls : it.journey.calls ≡ leaving ∷ arriving ∷ [] = ap (λ (j : Journey). j.calls) e in
        let l : it.leaves ≡ 29400 = leaves_is it.journey.calls it.i it.board it.leaves calls it.board_at it.leaves_at in
        let c : it.comes ≡ 30000 = comes_is it.journey.calls it.j it.alight it.comes calls it.alight_at it.comes_at in
        let d : leg.departs ≡ moment (one_table noons) it.day it.leaves = ap (λ (x : Leg). x.departs) it.is in
        let a : leg.arrives ≡ moment (one_table noons) it.day it.comes = ap (λ (x : Leg). x.arrives) it.is in
        omega arith
    go (inr none) = absurd none

earliest_here : (noons : List ℕ) → IsWell (one_table noons) → (a : ℕ) (legs : List Leg) → Regional (one_table noons) point_p 1714983000 point_q a legs → 1714983600 ≤ a
earliest_here noons well a [] (differ, within, leads) = absurd leads
earliest_here noons well a (leg ∷ legs) (differ, within, (own, boards, leaves, follow, ends)) =
    let long : leg.arrives ≡ leg.departs + 600 = takes noons leg own in
    let later : leg.arrives ≤ (reached (alighted leg) legs).moment = follow_forward (one_table noons) (alighted leg) legs well follow in
    omega (arith, leaves, ends.1)

call_well : (noons : List ℕ) (call : Call) → Among call (leaving ∷ arriving ∷ []) → IsWellCall (one_table noons) call
call_well noons call (inl e) = subst (IsWellCall (one_table noons)) (sym e) (record { place = place_at point_p; is_place = inl refl; at = refl; of_region = inr (point_at point_p, inl refl, refl); arrives = tt; departs = lit≤ tt })
call_well noons call (inr (inl e)) = subst (IsWellCall (one_table noons)) (sym e) (record { place = place_at point_q; is_place = inr (inl refl); at = refl; of_region = inr (point_at point_q, inr (inl refl), refl); arrives = lit≤ tt; departs = tt })
call_well noons call (inr (inr none)) = absurd none

well_with : (noons : List ℕ) → NoonsAre noons → IsWell (one_table noons)
well_with noons are = is_well noons are services times calls
  where
    services : (journey : Journey) → Among journey (one_journey ∷ []) → journey.service < 1
    services journey (inl e) = let s : journey.service ≡ 0 = ap (λ (j : Journey). j.service) e in omega arith
    services journey (inr none) = absurd none

    times : (journey : Journey) → Among journey (one_journey ∷ []) → NoneFalls 0 journey.calls
    times journey (inl e) = subst (λ (j : Journey). NoneFalls 0 j.calls) (sym e) (tt, lit≤ tt, (lit≤ tt, tt, tt))
    times journey (inr none) = absurd none

    calls : (journey : Journey) → Among journey (one_journey ∷ []) → (call : Call) → Among call journey.calls → IsWellCall (one_table noons) call
    calls journey (inl e) call h = call_well noons call (subst (Among call) (ap (λ (j : Journey). j.calls) e) h)
    calls journey (inr none) call h = absurd none

trip_is_earliest : (noons : List ℕ) → NoonsAre noons → IsEarliestTrip (one_table noons) point_p 1714983000 point_q trip
trip_is_earliest noons are =
    record {
      journey = (p_not_q, lit≤ tt, (ride_is_leg noons are, refl, lit≤ tt, tt, (refl, refl)));
      earliest = earliest_here noons (well_with noons are);
      first = ride;
      rest = [];
      totals = record { legs_are = refl; start = refl; duration = refl; transfers = refl };
    }

with_a_trip : (noons : List ℕ) → NoonsAre noons → PremisesHold (one_table noons ∷ []) one_book across with_trip × (fault one_book across with_trip ≡ None)
unfolding same text_lt home has_region serves is_declared leads_out is_told is_failed ends_towards arrivals starts_after asked_start known_starts best improving_start pairs_from place_state checks_in wanted_pairs wanted failed_checks failed_pairs fault has
with_a_trip noons are = (
  record {
    whole = are_tables_of noons (well_with noons are);
    differ = p_not_q;
    told_well = record {
      in_turn = (record { before = []; since = []; split = refl; was_wanted = inl refl; untold = refl }, tt);
      fits = (
        (
          record {
            first = ride;
            rest = [];
            totals = record { legs_are = refl; start = refl; duration = refl; transfers = refl };
            of_region = refl;
            boards = refl;
            leaves = lit≤ tt;
            rides = lit≤ tt;
            follow = tt;
            ends = (refl, refl);
            within = lit≤ tt;
          },
          tt,
        ),
        tt,
      );
    };
    given = ((one_table noons, inl refl, refl, (results.Trip trip ∷ [], refl, (trip_is_earliest noons are, tt))), tt);
    settled = refl;
  },
  refl,
)

pub premises_are_met : PremisesAreMet
premises_are_met =
    let both : PremisesHold (one_table (noons_from FIRST_DAY operating_days) ∷ []) one_book across with_trip × (fault one_book across with_trip ≡ None) = with_a_trip (noons_from FIRST_DAY operating_days) the_noons in
    (noons_from FIRST_DAY operating_days, both.0, both.1)
