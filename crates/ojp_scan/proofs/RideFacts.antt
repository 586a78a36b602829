-- Legs of a table are the rides of its network.
use Rattle.std.proofs.Common.{◌≡◌, ℕ, ◌+◌, ◌-◌, ◌<◌, ◌≤◌, Some, length, sym, ap, subst, refl, inl, inr, arith, slice_get, slice_index, ◌∙◌}
use Rattle.std.proofs.lemmas.Option.{none-some, same_Some, slice_get_within}
use Rattle.ojp_values.specs.Texts.{Text}
use Rattle.ojp_values.specs.declared.moments.TheConstants.{FIRST_DAY, LAST_DAY}
use Rattle.ojp_values.specs.declared.trips.Leg.{Leg}
use Rattle.ojp_timetable.specs.Tables.{Timetable, Journey, change_of}
use Rattle.ojp_timetable.specs.declared.calls.Call.{Call}
use Rattle.ojp_timetable.specs.Runs.{IsWell, IsLeg, RunsOn, moment}
use Rattle.ojp_sweep.specs.declared.connections.Connection.{Connection}
use Rattle.ojp_sweep.specs.declared.connections.Connections.{Connections}
use Rattle.ojp_sweep.specs.declared.connections.Days.{Days}
use Rattle.ojp_sweep.specs.Rides as rides
use Rattle.ojp_sweep.specs.Rides.{IsAt, Ride, IsRide, Runs, Transfers, AreDaysOf}
use Rattle.ojp_scan.specs.Networks.{place_number, IsConnection, IsNetworkFor}
use Rattle.ojp_scan.specs.Days.{CoverWindow, AreDaysFrom}
use Rattle.ojp_scan.specs.Walks.{AreEnds, leg_between}
use Rattle.ojp_values.proofs.EachFacts.{among_at, at_among, read_at, read_once}
use Rattle.ojp_scan.proofs.TableFacts.{departs-offset}
use Rattle.ojp_scan.proofs.PlaceFacts.{number-read, change-is}
use Rattle.ojp_scan.proofs.DayFacts.{on-four-days, base-low, moment-is, marks-tell}

-- the leg between two hops of a run is a leg
pub leg-between-is : (table : Timetable) (day : ℕ) (c d : Connection) (ends : AreEnds table c d) → RunsOn table ends.board.of.service day → IsLeg table (leg_between table day c d ends)
leg-between-is table day c d ends runs =
    let same_journey = read_once table.journeys d.journey c.journey ends.alight.of ends.board.of (sym ends.journey) ends.alight.at ends.board.at in
    record {
      journey = ends.board.of;
      day = day;
      i = c.position;
      j = d.position + 1;
      board = ends.board.board;
      alight = ends.alight.alight;
      leaves = c.departs;
      comes = d.arrives;
      of_table = among_at table.journeys c.journey ends.board.of ends.board.at;
      runs = runs;
      later = let h = ends.in_order in omega arith;
      board_at = ends.board.board_at;
      alight_at = subst (λ (j : Journey). slice_get j.calls (d.position + 1) ≡ Some ends.alight.alight) same_journey ends.alight.alight_at;
      leaves_at = ends.board.departs;
      comes_at = ends.alight.arrives;
      is = refl;
    }

module _ (net : Connections) (table : Timetable) (days : Days) (first : ℕ) (well : IsWell table) (net-is : IsNetworkFor net table) (days-are : AreDaysFrom days table first) where
  -- each connection is a hop
  pub connection-hop : (n : ℕ) (c : Connection) → IsAt net n c → IsConnection table c
  connection-hop n c at =
      let within = slice_get_within net.sorted.items n c at in
      let row = net-is.is.at n (omega (arith, net-is.is.count)) in
      (net-is.rows_are.sound (net-is.is.order n) c (sym row.1 ∙ at)).0

  -- and each hop a connection
  pub record IsKept (j p : ℕ) : Type 0 where
    pub n : ℕ
    pub connection : Connection
    pub at : IsAt net n connection
    pub journey : connection.journey ≡ j
    pub position : connection.position ≡ p

  pub hop-kept : (j p : ℕ) (of : Journey) → slice_get table.journeys j ≡ Some of → p + 1 < length of.calls → IsKept j p
  hop-kept j p of at h =
      let row = net-is.rows_are.complete j p of at h (inl (slice_get_within table.journeys j of at)) in
      let there = net-is.is.all row.row (slice_get_within net-is.rows row.row row.connection row.at) in
      record {
        n = there.0;
        connection = row.connection;
        at = (net-is.is.at there.0 there.1).1 ∙ (ap (λ k. slice_get net-is.rows k) there.2 ∙ row.at);
        journey = row.journey_is;
        position = row.position_is;
      }

  service-is : (j : ℕ) (of : Journey) → slice_get table.journeys j ≡ Some of → slice_index net.services.items j ≡ of.service
  service-is j of at =
      ap (λ xs. slice_index xs j) net-is.is.services_are ∙ net-is.services_are.is j of (slice_get_within table.journeys j of at) at

  service-within : (j : ℕ) (of : Journey) → slice_get table.journeys j ≡ Some of → of.service < length table.services
  service-within j of at = well.services of (among_at table.journeys j of at)

  number-in : (j : ℕ) (of : Journey) → slice_get table.journeys j ≡ Some of → slice_index net.services.items j < length table.services
  number-in j of at = subst (λ s. s < length table.services) (sym (service-is j of at)) (service-within j of at)

  runs-tell : (j day : ℕ) (of : Journey) → slice_get table.journeys j ≡ Some of → day < 4 → Runs net days j day → RunsOn table of.service (first + day)
  runs-tell j day of at h runs =
      subst (λ s. RunsOn table s (first + day)) (service-is j of at) ((marks-tell days table first days-are (slice_index net.services.items j) day h (number-in j of at)).0 runs)

  runs-kept : (j day : ℕ) (of : Journey) → slice_get table.journeys j ≡ Some of → day < 4 → RunsOn table of.service (first + day) → Runs net days j day
  runs-kept j day of at h runs =
      (marks-tell days table first days-are (slice_index net.services.items j) day h (number-in j of at)).1 (subst (λ s. RunsOn table s (first + day)) (sym (service-is j of at)) runs)

  -- the ends of a ride
  pub ride-ends : (ride : Ride) (r : IsRide net days ride) → AreEnds table r.first r.last
  ride-ends ride r = record { board = connection-hop ride.board r.first r.first_at; alight = connection-hop ride.alight r.last r.last_at; journey = r.journey; in_order = r.in_order }

  pub ride-runs : (ride : Ride) (r : IsRide net days ride) (ends : AreEnds table r.first r.last) → RunsOn table ends.board.of.service (first + ride.day)
  ride-runs ride r ends = runs-tell r.first.journey ride.day ends.board.of ends.board.at r.day r.runs

  -- the leg and the ride are the same, with places in the stead of stops
  pub record Matches (leg : Leg) (ride : Ride) : Type 0 where
    pub board : place_number table leg.board ≡ Some ride.from
    pub departs : ride.departs ≡ leg.departs
    pub alight : place_number table leg.alight ≡ Some ride.to
    pub arrives : ride.arrives ≡ leg.arrives

  pub ends-match : (ride : Ride) (r : IsRide net days ride) (ends : AreEnds table r.first r.last) → Matches (leg_between table (first + ride.day) r.first r.last ends) ride
  ends-match ride r ends =
      let runs = ride-runs ride r ends in
      record {
        board = ends.board.from ∙ ap Some (sym r.from);
        departs = r.departs ∙ moment-is days table first days-are ride.day r.first.departs r.day runs.low runs.high;
        alight = ends.alight.to ∙ ap Some (sym r.to);
        arrives = r.arrives ∙ moment-is days table first days-are ride.day r.last.arrives r.day runs.low runs.high;
      }

  -- each leg within a window is a ride
  pub record RideOfLeg (leg : Leg) : Type 0 where
    pub ride : Ride
    pub is_ride : IsRide net days ride
    pub matches : Matches leg ride

  module _ (start : ℕ) (window : CoverWindow first start) (leg : Leg) (l : IsLeg table leg) (late : start ≤ leg.departs) (early : leg.arrives ≤ start + 86400) where
    leaves-is : leg.departs ≡ moment table l.day l.leaves
    leaves-is = ap (λ (x : Leg). x.departs) l.is

    comes-is : leg.arrives ≡ moment table l.day l.comes
    comes-is = ap (λ (x : Leg). x.arrives) l.is

    pub ride-of-leg : RideOfLeg leg
    ride-of-leg =
        let at = at_among table.journeys l.journey l.of_table in
        let end = slice_get_within l.journey.calls l.j l.alight l.alight_at in
        let later = l.later in
        let c = hop-kept at.0 l.i l.journey at.1 (omega arith) in
        let d = hop-kept at.0 (l.j - 1) l.journey at.1 (omega arith) in
        let x = connection-hop c.n c.connection c.at in
        let y = connection-hop d.n d.connection d.at in
        let of = read_once table.journeys c.connection.journey at.0 x.of l.journey c.journey x.at at.1 in
        let to = read_once table.journeys d.connection.journey at.0 y.of l.journey d.journey y.at at.1 in
        let next : d.connection.position + 1 ≡ l.j = let e = d.position in omega arith in
        let board : x.board ≡ l.board = read_once l.journey.calls c.connection.position l.i x.board l.board c.position (subst (λ (j : Journey). slice_get j.calls c.connection.position ≡ Some x.board) of x.board_at) l.board_at in
        let alight : y.alight ≡ l.alight = read_once l.journey.calls (d.connection.position + 1) l.j y.alight l.alight next (subst (λ (j : Journey). slice_get j.calls (d.connection.position + 1) ≡ Some y.alight) to y.alight_at) l.alight_at in
        let leaves : c.connection.departs ≡ l.leaves = same_Some c.connection.departs l.leaves (sym x.departs ∙ (ap (λ (k : Call). k.departs) board ∙ l.leaves_at)) in
        let comes : d.connection.arrives ≡ l.comes = same_Some d.connection.arrives l.comes (sym y.arrives ∙ (ap (λ (k : Call). k.arrives) alight ∙ l.comes_at)) in
        let offset = departs-offset table well at.0 l.i l.journey l.board l.leaves at.1 l.board_at l.leaves_at in
        let there-in = on-four-days table well first start l.day l.leaves l.comes window l.runs.low l.runs.high offset (subst (λ m. start ≤ m) leaves-is late) (subst (λ m. m ≤ start + 86400) comes-is early) in
        let after : first ≤ l.day = let w = there-in.0 in omega arith in
        let day : first + (l.day - first) ≡ l.day = omega arith in
        let four : l.day - first < 4 = let w = there-in.1 in omega arith in
        let low : FIRST_DAY ≤ first + (l.day - first) = subst (λ n. FIRST_DAY ≤ n) (sym day) l.runs.low in
        let high : first + (l.day - first) ≤ LAST_DAY = subst (λ n. n ≤ LAST_DAY) (sym day) l.runs.high in
        let departs : rides.moment days (l.day - first) c.connection.departs ≡ leg.departs =
        moment-is days table first days-are (l.day - first) c.connection.departs four low high ∙ (ap (λ n. moment table n c.connection.departs) day ∙ (ap (λ n. moment table l.day n) leaves ∙ sym leaves-is)) in
        let arrives : rides.moment days (l.day - first) d.connection.arrives ≡ leg.arrives =
        moment-is days table first days-are (l.day - first) d.connection.arrives four low high ∙ (ap (λ n. moment table n d.connection.arrives) day ∙ (ap (λ n. moment table l.day n) comes ∙ sym comes-is)) in
        let from : place_number table leg.board ≡ Some c.connection.from = ap (λ (k : Leg). place_number table k.board) l.is ∙ (ap (λ (k : Call). place_number table k.stop) (sym board) ∙ x.from) in
        let there : place_number table leg.alight ≡ Some d.connection.to = ap (λ (k : Leg). place_number table k.alight) l.is ∙ (ap (λ (k : Call). place_number table k.stop) (sym alight) ∙ y.to) in
        record {
          ride = record {
            day = l.day - first;
            board = c.n;
            alight = d.n;
            from = c.connection.from;
            departs = rides.moment days (l.day - first) c.connection.departs;
            to = d.connection.to;
            arrives = rides.moment days (l.day - first) d.connection.arrives;
          };
          is_ride = record {
            first = c.connection;
            last = d.connection;
            day = four;
            first_at = c.at;
            last_at = d.at;
            journey = c.journey ∙ sym d.journey;
            in_order = let p = c.position in let q = d.position in omega arith;
            runs = subst (λ j. Runs net days j (l.day - first)) (sym c.journey) (runs-kept at.0 (l.day - first) l.journey at.1 four (subst (λ n. RunsOn table l.journey.service n) (sym day) l.runs));
            from = refl;
            departs = refl;
            to = refl;
            arrives = refl;
          };
          matches = record { board = from; departs = departs; alight = there; arrives = arrives };
        }

  -- the days are those of the network
  pub are-days-of : AreDaysOf days net
  are-days-of =
      record {
        count = days-are.bases.length_is;
        bases = base-low days table first days-are;
        services = λ j h.
            let count = ap length net-is.is.services_are ∙ net-is.services_are.length_is in
            let of = read_at table.journeys j (omega arith) in
            let within = number-in j of.0 of.1 in
            omega (arith, days-are.running.length_is);
      }

  -- a change takes the time of its place
  pub transfer-is : (p q seconds : ℕ) (stop : Text) → place_number table stop ≡ Some p → Transfers net p q seconds → (p ≡ q) × (change_of table stop ≡ Some seconds)
  transfer-is p q seconds stop number (inr walk) = absurd (none-some walk.walk (ap (λ xs. slice_get xs walk.k) (sym net-is.is.walks_are) ∙ walk.at))
  transfer-is p q seconds stop number (inl change) =
      let place = number-read table stop p number in
      let within = slice_get_within table.places p place.place place.at in
      let kept = ap (λ xs. slice_index xs p) net-is.is.changes_are ∙ net-is.changes_are.is p place.place within place.at in
      (change.0, change-is table stop p number place.place place.at ∙ ap Some (sym (change.2 ∙ kept)))

  pub transfer-to : (p q seconds : ℕ) (stop : Text) → place_number table stop ≡ Some q → Transfers net p q seconds → (p ≡ q) × (change_of table stop ≡ Some seconds)
  transfer-to p q seconds stop number (inr walk) = absurd (none-some walk.walk (ap (λ xs. slice_get xs walk.k) (sym net-is.is.walks_are) ∙ walk.at))
  transfer-to p q seconds stop number (inl change) = transfer-is p q seconds stop (number ∙ ap Some (sym change.0)) (inl change)

  pub change-kept : (p change : ℕ) (stop : Text) → place_number table stop ≡ Some p → change_of table stop ≡ Some change → Transfers net p p change
  change-kept p change stop number is =
      let place = number-read table stop p number in
      let within = slice_get_within table.places p place.place place.at in
      let kept = ap (λ xs. slice_index xs p) net-is.is.changes_are ∙ net-is.changes_are.is p place.place within place.at in
      let count = ap length net-is.is.changes_are ∙ net-is.changes_are.length_is in
      let same_one = same_Some change place.place.change (sym is ∙ change-is table stop p number place.place place.at) in
      inl (refl, omega arith, same_one ∙ sym kept)
