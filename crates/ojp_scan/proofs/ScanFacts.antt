-- What a scan that was started tells of journeys.
use Rattle.std.proofs.Common.{◌≡◌, ◌≢◌, ℕ, ◌+◌, ◌<◌, ◌≤◌, List, ◌∷◌, Option, Some, None, is_some, sym, ap, subst, refl, inl, inr, arith, slice_get, ◌∙◌}
use Rattle.std.specs.Prelude.{MatchOption, IsSome}
use Rattle.std.proofs.lemmas.Option.{none-some, same_Some}
use Rattle.ojp_values.specs.Lists.{Earliest}
use Rattle.ojp_values.specs.Texts.{Text}
use Rattle.ojp_values.specs.declared.moments.TheConstants.{FIRST_DAY, LAST_DAY}
use Rattle.ojp_values.specs.declared.trips.Leg.{Leg}
use Rattle.ojp_timetable.specs.Tables.{Timetable}
use Rattle.ojp_timetable.specs.Runs.{RunsOn, last_moment}
use Rattle.ojp_timetable.specs.Journeys.{alighted, Leads, Regional, ArrivesWithin}
use Rattle.ojp_timetable.specs.Answers.{HasNoTrip}
use Rattle.ojp_timetable.proofs.RideFacts.{leg_forward, leg_region}
use Rattle.ojp_sweep.specs.declared.connections.Connection.{Connection}
use Rattle.ojp_sweep.specs.declared.labels.Hop.{Hop as LastHop}
use Rattle.ojp_sweep.specs.Rides.{Arrives, Connects}
use Rattle.ojp_sweep.specs.Searches.{NeverArrives, ArrivesFirst, IsLastHop}
use Rattle.ojp_scan.specs.declared.scans.Scan.{Scan}
use Rattle.ojp_scan.specs.Networks.{place_number}
use Rattle.ojp_scan.specs.Scans.{IsScanOf, IsReached}
use Rattle.ojp_scan.specs.Walks.{AreEnds, leg_between, IsFirstAt, IsMet, Begins, IsLastLeg, Onward, IsWalking}
use Rattle.ojp_values.proofs.EachFacts.{read_once}
use Rattle.ojp_scan.proofs.PlaceFacts.{one-stop, change-low}
use Rattle.ojp_scan.proofs.RideFacts.{leg-between-is, ride-ends, ride-runs, ends-match, transfer-to}
use Rattle.ojp_scan.proofs.ChainFacts.{IsArrival, origin-at, origin-is, leads-legs, leads-bound, journey-arrives}

module _ (scan : Scan) (table : Timetable) (o : Text) (t : ℕ) (found : IsScanOf scan table o t) where
  -- a journey within the window is a chain
  pub arrival-of : (stop : Text) (a : ℕ) (legs : List Leg) → Regional table o t stop a legs → IsArrival scan.sweep.net table scan.days scan.first t found.window found.made.well found.made.network found.days scan.asked stop a
  arrival-of stop a legs regional =
      journey-arrives scan.sweep.net table scan.days scan.first t found.window found.made.well found.made.network found.days scan.asked o stop a legs found.origin_is found.start_is regional

  pub no-number-no-trip : (stop : Text) → place_number table stop ≡ None → HasNoTrip table o t stop
  no-number-no-trip stop none a legs regional = let r = arrival-of stop a legs regional in none-some r.place (sym none ∙ r.number)

  module _ (stop : Text) (place : ℕ) (number : place_number table stop ≡ Some place) where
    pub chain-of : (a : ℕ) (legs : List Leg) → Regional table o t stop a legs → Arrives scan.sweep.net scan.days scan.asked place a
    chain-of a legs regional =
        let r = arrival-of stop a legs regional in
        subst (λ k. Arrives scan.sweep.net scan.days scan.asked k a) (same_Some r.place place (sym r.number ∙ number)) r.arrives

    pub origin-no-trip : place ≡ scan.asked.origin → HasNoTrip table o t stop
    origin-no-trip e a legs regional = regional.0 (sym (origin-is table o stop scan.asked.origin found.origin_is (number ∙ ap Some e)))

    pub never-no-trip : NeverArrives scan.sweep.net scan.days scan.asked place → HasNoTrip table o t stop
    never-no-trip never a legs regional = never a (chain-of a legs regional)

    -- the chains that arrive are journeys
    journey-of : (a : ℕ) → Arrives scan.sweep.net scan.days scan.asked place a → (legs : List Leg) × Leads table o t legs stop a
    journey-of a arrives =
        leads-legs scan.sweep.net table scan.days scan.first t found.window found.made.well found.made.network found.days scan.asked arrives.1.0 place a o stop found.origin_is found.start_is number arrives.1.1

    pub leads-regional : (a : ℕ) (legs : List Leg) → place ≢ scan.asked.origin → Arrives scan.sweep.net scan.days scan.asked place a → Leads table o t legs stop a → Regional table o t stop a legs
    leads-regional a legs other arrives leads = (λ same_stop. other (here same_stop), let w = arrives.0 in let e = found.start_is in omega arith, leads)
      where
        here : o ≡ stop → place ≡ scan.asked.origin
        here e = origin-at table o scan.asked.origin place found.origin_is (ap (place_number table) e ∙ number)

    pub first-earliest : (a : ℕ) → place ≢ scan.asked.origin → IsFirstAt scan place a → Earliest (ArrivesWithin table o t stop) a
    first-earliest a other first =
        let j = journey-of a first.0 in
        ((j.0, leads-regional a j.0 other first.0 j.1), λ b h. first.1 b (chain-of b h.0 h.1))

    pub first-bound : (a : ℕ) → IsFirstAt scan place a → a ≤ last_moment
    first-bound a first = let j = journey-of a first.0 in leads-bound table found.made.well o t j.0 stop a j.1

-- the scan found an arrival at the stop
module _ (scan : Scan) (table : Timetable) (stop : Text) (reached : IsReached scan table stop) where
  abbrev arrived : IsArrival scan.sweep.net table scan.days scan.first reached.start reached.scan_of.window reached.scan_of.made.well reached.scan_of.made.network reached.scan_of.days scan.asked stop reached.arrival
  arrived = arrival-of scan table reached.origin reached.start reached.scan_of stop reached.arrival reached.arrives.0 reached.arrives.1

  pub reached-place : (place : ℕ) → place_number table stop ≡ Some place → Arrives scan.sweep.net scan.days scan.asked place reached.arrival
  reached-place place number = chain-of scan table reached.origin reached.start reached.scan_of stop place number reached.arrival reached.arrives.0 reached.arrives.1

  pub reached-known : IsSome (place_number table stop)
  reached-known = ap is_some arrived.number

  pub reached-other : (place : ℕ) → place_number table stop ≡ Some place → place ≢ scan.asked.origin
  reached-other place number e = origin-no-trip scan table reached.origin reached.start reached.scan_of stop place number e reached.arrival reached.arrives.0 reached.arrives.1

  pub reached-some : (place : ℕ) → place_number table stop ≡ Some place → (r : Option ℕ) → MatchOption r (NeverArrives scan.sweep.net scan.days scan.asked place) (λ a. IsFirstAt scan place a) → IsSome r
  reached-some place number None never = absurd (never reached.arrival (reached-place place number))
  reached-some place number (Some a) first = refl

-- the last leg of a chain, by its hop
module _ (scan : Scan) (table : Timetable) (o : Text) (t : ℕ) (found : IsScanOf scan table o t) (place : ℕ) (hop : LastHop) (last : IsLastHop scan.sweep.net scan.days scan.asked place hop) where
  pub last-ends : AreEnds table last.is_ride.first last.is_ride.last
  last-ends = ride-ends scan.sweep.net table scan.days scan.first found.made.well found.made.network found.days last.ride last.is_ride

  pub last-runs : (ends : AreEnds table last.is_ride.first last.is_ride.last) → RunsOn table ends.board.of.service (scan.first + last.ride.day)
  last-runs ends = ride-runs scan.sweep.net table scan.days scan.first found.made.well found.made.network found.days last.ride last.is_ride ends

  pub last-leg-is : (ends : AreEnds table last.is_ride.first last.is_ride.last) → IsLastLeg scan table (leg_between table (scan.first + last.ride.day) last.is_ride.first last.is_ride.last ends) last.is_ride.first.from place
  last-leg-is ends =
      let m = ends-match scan.sweep.net table scan.days scan.first found.made.well found.made.network found.days last.ride last.is_ride ends in
      let leg : Leg = leg_between table (scan.first + last.ride.day) last.is_ride.first last.is_ride.last ends in
      let board : place_number table leg.board ≡ Some last.is_ride.first.from = ends.board.from in
      record {
        is_leg = leg-between-is table (scan.first + last.ride.day) last.is_ride.first last.is_ride.last ends (last-runs ends);
        board = board;
        alight = ends.alight.to ∙ ap Some (sym last.is_ride.to ∙ last.to);
        first = subst (λ n. IsFirstAt scan place n) m.arrives last.first;
        leads_on = elim last.leads_on [
          | inl begins ↦ inl (sym last.is_ride.from ∙ begins.0, subst (λ n. scan.asked.start ≤ n) m.departs begins.1)
          | inr met ↦ inr (meets leg board m.departs met)
        ];
      }
    where
      meets : (leg : Leg) → place_number table leg.board ≡ Some last.is_ride.first.from → last.ride.departs ≡ leg.departs
          → ((p : ℕ) × (a : ℕ) × ArrivesFirst scan.sweep.net scan.days scan.asked p a × Connects scan.sweep.net p a last.ride) → IsMet scan table leg last.is_ride.first.from
      meets leg board departs (p, a, first, connects) =
          let into : place_number table leg.board ≡ Some last.ride.from = board ∙ ap Some (sym last.is_ride.from) in
          let change = transfer-to scan.sweep.net table scan.days scan.first found.made.well found.made.network found.days p last.ride.from connects.seconds leg.board into connects.transfer in
          record {
            arrival = a;
            first = subst (λ k. IsFirstAt scan k a) (change.0 ∙ last.is_ride.from) first;
            change = connects.seconds;
            change_is = change.1;
            in_time = subst (λ n. a + connects.seconds ≤ n) departs connects.in_time;
          }

  day-is : (day : ℕ) → day ≡ scan.first + hop.day → day ≡ scan.first + last.ride.day
  day-is day e = e ∙ ap (λ (h : LastHop). scan.first + h.day) last.hop_is

  pub day-in : (day : ℕ) → day ≡ scan.first + hop.day → (FIRST_DAY ≤ day) × (day ≤ LAST_DAY)
  day-in day e = let runs = last-runs last-ends in let low = runs.low in let high = runs.high in let is = day-is day e in (omega arith, omega arith)

  module _ (first to : Connection) (first-at : slice_get scan.sweep.net.sorted.items hop.board ≡ Some first) (to-at : slice_get scan.sweep.net.sorted.items hop.alight ≡ Some to) where
    first-is : first ≡ last.is_ride.first
    first-is = read_once scan.sweep.net.sorted.items hop.board last.ride.board first last.is_ride.first (ap (λ (h : LastHop). h.board) last.hop_is) first-at last.is_ride.first_at

    to-is : to ≡ last.is_ride.last
    to-is = read_once scan.sweep.net.sorted.items hop.alight last.ride.alight to last.is_ride.last (ap (λ (h : LastHop). h.alight) last.hop_is) to-at last.is_ride.last_at

    pub read-ends : AreEnds table first to
    read-ends = subst (λ k. AreEnds table k to) (sym first-is) (subst (λ k. AreEnds table last.is_ride.first k) (sym to-is) last-ends)

    pub read-leg : (day : ℕ) → day ≡ scan.first + hop.day → (leg : Leg) → ((ends : AreEnds table first to) → leg ≡ leg_between table day first to ends) → IsLastLeg scan table leg first.from place
    read-leg day e leg is =
        let here = subst (λ (k : Connection). (ends : AreEnds table last.is_ride.first k) → leg ≡ leg_between table day last.is_ride.first k ends) to-is
        (subst (λ (k : Connection). (ends : AreEnds table k to) → leg ≡ leg_between table day k to ends) first-is is) in
        let leg-is : leg ≡ leg_between table (scan.first + last.ride.day) last.is_ride.first last.is_ride.last last-ends =
        here last-ends ∙ ap (λ n. leg_between table n last.is_ride.first last.is_ride.last last-ends) (day-is day e) in
        subst (λ x. IsLastLeg scan table x first.from place) (sym leg-is)
        (subst (λ (k : Connection). IsLastLeg scan table (leg_between table (scan.first + last.ride.day) last.is_ride.first last.is_ride.last last-ends) k.from place) (sym first-is) (last-leg-is last-ends))

-- one leg back
module _ (scan : Scan) (table : Timetable) (o : Text) (t : ℕ) (found : IsScanOf scan table o t) (place before : ℕ) (legs : List Leg) (d : Text) (a : ℕ) (walking : IsWalking scan table place before legs d a)
    (leg : Leg) (from : ℕ) (last : IsLastLeg scan table leg from place) where
  arrives-is : leg.arrives ≡ walking.arrival
  arrives-is =
      let x = last.first.1 walking.arrival walking.first.0 in
      let y = walking.first.1 leg.arrives last.first.0 in
      omega arith

  goes : Onward table (alighted leg) legs d a
  goes =
      let region = sym (leg_region table leg last.is_leg) in
      let stop = sym (one-stop table leg.alight walking.stop place last.alight walking.at) in
      subst (λ x. Onward table (record { region = x; stop = leg.alight; moment = leg.arrives }) legs d a) region
      (subst (λ x. Onward table (record { region = table.region; stop = x; moment = leg.arrives }) legs d a) stop
      (subst (λ x. Onward table (record { region = table.region; stop = walking.stop; moment = x }) legs d a) (sym arrives-is) walking.onward))

  pub leg-early : leg.departs < before
  leg-early = let f = leg_forward table leg found.made.well last.is_leg in let e = arrives-is in let b = walking.early in omega arith

  pub walk-begins : Begins scan leg from → Leads table o t (leg ∷ legs) d a
  walk-begins begins =
      (last.is_leg, origin-is table o leg.board scan.asked.origin found.origin_is (last.board ∙ ap Some begins.0), let e = found.start_is in let s = begins.1 in omega arith, goes.0, goes.1)

  pub walk-on : (Begins scan leg from → ⊥) → IsWalking scan table from leg.departs (leg ∷ legs) d a
  walk-on other =
      elim last.leads_on [
        | inl begins ↦ absurd (other begins)
        | inr met ↦
            record {
              arrival = met.arrival;
              first = met.first;
              early = let low = change-low table found.made.well leg.board met.change met.change_is in let h = met.in_time in omega arith;
              stop = leg.board;
              at = last.board;
              onward = (((last.is_leg, refl, (met.change, met.change_is, met.in_time)), goes.0), goes.1);
            }
      ]
