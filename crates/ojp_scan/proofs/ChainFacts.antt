-- Regional journeys of a table are the chains of its network.
use Rattle.std.proofs.Common.{◌≡◌, ℕ, ◌+◌, ◌≤◌, List, [], ◌∷◌, Some, None, Option, length, sym, ap, subst, refl, arith, ◌∙◌}
use Rattle.std.specs.Prelude.{unwrap_or}
use Rattle.std.proofs.lemmas.Option.{same_Some}
use Rattle.ojp_values.specs.Texts.{Text}
use Rattle.ojp_values.specs.declared.trips.Leg.{Leg}
use Rattle.ojp_timetable.specs.Tables.{Timetable}
use Rattle.ojp_timetable.specs.Runs.{IsWell, last_moment, day_long}
use Rattle.ojp_timetable.specs.Journeys as journeys
use Rattle.ojp_timetable.specs.Journeys.{Standing, alighted, reached, AllFollow, HasTime, Follows}
use Rattle.ojp_timetable.proofs.RideFacts.{leg_forward, leg_bound, follow_forward}
use Rattle.ojp_sweep.specs.declared.connections.Connections.{Connections}
use Rattle.ojp_sweep.specs.declared.connections.Days.{Days}
use Rattle.ojp_sweep.specs.declared.connections.Asked.{Asked}
use Rattle.ojp_sweep.specs.Rides.{Ride, Transfers, Connects, GoesOn, Leads, Arrives}
use Rattle.ojp_scan.specs.Networks.{place_number, IsNetworkFor}
use Rattle.ojp_scan.specs.Days.{CoverWindow, AreDaysFrom}
use Rattle.ojp_scan.specs.Walks.{Onward, leg_between}
use Rattle.ojp_scan.proofs.PlaceFacts.{number-within, one-stop}
use Rattle.ojp_scan.proofs.RideFacts.{leg-between-is, ride-ends, ride-runs, ends-match, ride-of-leg, transfer-is, change-kept}

-- the place of the origin, or a number past those of all places
abbrev pub IsOrigin : Timetable → Text → ℕ → Type 0
IsOrigin table origin place = place ≡ unwrap_or (place_number table origin) (length table.places)

pub origin-at : (table : Timetable) (origin : Text) (place k : ℕ) → IsOrigin table origin place → place_number table origin ≡ Some k → k ≡ place
origin-at table origin place k is number = sym (is ∙ ap (λ o. unwrap_or o (length table.places)) number)

pub origin-is : (table : Timetable) (origin stop : Text) (place : ℕ) → IsOrigin table origin place → place_number table stop ≡ Some place → stop ≡ origin
origin-is table origin stop place is number = go (place_number table origin) refl
  where
    go : (o : Option ℕ) → place_number table origin ≡ o → stop ≡ origin
    go (Some k) e = one-stop table stop origin place number (e ∙ ap Some (origin-at table origin place k is e))
    go None e =
        let past = is ∙ ap (λ o. unwrap_or o (length table.places)) e in
        let within = number-within table stop place number in
        absurd (omega arith)

-- where legs lead, they arrive by the last moment
pub goes-bound : (table : Timetable) → IsWell table → (at : Standing) (legs : List Leg) → at.moment ≤ last_moment → AllFollow (Follows table) at legs → (reached at legs).moment ≤ last_moment
goes-bound table well at [] bound goes = bound
goes-bound table well at (leg ∷ legs) bound goes = goes-bound table well (alighted leg) legs (leg_bound table leg well goes.0.0) goes.1

pub leads-bound : (table : Timetable) → IsWell table → (o : Text) (t : ℕ) (legs : List Leg) (d : Text) (a : ℕ) → journeys.Leads table o t legs d a → a ≤ last_moment
leads-bound table well o t [] d a leads = absurd leads
leads-bound table well o t (leg ∷ legs) d a leads =
    subst (λ m. m ≤ last_moment) leads.4.1 (goes-bound table well (alighted leg) legs (leg_bound table leg well leads.0) leads.3)

module _ (net : Connections) (table : Timetable) (days : Days) (first start : ℕ) (window : CoverWindow first start) (well : IsWell table) (net-is : IsNetworkFor net table) (days-are : AreDaysFrom days table first) where
  -- one stands at a place of the region
  abbrev standing : Text → ℕ → Standing
  standing stop moment = record { region = table.region; stop = stop; moment = moment }

  -- from where one stands, a chain is a row of legs
  pub goes-legs : (place arrived : ℕ) (rides : List Ride) (p a : ℕ) (stop d : Text) → place_number table stop ≡ Some place → place_number table d ≡ Some p → GoesOn net days place arrived rides p a
      → (legs : List Leg) × Onward table (standing stop arrived) legs d a
  goes-legs place arrived [] p a stop d at to goes = ([], (tt, (one-stop table stop d p (at ∙ ap Some goes.0) to, goes.1)))
  goes-legs place arrived (ride ∷ rides) p a stop d at to goes =
      let r = goes.0 in
      let connects : Connects net place arrived ride = goes.1 in
      let ends = ride-ends net table days first well net-is days-are ride r in
      let leg : Leg = leg_between table (first + ride.day) r.first r.last ends in
      let is = leg-between-is table (first + ride.day) r.first r.last ends (ride-runs net table days first well net-is days-are ride r ends) in
      let m = ends-match net table days first well net-is days-are ride r ends in
      let change = transfer-is net table days first well net-is days-are place ride.from connects.seconds stop at connects.transfer in
      let board : leg.board ≡ stop = one-stop table leg.board stop place (m.board ∙ ap Some (sym change.0)) at in
      let passed : arrived + connects.seconds ≤ leg.departs = subst (λ n. arrived + connects.seconds ≤ n) m.departs connects.in_time in
      let rest = goes-legs ride.to ride.arrives rides p a leg.alight d m.alight to goes.2 in
      let onward : Onward table (alighted leg) rest.0 d a = subst (λ n. Onward table (standing leg.alight n) rest.0 d a) m.arrives rest.1 in
      (leg ∷ rest.0, (((is, board, (connects.seconds, change.1, passed)), onward.0), onward.1))

  -- a chain from the origin is a journey
  pub leads-legs : (asked : Asked) (rides : List Ride) (p a : ℕ) (o d : Text) → IsOrigin table o asked.origin → asked.start ≡ start → place_number table d ≡ Some p → Leads net days asked rides p a
      → (legs : List Leg) × journeys.Leads table o start legs d a
  leads-legs asked [] p a o d origin from to leads = absurd leads
  leads-legs asked (ride ∷ rides) p a o d origin from to leads =
      let r = leads.0 in
      let ends = ride-ends net table days first well net-is days-are ride r in
      let leg : Leg = leg_between table (first + ride.day) r.first r.last ends in
      let is = leg-between-is table (first + ride.day) r.first r.last ends (ride-runs net table days first well net-is days-are ride r ends) in
      let m = ends-match net table days first well net-is days-are ride r ends in
      let board : leg.board ≡ o = origin-is table o leg.board asked.origin origin (m.board ∙ ap Some leads.1) in
      let departs : leg.departs ≡ ride.departs = sym m.departs in
      let late = leads.2 in
      let rest = goes-legs ride.to ride.arrives rides p a leg.alight d m.alight to leads.3 in
      let onward : Onward table (alighted leg) rest.0 d a = subst (λ n. Onward table (standing leg.alight n) rest.0 d a) m.arrives rest.1 in
      (leg ∷ rest.0, (is, board, omega arith, onward.0, onward.1))

  -- where a chain leads
  pub record IsChain (place arrived : ℕ) (d : Text) (a : ℕ) : Type 0 where
    pub rides : List Ride
    pub to : ℕ
    pub number : place_number table d ≡ Some to
    pub goes : GoesOn net days place arrived rides to a

  -- from where one stands, a row of legs within the window is a chain
  pub legs-chain : (at : Standing) (legs : List Leg) (place : ℕ) → place_number table at.stop ≡ Some place → start ≤ at.moment → (reached at legs).moment ≤ start + day_long → AllFollow (Follows table) at legs
      → IsChain place at.moment (reached at legs).stop (reached at legs).moment
  legs-chain at [] place number late early goes = record { rides = []; to = place; number = number; goes = (refl, refl) }
  legs-chain at (leg ∷ legs) place number late early goes =
      let follows : Follows table at leg = goes.0 in
      let time : HasTime table at leg = follows.2 in
      let passed = time.2 in
      let forward = leg_forward table leg well follows.0 in
      let later : leg.arrives ≤ (reached (alighted leg) legs).moment = follow_forward table (alighted leg) legs well goes.1 in
      let r = ride-of-leg net table days first well net-is days-are start window leg follows.0 (omega arith) (omega arith) in
      let from : r.ride.from ≡ place = same_Some r.ride.from place (sym r.matches.board ∙ (ap (place_number table) follows.1 ∙ number)) in
      let change = change-kept net table days first well net-is days-are place time.0 at.stop number time.1 in
      let departs = r.matches.departs in
      let rest = legs-chain (alighted leg) legs r.ride.to r.matches.alight (omega arith) early goes.1 in
      let goes' : GoesOn net days r.ride.to r.ride.arrives rest.rides rest.to (reached (alighted leg) legs).moment = subst (λ n. GoesOn net days r.ride.to n rest.rides rest.to (reached (alighted leg) legs).moment) (sym r.matches.arrives) rest.goes in
      record {
        rides = r.ride ∷ rest.rides;
        to = rest.to;
        number = rest.number;
        goes = (r.is_ride, record { seconds = time.0; transfer = subst (λ q. Transfers net place q time.0) (sym from) change; in_time = omega arith }, goes');
      }

  -- a journey within the window is a chain from the origin
  pub record IsArrival (asked : Asked) (d : Text) (a : ℕ) : Type 0 where
    pub place : ℕ
    pub number : place_number table d ≡ Some place
    pub arrives : Arrives net days asked place a

  pub journey-arrives : (asked : Asked) (o d : Text) (a : ℕ) (legs : List Leg) → IsOrigin table o asked.origin → asked.start ≡ start → journeys.Regional table o start d a legs → IsArrival asked d a
  journey-arrives asked o d a [] origin from regional = absurd regional.2
  journey-arrives asked o d a (leg ∷ legs) origin from regional =
      let leads = regional.2 in
      let forward = leg_forward table leg well leads.0 in
      let later : leg.arrives ≤ (reached (alighted leg) legs).moment = follow_forward table (alighted leg) legs well leads.3 in
      let end : (reached (alighted leg) legs).moment ≡ a = leads.4.1 in
      let within = regional.1 in
      let late = leads.2 in
      let r = ride-of-leg net table days first well net-is days-are start window leg leads.0 late (omega arith) in
      let here : r.ride.from ≡ asked.origin = origin-at table o asked.origin r.ride.from origin (ap (place_number table) (sym leads.1) ∙ r.matches.board) in
      let departs = r.matches.departs in
      let rest = legs-chain (alighted leg) legs r.ride.to r.matches.alight (omega arith) (omega arith) leads.3 in
      let goes : GoesOn net days r.ride.to r.ride.arrives rest.rides rest.to a =
      subst (λ n. GoesOn net days r.ride.to n rest.rides rest.to a) (sym r.matches.arrives) (subst (λ n. GoesOn net days r.ride.to leg.arrives rest.rides rest.to n) end rest.goes) in
      record {
        place = rest.to;
        number = subst (λ s. place_number table s ≡ Some rest.to) leads.4.0 rest.number;
        arrives = (omega arith, (r.ride ∷ rest.rides, (r.is_ride, here, omega arith, goes)));
      }
