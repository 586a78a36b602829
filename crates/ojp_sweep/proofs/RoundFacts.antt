-- A round against the one before it.
use Rattle.std.proofs.Common.{◌≡◌, true, ℕ, ◌+◌, ◌<◌, ◌≤◌, ◌⊎◌, List, [], ◌∷◌, ◌++◌, length, ap, sym, subst, refl, inl, inr, arith, slice_index, length-append}
use Rattle.std.proofs.lemmas.Bool.{cases_lt}
use Rattle.ojp_sweep.specs.declared.connections.Connections.{Connections}
use Rattle.ojp_sweep.specs.declared.connections.Days.{Days}
use Rattle.ojp_sweep.specs.declared.connections.Asked.{Asked}
use Rattle.ojp_sweep.specs.declared.labels.Hop.{Hop}
use Rattle.ojp_sweep.specs.Rides.{Ride, IsRide, IsSearch, Connects, GoesOn, Leads, day_long}
use Rattle.ojp_sweep.specs.Labels.{IsReady, AreRight, IsClosed, row_of}
use Rattle.ojp_sweep.specs.Rounds.{ArrivesBy, IsMadeReady, IsReadyBy}
use Rattle.ojp_sweep.proofs.RideFacts.{transfer-from, ride-forward, from-within}

-- one ride more at the end
goes-on-more : (net : Connections) (days : Days) (place arrived : ℕ) (rides : List Ride) (p a : ℕ) (ride : Ride) → GoesOn net days place arrived rides p a → IsRide net days ride → Connects net p a ride
    → GoesOn net days place arrived (rides ++ ride ∷ []) ride.to ride.arrives
goes-on-more net days place arrived [] p a ride goes r connects =
    (r, subst (λ m. Connects net place m ride) (sym goes.1) (subst (λ k. Connects net k a ride) (sym goes.0) connects), (refl, refl))
goes-on-more net days place arrived (first ∷ rides) p a ride goes r connects = (goes.0, goes.1, goes-on-more net days first.to first.arrives rides p a ride goes.2 r connects)

leads-more : (net : Connections) (days : Days) (asked : Asked) (rides : List Ride) (p a : ℕ) (ride : Ride) → Leads net days asked rides p a → IsRide net days ride → Connects net p a ride
    → Leads net days asked (rides ++ ride ∷ []) ride.to ride.arrives
leads-more net days asked [] p a ride leads r connects = absurd leads
leads-more net days asked (first ∷ rides) p a ride leads r connects = (leads.0, leads.1, leads.2, goes-on-more net days first.to first.arrives rides p a ride leads.3 r connects)

-- what goes on arrives later
goes-on-late : (net : Connections) (days : Days) (asked : Asked) → IsSearch net days asked → (place arrived : ℕ) (rides : List Ride) (d a : ℕ) → GoesOn net days place arrived rides d a → arrived ≤ a
goes-on-late net days asked search place arrived [] d a goes = omega (arith, goes.1)
goes-on-late net days asked search place arrived (ride ∷ rides) d a goes =
    let later = goes-on-late net days asked search ride.to ride.arrives rides d a goes.2 in
    let forward = ride-forward net days search.well ride goes.0 in
    let passed = goes.1.in_time in
    omega arith

module _ (arrives ready next : List ℕ) (hops : List Hop) (net : Connections) (days : Days) (asked : Asked) (search : IsSearch net days asked) (right : AreRight arrives ready next hops net days asked) (in_round : asked.in_round ≡ true)
    (closed : IsClosed arrives ready net days) (count : ℕ) (before : IsReadyBy ready net days asked count) where
  for-next : row_of asked.in_round ready next ≡ next
  for-next = ap (λ b. row_of b ready next) in_round

  goes-on-low : (done : List Ride) (place arrived : ℕ) (rides : List Ride) (d a : ℕ) → Leads net days asked done place arrived → length done + length rides ≤ count + 1 → slice_index arrives place ≤ arrived
      → a ≤ asked.start + day_long → GoesOn net days place arrived rides d a → slice_index arrives d ≤ a
  goes-on-low done place arrived [] d a leads few low within goes = subst (λ k. slice_index arrives k ≤ a) goes.0 (omega (arith, goes.1))
  goes-on-low done place arrived (ride ∷ rides) d a leads few low within goes =
      let connects = goes.1 in
      let later = goes-on-late net days asked search place arrived (ride ∷ rides) d a goes in
      let so-far : ArrivesBy net days asked count place arrived = record { rides = done; few = omega arith; leads = leads; within = omega arith } in
      let ready_then = before.complete place ride.from connects.seconds arrived so-far connects.transfer in
      let passed = connects.in_time in
      let more : length (done ++ ride ∷ []) + length rides ≤ count + 1 = omega (arith, length-append done (ride ∷ [])) in
      goes-on-low (done ++ ride ∷ []) ride.to ride.arrives rides d a (leads-more net days asked done place arrived ride leads goes.0 connects) more (closed ride goes.0 (omega arith)) within goes.2

  -- no chain with one ride more arrives before the label
  pub round-low : (place a : ℕ) → ArrivesBy net days asked (count + 1) place a → slice_index arrives place ≤ a
  round-low place a h = go h.rides h.few h.leads
    where
      go : (rides : List Ride) → length rides ≤ count + 1 → Leads net days asked rides place a → slice_index arrives place ≤ a
      go [] few leads = absurd leads
      go (ride ∷ rides) few leads =
          let origin = before.origin in
          let late = leads.2 in
          let at : slice_index ready ride.from ≤ asked.start = subst (λ k. slice_index ready k ≤ asked.start) (sym leads.1) origin in
          let low = closed ride leads.0 (omega arith) in
          goes-on-low (ride ∷ []) ride.to ride.arrives rides place a (leads.0, leads.1, leads.2, (refl, refl)) (omega arith) low h.within leads.3

  -- and one arrives at it
  pub round-arrives : (place : ℕ) → place < length net.changes.items → slice_index arrives place ≤ asked.start + day_long → ArrivesBy net days asked (count + 1) place (slice_index arrives place)
  round-arrives place within reached =
      let x = right.explained place within reached in
      let forward = ride-forward net days search.well x.ride x.is_ride in
      let e = x.arrives_at in
      let t = x.in_time in
      let there : ArrivesBy net days asked (count + 1) x.ride.to x.ride.arrives =
      elim (before.sound x.ride.from (from-within net days search.well x.ride x.is_ride) (omega arith)) as (λ _. ArrivesBy net days asked (count + 1) x.ride.to x.ride.arrives) [
        | inl origin ↦ let late = origin.1 in record { rides = x.ride ∷ []; few = omega arith; leads = (x.is_ride, origin.0, omega arith, (refl, refl)); within = omega arith }
        | inr back ↦
            let b = back.ready in
            let few = back.arrives.few in
            let connects : Connects net back.last back.arrival x.ride = record { seconds = back.seconds; transfer = back.transfer; in_time = omega arith } in
            record {
              rides = back.arrives.rides ++ x.ride ∷ [];
              few = omega (arith, length-append back.arrives.rides (x.ride ∷ []));
              leads = leads-more net days asked back.arrives.rides back.last back.arrival x.ride back.arrives.leads x.is_ride connects;
              within = omega arith;
            }
      ] in
      subst (λ k. ArrivesBy net days asked (count + 1) k (slice_index arrives place)) x.to (subst (λ m. ArrivesBy net days asked (count + 1) x.ride.to m) e there)

  arrives-late : (place : ℕ) → place < length net.changes.items → slice_index arrives place ≤ asked.start + day_long → asked.start ≤ slice_index arrives place
  arrives-late place within reached =
      let x = right.explained place within reached in
      let forward = ride-forward net days search.well x.ride x.is_ride in
      let low = right.low x.ride.from (from-within net days search.well x.ride x.is_ride) in
      let e = x.arrives_at in
      let t = x.in_time in
      omega arith

  next-sound : (place : ℕ) → place < length net.changes.items → slice_index next place ≤ asked.start + day_long → IsReady arrives net asked place (slice_index next place)
  next-sound place within le =
      subst (λ row. IsReady arrives net asked place (slice_index row place)) for-next
      (right.sound place within (subst (λ row. slice_index row place ≤ asked.start + day_long) (sym for-next) le))

  -- what the next round boards by
  pub round-next : IsReadyBy next net days asked (count + 1)
  round-next =
      record {
        late = λ place within.
            elim (cases_lt (asked.start + day_long) (slice_index next place)) as (λ _. asked.start ≤ slice_index next place) [
              | inl far ↦ omega arith
              | inr near ↦
                  elim (next-sound place within near) [
                    | inl origin ↦ origin.1
                    | inr back ↦
                        let b = back.ready in
                        let l = arrives-late back.last (transfer-from net search.well back.last place back.seconds back.transfer) (omega arith) in
                        omega arith
                  ]
            ];
        origin = subst (λ row. slice_index row asked.origin ≤ asked.start) for-next right.origin;
        complete = λ p q seconds a h t.
            let low = round-low p a h in
            let c = subst (λ row. slice_index row q ≤ slice_index arrives p + seconds) for-next (right.complete p q seconds t) in
            omega arith;
        sound = λ place within le.
            elim (next-sound place within le) as (λ _. ((place ≡ asked.origin) × (asked.start ≤ slice_index next place)) ⊎ IsMadeReady net days asked (count + 1) place (slice_index next place)) [
              | inl origin ↦ inl origin
              | inr back ↦
                  let b = back.ready in
                  inr (record {
                    last = back.last;
                    seconds = back.seconds;
                    arrival = slice_index arrives back.last;
                    arrives = round-arrives back.last (transfer-from net search.well back.last place back.seconds back.transfer) (omega arith);
                    transfer = back.transfer;
                    ready = back.ready;
                  })
            ];
      }
