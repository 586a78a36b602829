-- Chains of rides against labels that no ride betters.
use Rattle.std.proofs.Common.{◌≡◌, ap, false, ℕ, zero, suc, ◌+◌, ◌<◌, ◌≤◌, List, [], ◌∷◌, length, sym, subst, refl, inl, inr, arith, slice_index}
use Rattle.ojp_sweep.specs.declared.connections.Connections.{Connections}
use Rattle.ojp_sweep.specs.declared.connections.Days.{Days}
use Rattle.ojp_sweep.specs.declared.connections.Asked.{Asked}
use Rattle.ojp_sweep.specs.declared.labels.Hop.{Hop}
use Rattle.ojp_sweep.specs.Rides.{Ride, IsWell, IsSearch, GoesOn, Leads, Arrives, day_long}
use Rattle.ojp_sweep.specs.Labels.{IsReady, AreRight, IsClosed, row_of}
use Rattle.ojp_sweep.proofs.RideFacts.{transfer-low, transfer-from, ride-forward, from-within, to-within}

-- a chain of rides arrives at a place
goes-on-within : (net : Connections) (days : Days) → IsWell net → (place arrived : ℕ) (rides : List Ride) (d a : ℕ) → place < length net.changes.items → GoesOn net days place arrived rides d a → d < length net.changes.items
goes-on-within net days well place arrived [] d a within goes = subst (λ k. k < length net.changes.items) goes.0 within
goes-on-within net days well place arrived (ride ∷ rides) d a within goes = goes-on-within net days well ride.to ride.arrives rides d a (to-within net days well ride goes.0) goes.2

pub leads-within : (net : Connections) (days : Days) (asked : Asked) → IsWell net → (rides : List Ride) (d a : ℕ) → Leads net days asked rides d a → d < length net.changes.items
leads-within net days asked well [] d a leads = absurd leads
leads-within net days asked well (ride ∷ rides) d a leads = goes-on-within net days well ride.to ride.arrives rides d a (to-within net days well ride leads.0) leads.3

module _ (arrives ready next : List ℕ) (hops : List Hop) (net : Connections) (days : Days) (asked : Asked) (search : IsSearch net days asked) (right : AreRight arrives ready next hops net days asked) (whole : asked.in_round ≡ false) where
  -- outside of rounds arrivals are counted in at once
  at-once : row_of asked.in_round ready next ≡ ready
  at-once = ap (λ b. row_of b ready next) whole

  goes-on-low : IsClosed arrives ready net days → (place arrived : ℕ) (rides : List Ride) (d a : ℕ) → slice_index arrives place ≤ arrived → GoesOn net days place arrived rides d a → slice_index arrives d ≤ a
  goes-on-low closed place arrived [] d a low goes = subst (λ k. slice_index arrives k ≤ a) goes.0 (omega (arith, goes.1))
  goes-on-low closed place arrived (ride ∷ rides) d a low goes =
      let connects = goes.1 in
      let ready_then = subst (λ row. slice_index row ride.from ≤ slice_index arrives place + connects.seconds) at-once (right.complete place ride.from connects.seconds connects.transfer) in
      let passed = connects.in_time in
      goes-on-low closed ride.to ride.arrives rides d a (closed ride goes.0 (omega arith)) goes.2

  leads-low : IsClosed arrives ready net days → (rides : List Ride) (d a : ℕ) → Leads net days asked rides d a → slice_index arrives d ≤ a
  leads-low closed [] d a leads = absurd leads
  leads-low closed (ride ∷ rides) d a leads =
      let origin = subst (λ row. slice_index row asked.origin ≤ asked.start) at-once right.origin in
      let late = leads.2 in
      let at : slice_index ready ride.from ≤ asked.start = subst (λ k. slice_index ready k ≤ asked.start) (sym leads.1) origin in
      goes-on-low closed ride.to ride.arrives rides d a (closed ride leads.0 (omega arith)) leads.3

  -- no chain arrives before the label
  pub label-low : IsClosed arrives ready net days → (place a : ℕ) → Arrives net days asked place a → slice_index arrives place ≤ a
  label-low closed place a h = leads-low closed h.1.0 place a h.1.1

  pub ready-sound : (place : ℕ) → place < length net.changes.items → slice_index ready place ≤ asked.start + day_long → IsReady arrives net asked place (slice_index ready place)
  ready-sound place within le =
      subst (λ row. IsReady arrives net asked place (slice_index row place)) at-once
      (right.sound place within (subst (λ row. slice_index row place ≤ asked.start + day_long) (sym at-once) le))

  walk : (n place : ℕ) (rides : List Ride) (d a : ℕ) → slice_index arrives place < n → place < length net.changes.items → slice_index arrives place ≤ asked.start + day_long
      → GoesOn net days place (slice_index arrives place) rides d a → (all : List Ride) × Leads net days asked all d a
  walk zero place rides d a fuel within reached goes = absurd (omega arith)
  walk (suc n) place rides d a fuel within reached goes =
      let x = right.explained place within reached in
      let forward = ride-forward net days search.well x.ride x.is_ride in
      let e = x.arrives_at in
      let t = x.in_time in
      let goes' : GoesOn net days x.ride.to x.ride.arrives rides d a =
      subst (λ m. GoesOn net days x.ride.to m rides d a) (sym e) (subst (λ k. GoesOn net days k (slice_index arrives place) rides d a) (sym x.to) goes) in
      elim (ready-sound x.ride.from (from-within net days search.well x.ride x.is_ride) (omega arith)) [
        | inl origin ↦ let late = origin.1 in (x.ride ∷ rides, (x.is_ride, origin.0, omega arith, goes'))
        | inr back ↦
            let b = back.ready in
            let in' = transfer-from net search.well back.last x.ride.from back.seconds back.transfer in
            let low = transfer-low net search.well back.last x.ride.from back.seconds back.transfer in
            walk n back.last (x.ride ∷ rides) d a (omega arith) in' (omega arith)
            (x.is_ride, record { seconds = back.seconds; transfer = back.transfer; in_time = omega arith }, goes')
      ]

  -- and one arrives at it
  pub label-arrives : (place : ℕ) → place < length net.changes.items → slice_index arrives place ≤ asked.start + day_long → Arrives net days asked place (slice_index arrives place)
  label-arrives place within reached =
      (reached, walk (slice_index arrives place + 1) place [] place (slice_index arrives place) (omega arith) within reached (refl, refl))
