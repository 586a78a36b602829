-- What the labels of a search that was ended tell.
use Rattle.std.proofs.Common.{◌≡◌, ℕ, ◌+◌, ◌<◌, ◌≤◌, length, get_or, sym, subst, inl, inr, arith, slice_index, ◌∙◌}
use Rattle.std.proofs.lemmas.Option.{get_or_from_slice_get}
use Rattle.ojp_sweep.specs.declared.connections.Days.{Days}
use Rattle.ojp_sweep.specs.declared.connections.Asked.{Asked}
use Rattle.ojp_sweep.specs.declared.labels.Hop.{Hop}
use Rattle.ojp_sweep.specs.declared.searches.Sweep.{Sweep}
use Rattle.ojp_sweep.specs.Rides.{Arrives, day_long}
use Rattle.ojp_sweep.specs.Labels.{hop_of}
use Rattle.ojp_sweep.specs.Searches.{IsSweepOf, NeverArrives, ArrivesFirst, LeadsOn, IsLastHop}
use Rattle.ojp_sweep.proofs.RideFacts.{transfer-from, ride-forward, from-within}
use Rattle.ojp_sweep.proofs.ChainFacts.{label-low, label-arrives, ready-sound}

module _ (sweep : Sweep) (days : Days) (asked : Asked) (found : IsSweepOf sweep days asked) where
  abbrev label : ℕ → ℕ
  label place = slice_index sweep.progress.labels.arrives.items place

  pub low : (place a : ℕ) → Arrives sweep.net days asked place a → label place ≤ a
  low = label-low sweep.progress.labels.arrives.items sweep.progress.labels.ready.items sweep.progress.labels.next.items sweep.progress.labels.hops.items sweep.net days asked found.search found.labels found.whole found.closed

  pub never : (place : ℕ) → asked.start + day_long < label place → NeverArrives sweep.net days asked place
  never place late a h = let l = low place a h in let w = h.0 in omega arith

  pub first : (place : ℕ) → place < length sweep.net.changes.items → label place ≤ asked.start + day_long → ArrivesFirst sweep.net days asked place (label place)
  first place within reached =
      (label-arrives sweep.progress.labels.arrives.items sweep.progress.labels.ready.items sweep.progress.labels.next.items sweep.progress.labels.hops.items sweep.net days asked found.search found.labels found.whole place within reached, low place)

  pub last-hop : (place a : ℕ) (hop : Hop) → place < length sweep.net.changes.items → Arrives sweep.net days asked place a → hop ≡ get_or sweep.progress.labels.hops.items place hop
      → IsLastHop sweep.net days asked place hop
  last-hop place a hop within h read =
      let l = low place a h in
      let w = h.0 in
      let x = found.labels.explained place within (omega arith) in
      let forward = ride-forward sweep.net days found.search.well x.ride x.is_ride in
      let e = x.arrives_at in
      let t = x.in_time in
      let leads : LeadsOn sweep.net days asked x.ride =
      elim (ready-sound sweep.progress.labels.arrives.items sweep.progress.labels.ready.items sweep.progress.labels.next.items sweep.progress.labels.hops.items sweep.net days asked found.search found.labels found.whole x.ride.from (from-within sweep.net days found.search.well x.ride x.is_ride) (omega arith)) as (λ _. LeadsOn sweep.net days asked x.ride) [
        | inl origin ↦ let late = origin.1 in inl (origin.0, omega arith)
        | inr back ↦
            let b = back.ready in
            inr (back.last, label back.last, first back.last (transfer-from sweep.net found.search.well back.last x.ride.from back.seconds back.transfer) (omega arith), record { seconds = back.seconds; transfer = back.transfer; in_time = omega arith })
      ] in
      record {
        ride = x.ride;
        is_ride = x.is_ride;
        hop_is = read ∙ get_or_from_slice_get sweep.progress.labels.hops.items place (hop_of x.ride) hop x.hop;
        to = x.to;
        first = subst (λ m. ArrivesFirst sweep.net days asked place m) (sym e) (first place within (omega arith));
        leads_on = leads;
      }
