-- What lowering a label keeps.
use Rattle.std.proofs.Common.{◌≡◌, ◌≢◌, ℕ, ◌+◌, ◌<◌, ◌≤◌, List, Some, ◌⊎◌, Bool, true, false, length, set, get_or, sym, ap, subst, inl, inr, arith, slice_get, slice_index, ◌∙◌, length-set, get_or-set_same, get_or-set_other}
use Rattle.std.proofs.lemmas.Option.{slice_get-get_or}
use Rattle.std.proofs.lemmas.Bool.{cases_eq}
use Rattle.ojp_sweep.specs.declared.connections.Connection.{Connection}
use Rattle.ojp_sweep.specs.declared.connections.Connections.{Connections}
use Rattle.ojp_sweep.specs.declared.connections.Days.{Days}
use Rattle.ojp_sweep.specs.declared.connections.Asked.{Asked}
use Rattle.ojp_sweep.specs.declared.labels.Labels.{Labels}
use Rattle.ojp_sweep.specs.Rides.{IsAt, Ride, IsRide, IsSearch, Transfers, moment, day_long}
use Rattle.ojp_sweep.specs.Labels.{IsExplained, IsReady, AreRight, AreLabels, IsReadied, IsConnected, IsLowered, KeepsReady, row_of, FallAfter, hop_of}
use Rattle.ojp_sweep.specs.Sweeps.{IsOnRun}
use Rattle.ojp_sweep.proofs.RideFacts.{transfer-low, ride-forward, from-within, to-within, ride-on, ride-on-is}

-- an element that was replaced, and the others
set-read : {X : Type 0} → (xs ys : List X) (i k : ℕ) (x : X) → ys ≡ set xs i x → k ≡ i → i < length xs → slice_get ys k ≡ Some x
set-read xs ys i k x e ek h =
    let within : i < length (set xs i x) = subst (λ n. i < n) (sym (length-set xs i x)) h in
    ap (λ (zs : List _). slice_get zs k) e ∙ (ap (λ n. slice_get (set xs i x) n) ek ∙ (slice_get-get_or (set xs i x) i x within ∙ ap Some (get_or-set_same xs i x x h)))

set-kept : {X : Type 0} → (xs ys : List X) (i k : ℕ) (x : X) → ys ≡ set xs i x → k ≢ i → k < length xs → slice_get ys k ≡ slice_get xs k
set-kept xs ys i k x e ne h =
    let within : k < length (set xs i x) = subst (λ n. k < n) (sym (length-set xs i x)) h in
    ap (λ (zs : List _). slice_get zs k) e ∙ (slice_get-get_or (set xs i x) k x within ∙ (ap Some (get_or-set_other xs i k x x ne) ∙ sym (slice_get-get_or xs k x h)))

-- what an arrival made ready, wherever it was counted in
record IsRowAfter (old new : List ℕ) (net : Connections) (place arrival : ℕ) : Type 0 where
  count : length new ≡ length old
  falls : (q : ℕ) → slice_index new q ≤ slice_index old q
  sound : (q : ℕ) → (slice_index new q ≡ slice_index old q) ⊎ ((seconds : ℕ) × Transfers net place q seconds × (slice_index new q ≡ arrival + seconds))

kept-row : (old new : List ℕ) (net : Connections) (place arrival : ℕ) → new ≡ old → IsRowAfter old new net place arrival
kept-row old new net place arrival e = record { count = ap length e; falls = λ q. omega (arith, ap (λ xs. get_or xs q 0) e); sound = λ q. inl (ap (λ xs. get_or xs q 0) e) }

readied-row : (old new : List ℕ) (net : Connections) (place arrival : ℕ) → IsReadied old new net place arrival → IsRowAfter old new net place arrival
readied-row old new net place arrival r = record { count = r.count; falls = r.falls; sound = r.sound }

ready-part : (in_round : Bool) (old new : Labels) (net : Connections) (place arrival : ℕ) → IsConnected in_round old new net place arrival → IsRowAfter old.ready.items new.ready.items net place arrival
ready-part true old new net place arrival c = kept-row old.ready.items new.ready.items net place arrival c.1
ready-part false old new net place arrival c = readied-row old.ready.items new.ready.items net place arrival c.0

next-part : (in_round : Bool) (old new : Labels) (net : Connections) (place arrival : ℕ) → IsConnected in_round old new net place arrival → IsRowAfter old.next.items new.next.items net place arrival
next-part true old new net place arrival c = readied-row old.next.items new.next.items net place arrival c.0
next-part false old new net place arrival c = kept-row old.next.items new.next.items net place arrival c.1

row-part : (in_round : Bool) (old new : Labels) (net : Connections) (place arrival : ℕ) → IsConnected in_round old new net place arrival
    → IsReadied (row_of in_round old.ready.items old.next.items) (row_of in_round new.ready.items new.next.items) net place arrival
row-part true old new net place arrival c = c.0
row-part false old new net place arrival c = c.0

-- the label where the ride goes was lowered to its arrival
module _ (net : Connections) (days : Days) (asked : Asked) (search : IsSearch net days asked) (old new : Labels) (right : AreLabels old net days asked)
    (ride : Ride) (r : IsRide net days ride) (in_time : slice_index old.ready.items ride.from ≤ ride.departs)
    (below : ride.arrives < slice_index old.arrives.items ride.to) (arrives : new.arrives.items ≡ set old.arrives.items ride.to ride.arrives)
    (connected : IsConnected asked.in_round old new net ride.to ride.arrives)
    (hops : new.hops.items ≡ set old.hops.items ride.to (hop_of ride)) where
  abbrev old-row : List ℕ
  old-row = row_of asked.in_round old.ready.items old.next.items

  abbrev new-row : List ℕ
  new-row = row_of asked.in_round new.ready.items new.next.items

  ready : IsRowAfter old.ready.items new.ready.items net ride.to ride.arrives
  ready = ready-part asked.in_round old new net ride.to ride.arrives connected

  row : IsReadied old-row new-row net ride.to ride.arrives
  row = row-part asked.in_round old new net ride.to ride.arrives connected

  within : ride.to < length net.changes.items
  within = to-within net days search.well ride r

  arrives-here : slice_index new.arrives.items ride.to ≡ ride.arrives
  arrives-here = ap (λ xs. get_or xs ride.to 0) arrives ∙ get_or-set_same old.arrives.items ride.to ride.arrives 0 (omega (arith, within, right.arrives_count))

  arrives-other : (k : ℕ) → k ≢ ride.to → slice_index new.arrives.items k ≡ slice_index old.arrives.items k
  arrives-other k ne = ap (λ xs. get_or xs k 0) arrives ∙ get_or-set_other old.arrives.items ride.to k ride.arrives 0 ne

  arrives-falls : (k : ℕ) → slice_index new.arrives.items k ≤ slice_index old.arrives.items k
  arrives-falls k =
      elim (cases_eq k ride.to) [
        | inl e ↦ subst (λ n. slice_index new.arrives.items n ≤ slice_index old.arrives.items n) (sym e) (omega (arith, arrives-here, below))
        | inr ne ↦ omega (arith, arrives-other k ne)
      ]

  ready-falls : (k : ℕ) → slice_index new.ready.items k ≤ slice_index old.ready.items k
  ready-falls = ready.falls

  late : asked.start ≤ ride.arrives
  late =
      let low = right.low ride.from (from-within net days search.well ride r) in
      let forward = ride-forward net days search.well ride r in
      omega arith

  new-low : (k : ℕ) → k < length net.changes.items → asked.start ≤ slice_index new.ready.items k
  new-low k h =
      let was = right.low k h in
      elim (ready.sound k) [
        | inl same ↦ omega arith
        | inr t ↦ omega (arith, t.2, late)
      ]

  new-explained : (k : ℕ) → k < length net.changes.items → slice_index new.arrives.items k ≤ asked.start + day_long → IsExplained new.arrives.items new.ready.items new.hops.items net days k
  new-explained k h le =
      elim (cases_eq k ride.to) [
        | inl e ↦
            record {
              ride = ride;
              is_ride = r;
              to = sym e;
              arrives_at = sym arrives-here ∙ ap (λ n. slice_index new.arrives.items n) (sym e);
              hop = set-read old.hops.items new.hops.items ride.to k (hop_of ride) hops e (omega (arith, within, right.hops_count));
              in_time = let f = ready-falls ride.from in omega arith;
            }
        | inr ne ↦
            let x = right.explained k h (omega (arith, arrives-other k ne, le)) in
            record {
              ride = x.ride;
              is_ride = x.is_ride;
              to = x.to;
              arrives_at = x.arrives_at ∙ sym (arrives-other k ne);
              hop = set-kept old.hops.items new.hops.items ride.to k (hop_of ride) hops ne (omega (arith, h, right.hops_count)) ∙ x.hop;
              in_time = let f = ready-falls x.ride.from in let t = x.in_time in omega arith;
            }
      ]

  still-ready : (k at : ℕ) → IsReady old.arrives.items net asked k at → IsReady new.arrives.items net asked k at
  still-ready k at (inl h) = inl h
  still-ready k at (inr h) =
      inr
      (record {
        last = h.last;
        seconds = h.seconds;
        within = let w = h.within in omega (arith, ap length arrives, length-set old.arrives.items ride.to ride.arrives);
        transfer = h.transfer;
        ready = let f = arrives-falls h.last in let t = h.ready in omega arith;
      })

  ready-now : (k seconds : ℕ) → Transfers net ride.to k seconds → IsReady new.arrives.items net asked k (ride.arrives + seconds)
  ready-now k seconds t =
      inr
      (record {
        last = ride.to;
        seconds = seconds;
        within = omega (arith, within, right.arrives_count, ap length arrives, length-set old.arrives.items ride.to ride.arrives);
        transfer = t;
        ready = omega (arith, arrives-here);
      })

  new-sound : (k : ℕ) → k < length net.changes.items → slice_index new-row k ≤ asked.start + day_long → IsReady new.arrives.items net asked k (slice_index new-row k)
  new-sound k h le =
      elim (row.sound k) [
        | inl same ↦ subst (λ t. IsReady new.arrives.items net asked k t) (sym same) (still-ready k (slice_index old-row k) (right.sound k h (omega arith)))
        | inr t ↦ subst (λ m. IsReady new.arrives.items net asked k m) (sym t.2) (ready-now k t.0 t.1)
      ]

  new-complete : (p q seconds : ℕ) → Transfers net p q seconds → slice_index new-row q ≤ slice_index new.arrives.items p + seconds
  new-complete p q seconds t =
      elim (cases_eq p ride.to) [
        | inl e ↦
            let c = row.complete q seconds (subst (λ n. Transfers net n q seconds) e t) in
            subst (λ n. slice_index new-row q ≤ slice_index new.arrives.items n + seconds) (sym e) (omega (arith, arrives-here))
        | inr ne ↦ let was = right.complete p q seconds t in let f = row.falls q in omega (arith, arrives-other p ne)
      ]

  pub lowered-right : AreLabels new net days asked
  lowered-right =
      record {
        arrives_count = ap length arrives ∙ (length-set old.arrives.items ride.to ride.arrives ∙ right.arrives_count);
        ready_count = ready.count ∙ right.ready_count;
        next_count = (next-part asked.in_round old new net ride.to ride.arrives connected).count ∙ right.next_count;
        hops_count = ap length hops ∙ (length-set old.hops.items ride.to (hop_of ride) ∙ right.hops_count);
        high = λ k h. let f = arrives-falls k in let was = right.high k h in omega arith;
        low = new-low;
        explained = new-explained;
        sound = new-sound;
        complete = new-complete;
        origin = let f = row.falls asked.origin in let was = right.origin in omega arith;
      }

  -- a lowering leaves what was ready at its moment and before as it was
  pub lowered-final : (at : ℕ) → at ≤ ride.arrives → FallAfter at old new
  lowered-final at le =
      record {
        arrives = arrives-falls;
        ready = ready-falls;
        final = λ k t before now.
            elim (ready.sound k) as (λ _. slice_index old.ready.items k ≤ t) [
              | inl same ↦ omega arith
              | inr x ↦ let low = transfer-low net search.well ride.to k x.0 x.1 in absurd (omega (arith, x.2))
            ];
      }

-- one alighted from the run at the end of its last connection
module _ (net : Connections) (days : Days) (asked : Asked) (search : IsSearch net days asked) (old new : Labels) (right : AreLabels old net days asked) (day board n : ℕ)
    (h : IsOnRun old.ready.items net days day board n) (last : Connection) (at : IsAt net n last)
    (arrival : ℕ) (arrival-is : arrival ≡ moment days day last.arrives)
    (given : IsLowered old new net asked.in_round last.to arrival (record { day = day; board = board; alight = n })) where
  abbrev ride : Ride
  ride = ride-on old.ready.items net days search.well day board n h last at

  r : IsRide net days ride
  r = ride-on-is old.ready.items net days search.well day board n h last at

  in-time : slice_index old.ready.items ride.from ≤ ride.departs
  in-time = h.boards.in_time

  l : IsLowered old new net asked.in_round last.to (moment days day last.arrives) (record { day = day; board = board; alight = n })
  l = subst (λ a. IsLowered old new net asked.in_round last.to a (record { day = day; board = board; alight = n })) arrival-is given

  same-labels : new.arrives.items ≡ old.arrives.items → new.ready.items ≡ old.ready.items → new.next.items ≡ old.next.items → new.hops.items ≡ old.hops.items → AreLabels new net days asked
  same-labels ea er en eh =
      let one = subst (λ xs. AreRight xs old.ready.items old.next.items old.hops.items net days asked) (sym ea) right in
      let two = subst (λ rs. AreRight new.arrives.items rs old.next.items old.hops.items net days asked) (sym er) one in
      let three = subst (λ ns. AreRight new.arrives.items new.ready.items ns old.hops.items net days asked) (sym en) two in
      subst (λ hs. AreRight new.arrives.items new.ready.items new.next.items hs net days asked) (sym eh) three

  pub alighted-right : AreLabels new net days asked
  alighted-right =
      elim l [
        | inl d ↦ lowered-right net days asked search old new right ride r in-time d.0 d.1 d.2 d.3
        | inr s ↦ same-labels s.1 s.2 s.3 s.4
      ]

  pub alighted-final : FallAfter (moment days day last.departs) old new
  alighted-final =
      elim l [
        | inl d ↦ let forward = (search.well.connections n last at).forward in lowered-final net days asked search old new right ride r in-time d.0 d.1 d.2 d.3 (moment days day last.departs) (omega arith)
        | inr s ↦
            record {
              arrives = λ k. omega (arith, ap (λ xs. get_or xs k 0) s.1);
              ready = λ k. omega (arith, ap (λ xs. get_or xs k 0) s.2);
              final = λ k t before now. omega (arith, ap (λ xs. get_or xs k 0) s.2);
            }
      ]

  pub alighted-low : slice_index new.arrives.items last.to ≤ moment days day last.arrives
  alighted-low =
      elim l [
        | inl d ↦
            let within : last.to < length old.arrives.items = let w = (search.well.connections n last at).to in omega (arith, right.arrives_count) in
            omega (arith, ap (λ xs. get_or xs last.to 0) d.1 ∙ get_or-set_same old.arrives.items last.to (moment days day last.arrives) 0 within)
        | inr s ↦ omega (arith, ap (λ xs. get_or xs last.to 0) s.1)
      ]

  pub alighted-kept : KeepsReady asked old new
  alighted-kept round =
      elim l [
        | inl d ↦ (subst (λ b. IsConnected b old new net last.to (moment days day last.arrives)) round d.2).1
        | inr s ↦ s.2
      ]
