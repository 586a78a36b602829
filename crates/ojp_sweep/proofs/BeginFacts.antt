-- Where a sweep begins and ends.
use Rattle.std.proofs.Common.{◌≡◌, ℕ, List, ◌+◌, ◌-◌, ◌<◌, ◌≤◌, true, false, inl, inr, length, get_or, sym, ap, subst, arith, slice_index, ◌∙◌, Bool, MatchBool, refl}
use Rattle.std.proofs.lemmas.Option.{slice_get_within, slice_get-get_or, get_or_from_slice_get}
use Rattle.std.proofs.lemmas.Bool.{cases_eq, cases_lt, ltb-true, ltb-false}
use Rattle.std.proofs.lemmas.List.{get_or_past}
use Rattle.std.proofs.Math.Dec.{ltb}
use Rattle.std.specs.List.Sorted.{IsPartitionPoint}
use Rattle.ojp_sweep.specs.declared.connections.Connection.{Connection}
use Rattle.ojp_sweep.specs.declared.connections.Connections.{Connections}
use Rattle.ojp_sweep.specs.declared.connections.Days.{Days}
use Rattle.ojp_sweep.specs.declared.connections.Asked.{Asked}
use Rattle.ojp_sweep.specs.declared.labels.Labels.{Labels}
use Rattle.ojp_sweep.specs.declared.progress.Progress.{Progress}
use Rattle.ojp_sweep.specs.Labels.{IsReady, AreLabels, IsRestarted, IsCleared, BoardsLate, KeepsReady, row_of}
use Rattle.ojp_sweep.specs.Rides.{IsSearch}
use Rattle.ojp_sweep.specs.Sweeps.{Boards, run_of, IsCountBefore, IsBegun, IsSwept}
use Rattle.ojp_sweep.proofs.RideFacts.{transfer-from, transfer-to}

-- the point up to which offsets are below one is the count of what leaves before its moment
pub count-before : (net : Connections) (days : Days) (day at offset count : ℕ) → offset ≡ at - slice_index days.bases.items day → count ≤ length net.sorted.items
    → IsPartitionPoint (λ (k : Connection). ltb k.departs offset ≡ true) (λ (k : Connection). ltb k.departs offset ≡ false) net.sorted.items count → IsCountBefore net days day at count
count-before net days day at offset count e within point =
    record {
      within = within;
      before = λ n of h is.
          let read = get_or_from_slice_get net.sorted.items n of of is in
          let test = subst (λ (k : Connection). ltb k.departs offset ≡ true) read (point.0 n of (omega arith) h) in
          let low = ltb-true of.departs offset test in
          omega arith;
      after = λ n of h is.
          let read = get_or_from_slice_get net.sorted.items n of of is in
          let test = subst (λ (k : Connection). ltb k.departs offset ≡ false) read (point.1 n of h (slice_get_within net.sorted.items n of is)) in
          let high = ltb-false of.departs offset test in
          omega arith;
    }

-- the row that begins anew, and what one boards by
row-restarted : (in_round : Bool) (old new : Labels) (asked : Asked)
    → MatchBool in_round (IsRestarted old.next.items new.next.items asked × (new.ready.items ≡ old.ready.items)) (IsRestarted old.ready.items new.ready.items asked × (new.next.items ≡ old.next.items))
    → IsRestarted (row_of in_round old.ready.items old.next.items) (row_of in_round new.ready.items new.next.items) asked
row-restarted true old new asked r = r.0
row-restarted false old new asked r = r.0

row-length : (in_round : Bool) (ready next : List ℕ) (n : ℕ) → length ready ≡ n → length next ≡ n → length (row_of in_round ready next) ≡ n
row-length true ready next n r x = x
row-length false ready next n r x = r

restarted-late : (old new : List ℕ) (asked : Asked) → IsRestarted old new asked → (k : ℕ) → k < length old → asked.start ≤ slice_index new k
restarted-late old new asked r k h =
    elim (cases_eq k asked.origin) [
      | inl e ↦ let o = r.origin (subst (λ n. n < length old) e h) in subst (λ n. asked.start ≤ slice_index new n) (sym e) (omega arith)
      | inr ne ↦ omega (arith, r.others k h ne)
    ]

-- each row is as long as it was
record AreKept (old new : Labels) : Type 0 where
  ready : length new.ready.items ≡ length old.ready.items
  next : length new.next.items ≡ length old.next.items

rows-kept : (in_round : Bool) (old new : Labels) (asked : Asked)
    → MatchBool in_round (IsRestarted old.next.items new.next.items asked × (new.ready.items ≡ old.ready.items)) (IsRestarted old.ready.items new.ready.items asked × (new.next.items ≡ old.next.items)) → AreKept old new
rows-kept true old new asked r = record { ready = ap length r.1; next = r.0.count }
rows-kept false old new asked r = record { ready = r.0.count; next = ap length r.1 }

boards-late : (in_round : Bool) (old new : Labels) (asked : Asked)
    → MatchBool in_round (IsRestarted old.next.items new.next.items asked × (new.ready.items ≡ old.ready.items)) (IsRestarted old.ready.items new.ready.items asked × (new.next.items ≡ old.next.items))
    → (in_round ≡ true → (place : ℕ) → place < length old.ready.items → asked.start ≤ slice_index old.ready.items place) → (k : ℕ) → k < length old.ready.items → asked.start ≤ slice_index new.ready.items k
boards-late true old new asked r late k h = let l = late refl k h in omega (arith, ap (λ xs. get_or xs k 0) r.1)
boards-late false old new asked r late k h = restarted-late old.ready.items new.ready.items asked r.0 k h

-- the labels of a search that begins are right
pub cleared-right : (old new : Labels) (net : Connections) (days : Days) (asked : Asked) → IsSearch net days asked → length old.arrives.items ≡ length net.changes.items → length old.ready.items ≡ length net.changes.items
    → length old.next.items ≡ length net.changes.items → length old.hops.items ≡ length net.changes.items → BoardsLate old asked → IsCleared old new asked → AreLabels new net days asked
cleared-right old new net days asked search places ready next hops late c =
    let kept = rows-kept asked.in_round old new asked c.rows in
    let ready_kept = kept.ready in
    let next_kept = kept.next in
    let row = row-restarted asked.in_round old new asked c.rows in
    let long = row-length asked.in_round old.ready.items old.next.items (length net.changes.items) ready next in
    let r = row_of asked.in_round new.ready.items new.next.items in
    record {
      arrives_count = c.arrives_count ∙ places;
      ready_count = ready_kept ∙ ready;
      next_count = next_kept ∙ next;
      hops_count = ap length c.hops ∙ hops;
      high = λ k h. omega (arith, c.arrives k (omega arith));
      low = λ k h. boards-late asked.in_round old new asked c.rows late k (omega arith);
      explained = λ k h le. absurd (omega (arith, c.arrives k (omega arith)));
      sound = λ k h le.
          elim (cases_eq k asked.origin) as (λ _. IsReady new.arrives.items net asked k (slice_index r k)) [
            | inl e ↦ inl (e, restarted-late (row_of asked.in_round old.ready.items old.next.items) r asked row k (omega arith))
            | inr ne ↦ absurd (omega (arith, row.others k (omega arith) ne))
          ];
      complete = λ p q seconds t.
          let far = c.arrives p (let w = transfer-from net search.well p q seconds t in omega arith) in
          let to = transfer-to net search.well p q seconds t in
          elim (cases_eq q asked.origin) as (λ _. slice_index r q ≤ slice_index new.arrives.items p + seconds) [
            | inl e ↦
                let o = row.origin (subst (λ n. n < length (row_of asked.in_round old.ready.items old.next.items)) e (omega arith)) in
                subst (λ n. slice_index r n ≤ slice_index new.arrives.items p + seconds) (sym e) (omega arith)
            | inr ne ↦ omega (arith, row.others q (omega arith) ne)
          ];
      origin = elim (cases_lt asked.origin (length (row_of asked.in_round old.ready.items old.next.items))) as (λ _. slice_index r asked.origin ≤ asked.start) [
        | inl h ↦ omega (arith, row.origin h)
        | inr h ↦ omega (arith, get_or_past r asked.origin 0 (let n = row.count in omega arith))
      ];
    }

-- in a round one boards by the same row
pub cleared-kept : (old new : Labels) (asked : Asked) → IsCleared old new asked → KeepsReady asked old new
cleared-kept old new asked c round =
    (subst (λ b. MatchBool b (IsRestarted old.next.items new.next.items asked × (new.ready.items ≡ old.ready.items)) (IsRestarted old.ready.items new.ready.items asked × (new.next.items ≡ old.next.items))) round c.rows).1

-- what the rows keep
pub cleared-ready : (old new : Labels) (asked : Asked) → IsCleared old new asked → length new.ready.items ≡ length old.ready.items
cleared-ready old new asked c = (rows-kept asked.in_round old new asked c.rows).ready

pub cleared-next : (old new : Labels) (asked : Asked) → IsCleared old new asked → length new.next.items ≡ length old.next.items
cleared-next old new asked c = (rows-kept asked.in_round old new asked c.rows).next

module _ (progress : Progress) (net : Connections) (days : Days) (asked : Asked) (search : IsSearch net days asked) (begun : IsBegun progress net days asked 4) where
  -- what leaves before the start cannot be boarded
  not-yet : (day n : ℕ) → day < 4 → n < slice_index progress.cursors.items day → Boards progress.labels.ready.items net days day n → ⊥
  not-yet day n day_in h b =
      let before = (begun.cursors day day_in).before n b.first h b.first_at in
      let from = (search.well.connections n b.first b.first_at).from in
      let low = begun.labels.low b.first.from from in
      let t = b.in_time in
      absurd (omega arith)

  cursor-low : (day : ℕ) → day < 4 → slice_index progress.cursors.items day ≤ slice_index progress.ends.items day
  cursor-low day day_in =
      let first = begun.cursors day day_in in
      let last = begun.ends day day_in in
      let end = slice_index progress.ends.items day in
      elim (cases_lt end (slice_index progress.cursors.items day)) [
        | inl past ↦
            let in' = first.within in
            let d : Connection = record { departs = 0; arrives = 0; from = 0; to = 0; journey = 0; position = 0 } in
            let at = slice_get-get_or net.sorted.items end d (omega arith) in
            let before = first.before end (get_or net.sorted.items end d) past at in
            let after = last.after end (get_or net.sorted.items end d) (omega arith) at in
            absurd (omega arith)
        | inr h ↦ h
      ]

  pub begun-swept : IsSwept progress net days asked
  begun-swept =
      record {
        labels = begun.labels;
        runs = begun.room.runs;
        cursors_count = begun.room.cursors;
        ends_count = begun.room.ends;
        within = cursor-low;
        ends_in = λ day day_in. (begun.ends day day_in).within;
        closed = λ day b n first last day_in le h first_at last_at journey boards. absurd (not-yet day b day_in (omega arith) boards);
        none = λ day n of day_in h at flag boards. not-yet day n day_in h boards;
        some = λ day journey n day_in journey_in flag.
            let r = begun.room.runs in
            let none = begun.none (run_of journey day) (omega arith) in
            absurd (omega arith);
        in_turn = λ x n y m c d x_in y_in h from to c_at d_at.
            let before = (begun.cursors x x_in).before n c h c_at in
            let after = (begun.cursors y y_in).after m d from d_at in
            omega arith;
        late = λ day n of day_in h at. let after = (begun.ends day day_in).after n of h at in omega arith;
      }
