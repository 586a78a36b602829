-- The network of rows in the order of their departures.
use Rattle.std.proofs.Common.{◌≡◌, ℕ, ◌+◌, ◌<◌, ◌≤◌, ◌⊎◌, List, [], Some, length, get_or, sym, ap, subst, inl, inr, arith, slice_get, slice_index, ◌∙◌}
use Rattle.std.proofs.lemmas.Bool.{cases_lt}
use Rattle.std.proofs.lemmas.List.{get_or_past}
use Rattle.std.proofs.lemmas.Option.{slice_get_within, slice_get-get_or}
use Rattle.ojp_sweep.specs.declared.connections.Connection.{Connection}
use Rattle.ojp_sweep.specs.declared.connections.Connections.{Connections}
use Rattle.ojp_sweep.specs.declared.connections.Walk.{Walk}
use Rattle.ojp_sweep.specs.Rides.{IsAt, IsWell}
use Rattle.ojp_sweep.specs.Ranks.{AreSorted}
use Rattle.ojp_sweep.specs.Rows.{AreRows, AreChanges, IsNetworkOf}

module _ (rows : List Connection) (places journeys : ℕ) (are : AreRows rows places journeys) (net : Connections) (sorted : AreSorted rows net.sorted.items)
    (services changes : List ℕ) (services-are : net.services.items ≡ services) (changes-are : net.changes.items ≡ changes) (walks-are : net.walks.items ≡ []) (firsts-count : length net.firsts.items ≡ length changes + 1)
    (firsts-zero : (i : ℕ) → i < length changes + 1 → slice_index net.firsts.items i ≡ 0) (seconds : AreChanges changes) (places-are : places ≡ length changes) (journeys-are : journeys ≡ length services) where
  -- the row of a connection
  row-of : (n : ℕ) (c : Connection) → IsAt net n c → (n < length rows) × (slice_get rows (sorted.order n) ≡ Some c)
  row-of n c at =
      let h : n < length rows = let w = slice_get_within net.sorted.items n c at in omega (arith, sorted.count) in
      (h, sym (sorted.at n h) ∙ at)

  no-walk : (k : ℕ) (walk : Walk) → slice_get net.walks.items k ≡ Some walk → ⊥
  no-walk k walk at = let h = slice_get_within net.walks.items k walk at in absurd (omega (arith, ap length walks-are))

  first-zero : (place : ℕ) → slice_index net.firsts.items place ≤ length net.walks.items
  first-zero place =
      elim (cases_lt place (length changes + 1)) [
        | inl h ↦ omega (arith, firsts-zero place h)
        | inr h ↦ omega (arith, get_or_past net.firsts.items place 0 (omega arith))
      ]

  rise : (n m : ℕ) (c d : Connection) → n < m → IsAt net n c → IsAt net m d → (c.departs < d.departs) ⊎ ((c.departs ≡ d.departs) × (sorted.order n < sorted.order m))
  rise n m c d lt c_at d_at =
      let a = row-of n c c_at in
      let b = row-of m d d_at in
      sorted.is_order.rising n m c d lt b.0 a.1 b.1

  leaves-on : (n m : ℕ) (c d : Connection) → n < m → IsAt net n c → IsAt net m d → c.departs ≤ d.departs
  leaves-on n m c d lt c_at d_at = elim (rise n m c d lt c_at d_at) [ inl less ↦ omega arith | inr e ↦ omega (arith, e.0) ]

  by-index : (n m : ℕ) (c d : Connection) → IsAt net n c → IsAt net m d → c.journey ≡ d.journey → n ≤ m → c.position ≤ d.position
  by-index n m c d c_at d_at journey le =
      let a = row-of n c c_at in
      let b = row-of m d d_at in
      elim (cases_lt (sorted.order m) (sorted.order n)) as (λ _. c.position ≤ d.position) [
        | inl lt ↦
            let back = (are.by_index (sorted.order m) (sorted.order n) d c b.1 a.1 (sym journey) (omega arith)).1 in
            elim (cases_lt n m) as (λ _. c.position ≤ d.position) [
              | inl up ↦ elim (rise n m c d up c_at d_at) [ inl less ↦ absurd (omega arith) | inr e ↦ absurd (omega (arith, e.1)) ]
              | inr ge ↦ let e : n ≡ m = omega arith in let f = ap sorted.order e in absurd (omega arith)
            ]
        | inr ge ↦ (are.by_index (sorted.order n) (sorted.order m) c d a.1 b.1 journey ge).0
      ]

  by-position : (n m : ℕ) (c d : Connection) → IsAt net n c → IsAt net m d → c.journey ≡ d.journey → c.position ≤ d.position → n ≤ m
  by-position n m c d c_at d_at journey le =
      let a = row-of n c c_at in
      let b = row-of m d d_at in
      let rows-le = are.by_position (sorted.order n) (sorted.order m) c d a.1 b.1 journey le in
      let departs = (are.by_index (sorted.order n) (sorted.order m) c d a.1 b.1 journey rows-le).1 in
      elim (cases_lt m n) as (λ _. n ≤ m) [
        | inl lt ↦ elim (rise m n d c lt d_at c_at) [ inl less ↦ absurd (omega arith) | inr e ↦ absurd (omega (arith, e.1)) ]
        | inr ge ↦ ge
      ]

  is-well : IsWell net
  is-well =
      record {
        connections = λ n c at.
            let w = are.hops (sorted.order n) c (row-of n c at).1 in
            record {
              from = let f = w.from in omega (arith, places-are, ap length changes-are);
              to = let t = w.to in omega (arith, places-are, ap length changes-are);
              journey = let j = w.journey in omega (arith, journeys-are, ap length services-are);
              forward = w.forward;
              offset = w.offset;
            };
        in_order = λ n m d le h.
            let an = slice_get-get_or net.sorted.items n d (omega arith) in
            let am = slice_get-get_or net.sorted.items m d h in
            elim (cases_lt n m) as (λ _. (get_or net.sorted.items n d).departs ≤ (get_or net.sorted.items m d).departs) [
              | inl lt ↦ leaves-on n m (get_or net.sorted.items n d) (get_or net.sorted.items m d) lt an am
              | inr ge ↦ let e : n ≡ m = omega arith in subst (λ k. (get_or net.sorted.items n d).departs ≤ (get_or net.sorted.items k d).departs) e (omega arith)
            ];
        by_index = by-index;
        by_position = by-position;
        count = let few = are.count in omega (arith, sorted.count);
        changes = λ place h. subst (λ xs. 1 ≤ slice_index xs place) (sym changes-are) (seconds place (omega (arith, ap length changes-are)));
        walks = λ k walk at. absurd (no-walk k walk at);
        firsts = first-zero;
        firsts_count = firsts-count ∙ ap (λ xs. length xs + 1) (sym changes-are);
        of_place = λ place k walk h from to at. absurd (no-walk k walk at);
      }

  pub is-network : IsNetworkOf net rows services changes
  is-network =
      record {
        well = is-well;
        services_are = services-are;
        changes_are = changes-are;
        walks_are = walks-are;
        count = sorted.count;
        order = sorted.order;
        at = λ n h. (sorted.is_order.within n h, sorted.at n h);
        all = sorted.is_order.all;
        rising = rise;
      }
