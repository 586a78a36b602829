-- The hops that a network has are those of its table, in order.
use Rattle.std.proofs.Common.{◌≡◌, ℕ, zero, suc, ◌+◌, ◌<◌, ◌⊎◌, List, [], ◌∷◌, Some, map, sym, ap, subst, refl, inl, inr, arith, slice_get, ◌∙◌}
use Rattle.std.proofs.lemmas.Option.{none-some, same_Some, slice_get_within}
use Rattle.ojp_values.specs.Lists.{Among}
use Rattle.ojp_timetable.specs.Tables.{Timetable}
use Rattle.ojp_timetable.specs.declared.calls.Call.{Call}
use Rattle.ojp_sweep.specs.declared.connections.Connection.{Connection}
use Rattle.ojp_sweep.specs.declared.connections.Connections.{Connections}
use Rattle.ojp_sweep.specs.Rides.{IsAt}
use Rattle.ojp_scan.specs.declared.hops.Hop.{Hop}
use Rattle.ojp_scan.specs.Hops.{IsHop, LeavesAt, StandsBefore, AreHops}
use Rattle.ojp_scan.specs.Networks.{IsConnection, IsNetworkFor}
use Rattle.ojp_scan.specs.Scans.{hop_of}
use Rattle.ojp_values.proofs.EachFacts.{at_among}
use Rattle.ojp_scan.proofs.TableFacts.{one-call}

-- what is read of a list of hops
read-hop : (connections : List Connection) (n : ℕ) (hop : Hop) → slice_get (map hop_of connections) n ≡ Some hop → (c : Connection) × (slice_get connections n ≡ Some c) × (hop ≡ hop_of c)
read-hop [] n hop e = absurd (none-some hop e)
read-hop (c ∷ cs) zero hop e = (c, refl, sym (same_Some (hop_of c) hop e))
read-hop (c ∷ cs) (suc n) hop e = read-hop cs n hop e

hop-among : (connections : List Connection) (n : ℕ) (c : Connection) → slice_get connections n ≡ Some c → Among (hop_of c) (map hop_of connections)
hop-among [] n c e = absurd (none-some c e)
hop-among (d ∷ cs) zero c e = inl (ap hop_of (sym (same_Some d c e)))
hop-among (d ∷ cs) (suc n) c e = inr (hop-among cs n c e)

module _ (net : Connections) (table : Timetable) (net-is : IsNetworkFor net table) where
  -- each connection is a hop
  pub connection-is : (n : ℕ) (c : Connection) → IsAt net n c → IsConnection table c
  connection-is n c at =
      let within = slice_get_within net.sorted.items n c at in
      let row = net-is.is.at n (omega (arith, net-is.is.count)) in
      (net-is.rows_are.sound (net-is.is.order n) c (sym row.1 ∙ at)).0

  leaves-is : (c : Connection) → IsConnection table c → (u : ℕ) → LeavesAt table (hop_of c) u → u ≡ c.departs
  leaves-is c x u l =
      let call = one-call table c.journey c.position l.of x.of l.call x.board l.at x.at l.call_at x.board_at in
      same_Some u c.departs (sym l.departs ∙ (ap (λ (k : Call). k.departs) call ∙ x.departs))

  -- and each hop a connection
  pub hops-are : AreHops table (map hop_of net.sorted.items)
  hops-are =
      record {
        just_these = λ hop. (
          λ among.
              let n = at_among (map hop_of net.sorted.items) hop among in
              let c = read-hop net.sorted.items n.0 hop n.1 in
              let x = connection-is n.0 c.0 c.1 in
              subst (IsHop table) (sym c.2) (record { of = x.of; at = x.at; within = slice_get_within x.of.calls (c.0.position + 1) x.alight x.alight_at }),
          λ h.
              let row = net-is.rows_are.complete hop.journey hop.position h.of h.at h.within (inl (slice_get_within table.journeys hop.journey h.of h.at)) in
              let there = net-is.is.all row.row (slice_get_within net-is.rows row.row row.connection row.at) in
              let at = (net-is.is.at there.0 there.1).1 ∙ (ap (λ k. slice_get net-is.rows k) there.2 ∙ row.at) in
              let same_hop : hop_of row.connection ≡ hop = ap (λ n. record { journey = n; position = row.connection.position }) row.journey_is ∙ ap (λ n. record { journey = hop.journey; position = n }) row.position_is in
              subst (λ (k : Hop). Among k (map hop_of net.sorted.items)) same_hop (hop-among net.sorted.items there.0 row.connection at),
        );
        rising = λ m n x y lt a b u v lu lv.
            let c = read-hop net.sorted.items m x a in
            let d = read-hop net.sorted.items n y b in
            let xc = connection-is m c.0 c.1 in
            let yd = connection-is n d.0 d.1 in
            let eu = leaves-is c.0 xc u (subst (λ (k : Hop). LeavesAt table k u) c.2 lu) in
            let ev = leaves-is d.0 yd v (subst (λ (k : Hop). LeavesAt table k v) d.2 lv) in
            let in_c = slice_get_within net.sorted.items m c.0 c.1 in
            let in_d = slice_get_within net.sorted.items n d.0 d.1 in
            let at-c = (net-is.is.at m (omega (arith, net-is.is.count))).1 in
            let at-d = (net-is.is.at n (omega (arith, net-is.is.count))).1 in
            elim (net-is.is.rising m n c.0 d.0 lt c.1 d.1) as (λ _. (u < v) ⊎ ((u ≡ v) × StandsBefore x.journey x.position y.journey y.position)) [
              | inl before ↦ inl (omega arith)
              | inr together ↦
                  let stands = net-is.rows_are.rising (net-is.is.order m) (net-is.is.order n) c.0 d.0 together.1 (sym at-c ∙ c.1) (sym at-d ∙ d.1) in
                  let leaves = together.0 in
                  inr (omega arith, subst (λ (k : Hop). StandsBefore k.journey k.position y.journey y.position) (sym c.2) (subst (λ (k : Hop). StandsBefore c.0.journey c.0.position k.journey k.position) (sym d.2) stands))
            ];
      }
