use Rattle.std.proofs.Common.{◌≡◌, ℕ, ◌<◌, ◌++◌, ◌∷◌, [], length, refl, sym, ◌∙◌, ap, subst, arith, inl, inr}
use Rattle.std.proofs.Math.Nat.{eq-or-lt_of_le}
use Rattle.std.proofs.lemmas.Option.{same_Some, slice_get_read}
use Rattle.ojp_values.specs.declared.trips.Point.{Point}
use Rattle.ojp_exchange.specs.Points.{IsStretch}
use Rattle.ojp_exchange.specs.Tables.{AreChanges, AreParts, IsStretchOf}
use Rattle.ojp_exchange.proofs.StretchFacts.{stretch_next}
use Rattle.ojp_exchange.proofs.TableFacts.{next_part, pushed_one, some_at}
use Rattle.ojp_exchange.proofs.tables.edges_of.Goals as goal
use Rattle.ojp_exchange.proofs.tables.edges_of.Goals.{then-place-to, else-place-to}

pub places-preserved : goal.places-preserved
places-preserved c =
    let points = c.args.points.now in
    let place = c.places.place in
    let from = c.if-place-to.from in
    let to = c.if-place-to.to in
    let new = c.add_edges.new.edges.items in
    let stretch : IsStretchOf points place from to =
    elim c.if-place-to.branch [
      | then-place-to w ↦ λ (x : Point) at.
          let second = w.index-points-place-then-place-to in
          let read = slice_get_read points (length points) place second.result refl c.places-test.true second.is in
          let one : second.result ≡ x = same_Some second.result x (sym read ∙ at) in
          subst (λ (n : ℕ). IsStretch points x.stop n to) (sym w.from-is) (subst (λ (n : ℕ). IsStretch points x.stop w.count_before-from.result n) (sym w.to-is)
          (subst (λ (p : Point). IsStretch points p.stop w.count_before-from.result w.count_through-to.result) (sym second.is ∙ one) w.count_through-to.ensures))
      | else-place-to w ↦ λ (x : Point) at.
          let less : place < c.places.to = elim (eq-or-lt_of_le c.places.invariant.1) [ inl e ↦ absurd (w.if-place-to.false e) | inr l ↦ l ] in
          subst (λ (n : ℕ). IsStretch points x.stop n to) (sym w.from-is) (subst (λ (n : ℕ). IsStretch points x.stop c.places.from n) (sym w.to-is) (c.places.invariant.2 x at less))
    ] in
    let here = some_at points place c.places-test.true in
    let next = stretch_next points place from to here.0 here.1 (stretch here.0 here.1) in
    let added = c.in_ok-add_edges.ensures in
    let count : c.len.result ≡ length new = omega (arith, c.len.ensures, c.add_edges.new.edges.ok.0) in
    let pushed = pushed_one c.places.firsts.items c.push.new.self.items c.len.result _ _ c.push.ensures.items c.is_err.ensures.negation c.if-is_err.false in (
      next_part (AreChanges points) c.places.edges.items new added.more c.places.firsts.items c.push.new.self.items place c.places.invariant.0 added.right added.grown (pushed ∙ ap (λ n. c.places.firsts.items ++ n ∷ []) count),
      next.0,
      next.1,
    )

pub returns : goal.returns
returns c =
    let end : c.places.place ≡ length c.args.points.now = omega (arith, c.places-test.false, c.places.auto.place-end) in
    subst (λ (n : ℕ). AreParts (AreChanges c.args.points.now) c.places.edges.items c.places.firsts.items n) end c.places.invariant.0
