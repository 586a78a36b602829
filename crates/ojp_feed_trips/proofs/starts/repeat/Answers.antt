use Rattle.std.proofs.Common.{◌≡◌, ℕ, ◌+◌, ◌*◌, ◌≤◌, [], ◌∷◌, ◌++◌, length, max, inl, inr, refl, ◌∙◌, ap, arith}
use Rattle.std.proofs.Math.Nat.{suc-mul}
use Rattle.std.proofs.Math.Numerals.{add-one}
use Rattle.ojp_feed_trips.proofs.StartFacts.{adds_next, adds_nothing, repeat_begins, repeat_more}
use Rattle.ojp_feed_trips.proofs.starts.repeat.Goals as goal

one_more : (start n step at behind by : ℕ) → at ≡ start + n * step → behind ≡ at + by → by ≡ step → behind ≡ start + (n + 1) * step
one_more start n step at behind by is more same =
    let times : (n + 1) * step ≡ n * step + step = ap (λ (m : ℕ). m * step) (add-one n) ∙ suc-mul n step in
    omega arith

pub departures-init : goal.departures-init
departures-init c = record {
  times = adds_nothing c.args.row.now c.args.starts.now.items;
  next = λ h. (0, omega arith);
  left = repeat_begins c.args.row.now c.args.starts.now.items c.args.most;
}

pub departures-preserved-in-Some : goal.departures-preserved-in-Some
departures-preserved-in-Some c =
    let row = c.args.row.now in
    let at = c.departures.invariant.next c.departures-test.true in
    let next = c.departures.next in
    let e : c.put.new.starts.items ≡ c.departures.starts.items ++ next ∷ [] = c.in_ok-put.ensures in
    let sum = c.in-Some.ensures in
    let room : length c.departures.starts.items ≤ c.args.most = omega (arith, c.if-len-most.true, c.len.ensures) in
    let turn : c.in-Some.behind ≡ next + max row.headway 1 = omega (arith, sum.1, c.max-headway.ensures) in
    record {
      times = adds_next row at.0 next c.args.starts.now.items c.departures.starts.items c.put.new.starts.items at.1 c.departures-test.true e c.departures.invariant.times;
      next = λ h. (at.0 + 1, one_more row.start at.0 (max row.headway 1) next c.in-Some.behind c.max-headway.result at.1 sum.1 c.max-headway.ensures);
      left = repeat_more row c.departures.starts.items c.put.new.starts.items _ c.args.most next c.in-Some.behind room c.departures-test.true e (inl turn) c.departures.invariant.left;
    }

pub departures-preserved : goal.departures-preserved
departures-preserved c =
    let row = c.args.row.now in
    let at = c.departures.invariant.next c.departures-test.true in
    let next = c.departures.next in
    let e : c.put.new.starts.items ≡ c.departures.starts.items ++ next ∷ [] = c.in_ok-put.ensures in
    let room : length c.departures.starts.items ≤ c.args.most = omega (arith, c.if-len-most.true, c.len.ensures) in
    let past : row.end ≤ next + max row.headway 1 = omega (arith, c.in-None.ensures, c.max-headway.ensures) in
    record {
      times = adds_next row at.0 next c.args.starts.now.items c.departures.starts.items c.put.new.starts.items at.1 c.departures-test.true e c.departures.invariant.times;
      next = λ h. absurd (omega (arith, h));
      left = repeat_more row c.departures.starts.items c.put.new.starts.items _ c.args.most next row.end room c.departures-test.true e (inr (refl, past)) c.departures.invariant.left;
    }
