use Rattle.std.proofs.Common.{◌≡◌, ◌<◌, ◌≤◌, ℕ, [], refl, subst, take, length, arith}
use Rattle.std.proofs.lemmas.List.{length-take}
use Rattle.std.specs.Io.KnownBytes.{Consumes}
use Rattle.ojp_steps.proofs.PieceFacts.{HasFed-start, HasFed-more, sees_end, ends_all, stops_early, fails_behind, fed_grows}
use Rattle.ojp_steps.proofs.input.read_document.Goals as goal

pub reading-init : goal.reading-init
reading-init g c = (HasFed-start _ _ _ c.new-reader.ensures, refl)

pub returns-in-Err : goal.returns-in-Err
returns-in-Err g c = fails_behind _ _ _ _ c.reading.invariant.0 c.in-Err.ensures.bytes c.in-Err.ensures.cause.failed

pub returns-then-count-eq0 : goal.returns-then-count-eq0
returns-then-count-eq0 g c =
    let none : Consumes (g.I.Source.seen c.reading.input).left (g.I.Source.seen c.read.new.self).left [] =
    subst (λ (n : ℕ). Consumes (g.I.Source.seen c.reading.input).left (g.I.Source.seen c.read.new.self).left (take n c.read.new.into)) c.if-count-eq0.true c.in-Ok.ensures.bytes.0 in
    let some : 0 < length c.read.new.into = omega (arith, c.read.auto.into, c.reading.invariant.1) in
    let room : length c.read.new.into ≡ 8192 = omega (arith, c.read.auto.into, c.reading.invariant.1) in
    ends_all _ _ _ _ c.reading.invariant.0 none (c.in-Ok.ensures.bytes.1 c.if-count-eq0.true some) c.in-Ok.ensures.cause.at_rest
    (sees_end _ _ _ _ c.in-Ok.ensures.end c.if-count-eq0.true room) c.finish.result (c.finish.ensures _ _ c.reading.invariant.0.took)

pub feed_all-requires : goal.feed_all-requires
feed_all-requires g c = (_, c.reading.invariant.0.fed, c.reading.invariant.0.took)

pub returns-in-Err-feed_all : goal.returns-in-Err-feed_all
returns-in-Err-feed_all g c =
    let short : length (take c.in-Ok.count c.read.new.into) ≤ 8192 = omega (arith, length-take c.in-Ok.count c.read.new.into, c.read.auto.into, c.reading.invariant.1) in
    stops_early _ _ _ _ c.reading.invariant.0 _ c.in-Ok.ensures.bytes.0 short c.in-Ok.ensures.cause.at_rest c.in-Err-feed_all.refused _
    (c.in-Err-feed_all.ensures _ _ c.reading.invariant.0.took) _ c.refusal_of.ensures

pub reading-preserved : goal.reading-preserved
reading-preserved g c =
    let some : 0 < length (take c.in-Ok.count c.read.new.into) = omega (arith, length-take c.in-Ok.count c.read.new.into, c.if-count-eq0.false, c.in-Ok.ensures.bound) in (
      HasFed-more _ _ _ _ _ c.reading.invariant.0 _ c.in-Ok.ensures.bytes.0 some _ (c.in-Ok-feed_all.ensures _ _ c.reading.invariant.0.took) c.in-Ok.ensures.cause.at_rest,
      omega (arith, c.read.auto.into, c.reading.invariant.1),
    )

pub reading-smaller : goal.reading-smaller
reading-smaller g c =
    let some : 0 < length (take c.in-Ok.count c.read.new.into) = omega (arith, length-take c.in-Ok.count c.read.new.into, c.if-count-eq0.false, c.in-Ok.ensures.bound) in
    fed_grows _ _ (take c.in-Ok.count c.read.new.into) c.reading.reader c.feed_all.new.reader some c.reading.invariant.0.took
    (c.in-Ok-feed_all.ensures _ _ c.reading.invariant.0.took).0
