use Rattle.std.proofs.Common.{◌<◌, ℕ, List, [], refl, sym, ◌∙◌, subst, take, length, arith, Err, Ok}
use Rattle.std.proofs.lemmas.List.{length-take}
use Rattle.std.specs.Io.KnownBytes.{Consumes}
use Rattle.ojp_http.specs.declared.refusal.HttpRefusal.{HttpRefusal}
use Rattle.ojp_http.specs.Asking.{Allows}
use Rattle.ojp_http.proofs.Requesting.{HasRead-start, HasRead-more, allows_whole, allows_cut, allows_stop, stops_behind, work_falls, stops_here}
use Rattle.ojp_http.proofs.ask.read_request.Goals as goal

pub reading-init : goal.reading-init
reading-init g c = (HasRead-start _ _ _ _ c.request-framing.ensures.new c.request-framing.ensures.room c.request-framing.ensures.phase c.new-body.ensures.items, refl)

pub returns-then-count-eq0-clause-allowed : goal.returns-then-count-eq0-clause-allowed
returns-then-count-eq0-clause-allowed g c =
    let some : 0 < length c.read.new.into = omega (arith, c.read.auto.into, c.reading.invariant.1) in
    allows_cut _ _ _ c.reading.framing c.reading.framing [] c.reading.body.items [] _ _ 0 0 c.reading.invariant.0
    (subst (λ (n : ℕ). Consumes (g.I.Source.seen c.reading.input).left (g.I.Source.seen c.read.new.self).left (take n c.read.new.into)) c.if-count-eq0.true c.in-Ok.ensures.bytes.0)
    (c.in-Ok.ensures.bytes.1 c.if-count-eq0.true some)

pub returns-in-Err-feed-clause-allowed : goal.returns-in-Err-feed-clause-allowed
returns-in-Err-feed-clause-allowed g c =
    subst (λ (r : HttpRefusal). Allows (g.I.Source.seen c.args.input.now).left (Err r)) (sym c.refusal_of.ensures)
    (allows_stop _ _ _ c.reading.framing c.feed.new.self _ c.reading.body.items c.feed.new.body.items _ _ 0 0 c.reading.invariant.0 c.in-Ok.ensures.bytes.0 c.in-Err-feed.stop c.in-Err-feed.ensures)

pub returns-in-Err-feed-clause-taken : goal.returns-in-Err-feed-clause-taken
returns-in-Err-feed-clause-taken g c = stops_behind _ _ _ c.reading.framing c.reading.body.items (take c.in-Ok.count c.read.new.into) _ _ c.reading.invariant.0 c.in-Ok.ensures.bytes.0
    (omega (arith, length-take c.in-Ok.count c.read.new.into, c.read.auto.into, c.reading.invariant.1))

pub returns-then-is_whole-clause-allowed : goal.returns-then-is_whole-clause-allowed
returns-then-is_whole-clause-allowed g c =
    subst (λ (r : List ℕ). Allows (g.I.Source.seen c.args.input.now).left (Ok r)) (sym c.from_items.ensures)
    (allows_whole _ _ _ c.reading.framing c.feed.new.self _ c.reading.body.items c.feed.new.body.items _ _ 0 _ c.reading.invariant.0 c.in-Ok.ensures.bytes.0 c.in-Ok-feed.ensures (sym c.is_whole.ensures ∙ c.if-is_whole.true))

pub returns-then-is_whole-clause-taken : goal.returns-then-is_whole-clause-taken
returns-then-is_whole-clause-taken g c = stops_behind _ _ _ c.reading.framing c.reading.body.items (take c.in-Ok.count c.read.new.into) _ _ c.reading.invariant.0 c.in-Ok.ensures.bytes.0
    (omega (arith, length-take c.in-Ok.count c.read.new.into, c.read.auto.into, c.reading.invariant.1))

pub reading-preserved : goal.reading-preserved
reading-preserved g c = (
  HasRead-more _ _ _ c.reading.framing c.feed.new.self _ c.reading.body.items c.feed.new.body.items _ _ _ _ c.reading.invariant.0 c.in-Ok.ensures.bytes.0 c.in-Ok-feed.ensures (sym c.is_whole.ensures ∙ c.if-is_whole.false) c.in-Ok.ensures.cause.at_rest,
  omega (arith, c.read.auto.into, c.reading.invariant.1),
)

pub reading-smaller : goal.reading-smaller
reading-smaller g c =
    let pos : 0 < length (take c.in-Ok.count c.read.new.into) = omega (arith, length-take c.in-Ok.count c.read.new.into, c.if-count-eq0.false, c.in-Ok.ensures.bound) in
    work_falls _ _ c.reading.framing c.feed.new.self (take c.in-Ok.count c.read.new.into) c.reading.body.items c.feed.new.body.items _ _ _ c.reading.invariant.0 c.in-Ok-feed.ensures
    (sym c.is_whole.ensures ∙ c.if-is_whole.false) pos

pub returns-in-Err-clause-taken : goal.returns-in-Err-clause-taken
returns-in-Err-clause-taken g c = stops_here _ _ _ c.reading.framing c.reading.body.items _ _ c.reading.invariant.0 c.in-Err.ensures.bytes

pub returns-then-count-eq0-clause-taken : goal.returns-then-count-eq0-clause-taken
returns-then-count-eq0-clause-taken g c =
    stops_behind _ _ _ c.reading.framing c.reading.body.items (take c.in-Ok.count c.read.new.into) _ _ c.reading.invariant.0 c.in-Ok.ensures.bytes.0
    (omega (arith, length-take c.in-Ok.count c.read.new.into, c.read.auto.into, c.reading.invariant.1))
