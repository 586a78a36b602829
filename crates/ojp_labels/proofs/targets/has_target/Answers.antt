use Rattle.std.proofs.Common.{refl, ◌≡◌, ◌∙◌, ◌<◌, ◌≤◌, length, true, false, Some, sym, ap, arith}
use Rattle.std.proofs.lemmas.Option.{slice_get_within, same_Some}
use Rattle.ojp_labels.specs.Hearing.{is_away}
use Rattle.ojp_labels.proofs.HearFacts.{way_here}
use Rattle.ojp_labels.proofs.TargetFacts.{away_any, stops_past, none_any}
use Rattle.ojp_labels.proofs.targets.has_target.Goals as goal

pub spot-requires : goal.spot-requires
spot-requires c =
    let it = way_here c.args.book.now c.args.region c.ways-way-items.result.now c.ways.way-index c.ways-way-items.ensures (omega arith) in
    slice_get_within c.args.book.now.spots _ it.spot it.is

pub returns-then-is_away : goal.returns-then-is_away
returns-then-is_away c =
    let it = way_here c.args.book.now c.args.region c.ways-way-items.result.now c.ways.way-index c.ways-way-items.ensures (omega arith) in
    let same : it.spot ≡ c.spot.result = same_Some _ _ (sym it.is ∙ c.spot.ensures) in
    away_any c.args.book.now c.args.ask.now c.args.stop c.args.region c.ways.way-index it.spot it.at (ap (is_away c.args.ask.now c.args.stop) same ∙ (sym c.is_away.ensures ∙ c.if-is_away.true))

pub ways-preserved : goal.ways-preserved
ways-preserved c =
    let it = way_here c.args.book.now c.args.region c.ways-way-items.result.now c.ways.way-index c.ways-way-items.ensures (omega arith) in
    let same : it.spot ≡ c.spot.result = same_Some _ _ (sym it.is ∙ c.spot.ensures) in
    stops_past c.args.book.now c.args.ask.now c.args.stop c.args.region c.ways.way-index it.spot it.at (ap (is_away c.args.ask.now c.args.stop) same ∙ (sym c.is_away.ensures ∙ c.if-is_away.false)) ∙ c.ways.invariant

pub returns : goal.returns
returns c = c.serves.ensures ∙ none_any c.args.book.now c.args.ask.now c.args.stop c.args.region c.ways-way-items.result.now c.ways.way-index c.ways-way-items.ensures (omega arith) c.ways.invariant
