use Rattle.std.proofs.Common.{refl, ◌≡◌, ◌∙◌, ◌++◌, ◌∷◌, [], ◌<◌, ◌≤◌, ◌+◌, List, length, cond, true, false, Some, sym, ap, arith}
use Rattle.std.proofs.lemmas.Option.{slice_get_within, same_Some}
use Rattle.ojp_values.specs.Texts.{Text}
use Rattle.ojp_exchange.specs.Book.{Spot}
use Rattle.ojp_labels.specs.Hearing.{is_away, stops_to}
use Rattle.ojp_labels.proofs.HearFacts.{way_here, all_stops}
use Rattle.ojp_labels.proofs.TargetFacts.{stops_past, stops_next}
use Rattle.ojp_labels.proofs.targets.way_stops.Goals as goal
use Rattle.ojp_labels.proofs.targets.way_stops.Goals.{then-is_away+else-is_err, else-is_away}

pub spot-spot-requires : goal.spot-spot-requires
spot-spot-requires c =
    let it = way_here c.args.book.now c.args.region c.ways-way-items.result.now c.ways.way-index c.ways-way-items.ensures (omega arith) in
    slice_get_within c.args.book.now.spots _ it.spot it.is

pub ways-preserved : goal.ways-preserved
ways-preserved c =
    let book = c.args.book.now in
    let ask = c.args.ask.now in
    let it = way_here book c.args.region c.ways-way-items.result.now c.ways.way-index c.ways-way-items.ensures (omega arith) in
    let same : it.spot ≡ c.spot-spot.result = same_Some _ _ (sym it.is ∙ c.spot-spot.ensures) in
    elim c.if-is_away.branch [
      | then-is_away+else-is_err w ↦
          let away : is_away ask c.args.stop it.spot ≡ true = ap (is_away ask c.args.stop) same ∙ sym w.if-is_away.ensures in
          ap (λ v. v.items) w.stops-is
          ∙ (w.push.ensures.items ∙ (ap (λ b. cond b (c.ways.stops.items ++ c.spot-spot.result.stop ∷ []) c.ways.stops.items) w.if-is_err.ensures.negation
          ∙ (ap (λ (stops : List Text). stops ++ c.spot-spot.result.stop ∷ []) c.ways.invariant
          ∙ (ap (λ (s : Spot). stops_to book ask c.args.stop c.args.region c.ways.way-index ++ s.stop ∷ []) (sym same)
          ∙ sym (stops_next book ask c.args.stop c.args.region c.ways.way-index it.spot it.at away)))))
      | else-is_away w ↦
          let near : is_away ask c.args.stop it.spot ≡ false = ap (is_away ask c.args.stop) same ∙ sym w.if-is_away.ensures in
          ap (λ v. v.items) w.stops-is ∙ (c.ways.invariant ∙ sym (stops_past book ask c.args.stop c.args.region c.ways.way-index it.spot it.at near))
    ]

pub returns : goal.returns
returns c = c.ways.invariant ∙ all_stops c.args.book.now c.args.ask.now c.args.stop c.args.region c.ways-way-items.result.now c.ways.way-index c.ways-way-items.ensures c.ways-test.false
