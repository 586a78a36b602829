use Rattle.std.proofs.Common.{◌≡◌, ℕ, cond, eqb, map, ap, ◌∙◌}
use Rattle.std.proofs.lemmas.List.{take_all}
use Rattle.ojp_feed_labels.specs.Labels.{dotted}
use Rattle.ojp_feed_labels.proofs.LabelFacts.{dotted_or_none}
use Rattle.ojp_feed_labels.proofs.labels.dotted.Goals as goal

pub returns : goal.returns
unfolding dotted
returns c =
    let id = c.args.id.now in
    let text : c.as_slice.result.now ≡ dotted id = c.as_slice.ensures.value ∙ (c.loop-byte.invariant ∙ ap (map (λ (b : ℕ). cond (eqb b 58) 46 b)) (take_all c.loop-byte.byte-index id c.loop-byte-test.false)) in
    dotted_or_none c.from_bytes.result id c.as_slice.result.now c.contains.result text c.contains.ensures.value c.if-contains.false c.from_bytes.ensures.exact c.from_bytes.ensures.value
