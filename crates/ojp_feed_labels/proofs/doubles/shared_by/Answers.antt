use Rattle.std.proofs.Common.{List, Bor, map, take, sym, subst}
use Rattle.ojp_values.specs.Texts.{Text}
use Rattle.ojp_feed_labels.specs.Doubles.{AreShared}
use Rattle.ojp_feed_labels.proofs.CountFacts.{shared_more, shared_none}
use Rattle.ojp_feed_labels.proofs.DoubleFacts.{ids_more}
use Rattle.ojp_feed_labels.proofs.doubles.shared_by.Goals as goal

pub loop-id-init : goal.loop-id-init
loop-id-init c = shared_none c.args.most c.new-shared.result c.new-shared.ensures.empty

pub loop-id-preserved : goal.loop-id-preserved
loop-id-preserved c =
    let ids = c.args.ids.now in
    let i = c.loop-id.id-index in
    let id = c.as_bytes.result.now in
    let new = c.insert.new.self in
    subst (λ (all : List Text). AreShared c.args.most all new) (sym (ids_more ids i _ id c.loop-id-test.true c.as_bytes.ensures.value))
    (shared_more c.args.most (map (λ (one : Bor Text). one.now) (take i ids)) id c.label_of-label.result c.contains_key-is_there.result c.loop-id.shared new
    c.label_of-label.ensures.value c.contains_key-is_there.ensures c.loop-id.invariant c.in-Ok.ensures.updates)
