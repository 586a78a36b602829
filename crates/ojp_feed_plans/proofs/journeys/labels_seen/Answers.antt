use Rattle.std.proofs.Common.{◌<◌, ◌≤◌, List, length, subst, arith}
use Rattle.std.proofs.lemmas.List.{take_all}
use Rattle.ojp_values.specs.Texts.{Text}
use Rattle.ojp_feed_plans.specs.Labels.{AreKeys}
use Rattle.ojp_feed_plans.proofs.LabelFacts.{keys_more, keys_none}
use Rattle.ojp_feed_plans.proofs.journeys.labels_seen.Goals as goal

pub loop-number-init : goal.loop-number-init
loop-number-init c = keys_none c.new-seen.result c.new-seen.ensures.empty

pub loop-number-preserved : goal.loop-number-preserved
loop-number-preserved c =
    let labels = c.args.labels.now in
    let number = c.loop-number.number in
    let label = c.label_at-label.result in
    let here : number < length labels = omega arith in
    keys_more labels number number label c.loop-number.seen c.insert.new.self here (c.label_at-label.ensures label here) c.loop-number.invariant c.in-Ok.ensures.updates

pub returns : goal.returns
returns c =
    let behind : length c.args.labels.now ≤ c.loop-number.number = omega arith in
    subst (λ (all : List Text). AreKeys all c.loop-number.seen) (take_all c.loop-number.number c.args.labels.now behind) c.loop-number.invariant
