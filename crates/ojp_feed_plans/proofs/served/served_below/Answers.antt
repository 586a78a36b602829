use Rattle.std.proofs.Common.{List, Bool, ap, ◌∙◌}
use Rattle.ojp_feed_plans.specs.Served.{is_marked}
use Rattle.ojp_feed_plans.proofs.ServedFacts.{filtered_more}
use Rattle.ojp_feed_plans.proofs.served.served_below.Goals as goal

pub loop-number-preserved : goal.loop-number-preserved
loop-number-preserved c =
    let number = c.loop-number.number in
    filtered_more (is_marked c.args.served.now.places.items) number c.is_marked-is_served.result c.loop-number.numbers.items c.put_if.new.numbers.items
    (c.is_marked-is_served.ensures ∙ ap (λ (marks : List Bool). is_marked marks number) c.as_slice.ensures.value) c.loop-number.invariant c.in_ok-put_if.ensures
