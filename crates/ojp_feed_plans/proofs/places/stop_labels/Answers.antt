use Rattle.std.proofs.Common.{Bor, map, ap, subst, ◌∙◌}
use Rattle.ojp_values.specs.Texts.{Text}
use Rattle.ojp_feed_labels.specs.Doubles.{AreLabelsRefused}
use Rattle.ojp_feed_plans.proofs.RefusalFacts.{two_stops}
use Rattle.ojp_feed_plans.proofs.places.stop_labels.Goals as goal

pub returns : goal.returns
returns c patterns served =
    let now : Bor Text → Text = λ id. id.now in
    let given = map now c.as_slice.result.now in
    let why = subst (AreLabelsRefused 32 given) c.in-Err-Doubled.field-0-is c.in-Err-Doubled.ensures.refused in
    two_stops c.args.feed.now patterns c.args.numbers.now given c.in-Err-Doubled.first c.in-Err-Doubled.second c.number_at.result c.number_at-in-Err-Doubled.result served (ap (map now) c.as_slice.ensures.value ∙ c.in-Ok.ensures) why
    c.number_at.ensures c.number_at-in-Err-Doubled.ensures
