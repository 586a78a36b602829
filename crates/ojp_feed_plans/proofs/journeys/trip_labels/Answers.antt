use Rattle.std.proofs.Common.{Bor, map, ap, subst, ◌∙◌}
use Rattle.ojp_values.specs.Texts.{Text}
use Rattle.ojp_feed_labels.specs.Doubles.{AreLabelsRefused}
use Rattle.ojp_feed_plans.proofs.RefusalFacts.{two_trips}
use Rattle.ojp_feed_plans.proofs.journeys.trip_labels.Goals as goal

pub returns-clause-refused : goal.returns-clause-refused
returns-clause-refused c =
    let now : Bor Text → Text = λ id. id.now in
    let given = map now c.as_slice.result.now in
    let why = subst (AreLabelsRefused 21 given) c.in-Err-Doubled.field-0-is c.in-Err-Doubled.ensures.refused in
    two_trips c.args.feed.now c.args.patterns.now given c.in-Err-Doubled.first c.in-Err-Doubled.second c.trip_at.result c.trip_at-in-Err-Doubled.result (ap (map now) c.as_slice.ensures.value ∙ c.in-Ok.ensures) why
    c.trip_at.ensures c.trip_at-in-Err-Doubled.ensures
