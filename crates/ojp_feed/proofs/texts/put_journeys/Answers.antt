use Rattle.std.proofs.Common.{◌≡◌, ◌<◌, length, get_or, List, subst}
use Rattle.ojp_feed_plans.specs.declared.plans.PlannedJourney.{PlannedJourney}
use Rattle.ojp_feed.specs.Texts.{journey_lines}
use Rattle.ojp_feed.proofs.TextFacts.{grows_more}
use Rattle.ojp_feed.proofs.texts.put_journeys.Goals as goal

pub loop-journey-preserved : goal.loop-journey-preserved
loop-journey-preserved c =
    let plan = c.args.plan.now in
    let i = c.loop-journey.journey-index in
    let journey = c.journey-item.result in
    let value = c.as_slice-journey-items.ensures.value in
    let here = subst (λ (xs : List PlannedJourney). i < length xs) value c.loop-journey-test.true in
    let is = subst (λ (xs : List PlannedJourney). journey ≡ get_or xs i journey) value c.journey-item.is in
    grows_more (journey_lines plan) plan.journeys.items i journey c.args.out.now.items c.loop-journey.out.items c.put_lines.new.out.items here is c.loop-journey.invariant c.in_ok-put_lines.ensures
