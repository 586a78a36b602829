use Rattle.std.proofs.Common.{◌≡◌, Some, length, refl, sym, ◌∙◌}
use Rattle.std.specs.Prelude.{slice_get}
use Rattle.std.proofs.lemmas.Option.{slice_get_read}
use Rattle.ojp_feed_plans.proofs.RefusalFacts.{alike_seen, seen_more, seen_none}
use Rattle.ojp_feed_plans.proofs.journeys.labels_apart.Goals as goal

pub loop-journey-init : goal.loop-journey-init
loop-journey-init c = seen_none c.args.journeys.now c.new-seen.result c.new-seen.ensures.empty

pub loop-journey-preserved : goal.loop-journey-preserved
loop-journey-preserved c =
    let journeys = c.args.journeys.now in
    let i = c.loop-journey.journey-index in
    let journey = c.journey-item.result in
    let at : slice_get journeys i ≡ Some journey = slice_get_read journeys (length journeys) i journey refl c.loop-journey-test.true c.journey-item.is in
    seen_more journeys c.loop-journey.seen c.insert.new.self i journey c.loop-journey.invariant at c.in-Ok-None.ensures.updates

pub returns-in-Ok-Some : goal.returns-in-Ok-Some
returns-in-Ok-Some c =
    let journeys = c.args.journeys.now in
    let i = c.loop-journey.journey-index in
    let journey = c.journey-item.result in
    let at : slice_get journeys i ≡ Some journey = slice_get_read journeys (length journeys) i journey refl c.loop-journey-test.true c.journey-item.is in
    alike_seen c.args.patterns.now journeys i c.in-Ok-Some.first c.trip_at.result c.trip_at-in-Ok-Some.result journey
    (c.loop-journey.invariant journey.label c.in-Ok-Some.first (sym c.in-Ok-Some.ensures.old ∙ c.in-Ok-Some.field-0-is)) at c.trip_at.ensures c.trip_at-in-Ok-Some.ensures
