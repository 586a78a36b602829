use Rattle.ojp_links.specs.Fits.{FitsNext}
use Rattle.ojp_links.specs.Legs.{LeadsOn}
use Rattle.ojp_timetable.specs.Journeys.{alighted}
use Rattle.ojp_links.proofs.RisingFacts.{as_test, none_left, refused, rest_at, taken, told_no}
use Rattle.ojp_links.proofs.LegFacts.{leads_first, leads_next, leads_nowhere, leads_whole}
use Rattle.ojp_links.proofs.fitting.trips.leads_on.Goals as goal

pub legs-init : goal.legs-init
legs-init c = leads_first c.args.region.now c.args.first.now c.args.legs.now

pub legs-preserved : goal.legs-preserved
legs-preserved c =
    let at = rest_at c.args.legs.now c.legs.leg-index c.leg-item.result c.legs-test.true c.leg-item.is in
    leads_next c.args.region.now c.args.first.now c.args.legs.now c.legs.last.now c.leg-item.result _ _ at
    (taken c.follows.result (FitsNext c.args.region.now (alighted c.legs.last.now) c.leg-item.result) c.follows.ensures c.if-not-follows.false)
    c.legs.invariant

pub returns-then-not-follows : goal.returns-then-not-follows
returns-then-not-follows c =
    let at = rest_at c.args.legs.now c.legs.leg-index c.leg-item.result c.legs-test.true c.leg-item.is in
    told_no (LeadsOn c.args.region.now c.args.first.now c.args.legs.now c.args.stop.now c.args.end) (λ all.
    leads_nowhere c.args.region.now c.args.first.now c.args.legs.now c.legs.last.now c.leg-item.result _ _ c.args.stop.now c.args.end at
    (refused c.follows.result (FitsNext c.args.region.now (alighted c.legs.last.now) c.leg-item.result) c.follows.ensures c.if-not-follows.true)
    c.legs.invariant
    all)

pub returns : goal.returns
returns c =
    let left = none_left c.args.legs.now c.legs.leg-index c.legs-test.false in
    as_test c.ends_at.result _ (LeadsOn c.args.region.now c.args.first.now c.args.legs.now c.args.stop.now c.args.end) c.ends_at.ensures
    (leads_whole c.args.region.now c.args.first.now c.args.legs.now c.legs.last.now _ c.args.stop.now c.args.end left c.legs.invariant)
