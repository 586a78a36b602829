use Rattle.std.proofs.Common.{List, Vec, Global, map, subst}
use Rattle.std.specs.List.{All}
use Rattle.ojp_calendars.specs.declared.day_box.DayBox.{DayBox}
use Rattle.ojp_feed_trips.specs.declared.weighing.Pattern.{Pattern}
use Rattle.ojp_feed_plans.specs.Journeys.{AreAllRuns, IsJourneyOf}
use Rattle.ojp_feed_plans.specs.Labels.{AreLabelled}
use Rattle.ojp_feed_plans.specs.Refusals.{AreJourneysRefused, ArePlacesRefused}
use Rattle.ojp_feed_plans.proofs.RefusalFacts.{refused_places, refused_written}
use Rattle.ojp_feed_plans.proofs.planning.plan.Goals as goal

pub joined-requires-clause-made : goal.joined-requires-clause-made
joined-requires-clause-made c =
    subst (λ (xs : List Pattern). All (IsJourneyOf c.args.feed.now xs) c.in-Ok-journeys_of.made.journeys.items) c.as_slice-patterns.ensures.value c.in-Ok-journeys_of.ensures.stem

pub joined-requires-clause-complete : goal.joined-requires-clause-complete
joined-requires-clause-complete c =
    let feed = c.args.feed.now in
    let journeys = c.in-Ok-journeys_of.made.journeys.items in
    let items = λ (v : Vec DayBox Global). v.items in
    record {
      boxes = map items c.in-Ok-boxes_of.boxes.items;
      boxed = c.in-Ok-boxes_of.ensures;
      all = subst (λ (bs : List (Vec DayBox Global)). AreAllRuns feed (map items bs) c.in-Ok-weigh_all.weighing.patterns.items journeys) c.as_slice-days.ensures.value
          (subst (λ (ps : List Pattern). AreAllRuns feed (map items c.as_slice-days.result.now) ps journeys) c.as_slice-patterns.ensures.value c.in-Ok-journeys_of.ensures.all);
      labelled = subst (λ (bs : List (Vec DayBox Global)). AreLabelled feed (map items bs) c.in-Ok-weigh_all.weighing.patterns.items journeys) c.as_slice-days.ensures.value
          (subst (λ (ps : List Pattern). AreLabelled feed (map items c.as_slice-days.result.now) ps journeys) c.as_slice-patterns.ensures.value c.in-Ok-journeys_of.ensures.labels);
    }

pub returns-in-Err-clause-refused : goal.returns-in-Err-clause-refused
returns-in-Err-clause-refused c =
    let feed = c.args.feed.now in
    let refused = c.in-Err.refused in
    let weighing = c.in-Ok-weigh_all.weighing in
    let patterns = weighing.patterns.items in
    let items = λ (v : Vec DayBox Global). v.items in
    let boxes = c.in-Ok-boxes_of.boxes.items in
    let why = subst (λ (bs : List (Vec DayBox Global)). AreJourneysRefused feed (map items bs) patterns refused) c.as_slice-days.ensures.value
    (subst (λ (ps : List Pattern). AreJourneysRefused feed (map items c.as_slice-days.result.now) ps refused) c.as_slice-patterns.ensures.value c.in-Err.ensures.refused) in
    refused_written feed c.as_slice-of_stop.result.now weighing.fates.items patterns (map items boxes) refused c.in-Ok-weigh_all.ensures c.in-Ok-boxes_of.ensures why

pub returns-in-Err-placed_of-clause-refused : goal.returns-in-Err-placed_of-clause-refused
returns-in-Err-placed_of-clause-refused c =
    let feed = c.args.feed.now in
    let weighing = c.in-Ok-weigh_all.weighing in
    let refused = c.in-Err-placed_of.refused in
    refused_places feed c.as_slice-of_stop.result.now weighing.fates.items weighing.patterns.items refused c.in-Ok-weigh_all.ensures
    (subst (λ (ps : List Pattern). ArePlacesRefused feed ps refused) c.as_slice-patterns.ensures.value c.in-Err-placed_of.ensures)
