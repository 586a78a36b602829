use Rattle.std.proofs.Common.{◌≡◌, ◌<◌, Vec, Global, length, get_or, List, subst}
use Rattle.ojp_calendars.specs.declared.day_box.DayBox.{DayBox}
use Rattle.ojp_feed_rows.specs.declared.services.Service.{Service}
use Rattle.ojp_feed_plans.proofs.DayFacts.{boxes_more}
use Rattle.ojp_feed_plans.proofs.boxes.boxes_of.Goals as goal

pub loop-service-preserved : goal.loop-service-preserved
loop-service-preserved c =
    let feed = c.args.feed.now in
    let i = c.loop-service.service-index in
    let service = c.service-item.result in
    let value = c.as_slice-service-items.ensures.value in
    let here = subst (λ (xs : List Service). i < length xs) value c.loop-service-test.true in
    let is = subst (λ (xs : List Service). service ≡ get_or xs i service) value c.service-item.is in
    boxes_more (λ (v : Vec DayBox Global). v.items) feed.window feed.services.items i service c.loop-service.all.items c.put.new.items.items c.in_ok-boxes_in.field-0 here is c.loop-service.invariant c.in_ok-boxes_in.ensures c.in_ok-put.ensures
