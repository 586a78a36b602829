use Rattle.std.proofs.Common.{take, map}
use Rattle.std.specs.List.{AllZip}
use Rattle.ojp_feed_plans.specs.Days.{AreBoxes}
use Rattle.ojp_feed_plans.proofs.boxes.boxes_of.Given as goal

abbrev pub invariant-loop-service : goal.invariant-loop-service
invariant-loop-service l = AllZip (λ service boxes. AreBoxes service l.feed.window boxes) (take l.service-index l.feed.services.items) (map (λ boxes. boxes.items) l.all.items)
