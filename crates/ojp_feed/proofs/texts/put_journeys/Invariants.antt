use Rattle.std.proofs.Common.{◌≡◌, ◌++◌, take}
use Rattle.std.specs.List.{flat_map}
use Rattle.ojp_feed.specs.Texts.{journey_lines}
use Rattle.ojp_feed.proofs.texts.put_journeys.Given as goal

abbrev pub invariant-loop-journey : goal.invariant-loop-journey
invariant-loop-journey l = l.out.items ≡ l.fn.out.items ++ flat_map (journey_lines l.plan) (take l.journey-index l.plan.journeys.items)
