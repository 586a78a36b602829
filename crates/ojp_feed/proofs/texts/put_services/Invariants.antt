use Rattle.std.proofs.Common.{◌≡◌, ◌++◌, take}
use Rattle.std.specs.List.{flat_map}
use Rattle.ojp_feed.specs.Texts.{text_of_service}
use Rattle.ojp_feed.proofs.texts.put_services.Given as goal

abbrev pub invariant-loop-days : goal.invariant-loop-days
invariant-loop-days l = l.out.items ≡ l.fn.out.items ++ flat_map text_of_service (take l.days-index l.services)
