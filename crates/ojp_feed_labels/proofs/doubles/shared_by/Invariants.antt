use Rattle.std.proofs.Common.{map, take}
use Rattle.ojp_feed_labels.specs.Doubles.{AreShared}
use Rattle.ojp_feed_labels.proofs.doubles.shared_by.Given as goal

abbrev pub invariant-loop-id : goal.invariant-loop-id
invariant-loop-id l = AreShared l.most (map (λ id. id.now) (take l.id-index l.ids)) l.shared
