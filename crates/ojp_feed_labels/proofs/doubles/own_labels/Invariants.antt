use Rattle.std.proofs.Common.{◌≡◌, map, take}
use Rattle.ojp_feed_labels.specs.Doubles.{AreApart, own_label}
use Rattle.ojp_feed_labels.proofs.SeenFacts.{AreSeen}
use Rattle.ojp_feed_labels.proofs.doubles.own_labels.Given as goal

abbrev pub invariant-loop-second : goal.invariant-loop-second
invariant-loop-second l = record {
  each : l.labels ≡ map (own_label l.most (map (λ id. id.now) l.ids)) (map (λ id. id.now) (take l.second l.ids));
  apart : AreApart l.labels;
  seen : AreSeen l.labels l.seen;
}
