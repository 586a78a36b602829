use Rattle.std.proofs.Common.{◌≡◌, length, take}
use Rattle.ojp_labels.proofs.HearFacts.{TakenTo}
use Rattle.ojp_labels.proofs.hearing.take_ways.Given as goal

abbrev pub invariant-ways : goal.invariant-ways
invariant-ways l = TakenTo l.book l.ask l.stop l.fn.region l.found l.initial.labels.items l.labels.items l.way-index l.next
