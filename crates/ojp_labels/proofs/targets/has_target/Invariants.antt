use Rattle.std.proofs.Common.{◌≡◌, []}
use Rattle.ojp_labels.specs.Hearing.{stops_to}
use Rattle.ojp_labels.proofs.targets.has_target.Given as goal

abbrev pub invariant-ways : goal.invariant-ways
invariant-ways l = stops_to l.book l.ask l.stop l.fn.region l.way-index ≡ []
