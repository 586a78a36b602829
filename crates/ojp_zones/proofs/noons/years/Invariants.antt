use Rattle.std.proofs.Common.{◌≡◌, ◌+◌, length}
use Rattle.ojp_zones.specs.Noons.{AreYears}
use Rattle.ojp_zones.proofs.noons.years.Given as goal

abbrev pub invariant-loop-number : goal.invariant-loop-number
invariant-loop-number l = record { years : AreYears l.zone l.years.items; count : length l.years.items + 1970 ≡ l.number }
