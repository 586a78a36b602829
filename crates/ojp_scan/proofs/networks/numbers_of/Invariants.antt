use Rattle.ojp_scan.specs.Networks.{HaveNumbers}
use Rattle.ojp_scan.proofs.networks.numbers_of.Given as goal

abbrev pub invariant-places : goal.invariant-places
invariant-places l = HaveNumbers l.numbers l.table l.index
