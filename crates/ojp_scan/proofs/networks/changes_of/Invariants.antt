use Rattle.ojp_scan.specs.Networks.{HaveChanges}
use Rattle.ojp_scan.proofs.networks.changes_of.Given as goal

abbrev pub invariant-places : goal.invariant-places
invariant-places l = HaveChanges l.changes.items l.table l.index
