use Rattle.ojp_scan.specs.Days.{AreBases}
use Rattle.ojp_scan.proofs.days.set_bases.Given as goal

abbrev pub invariant-days : goal.invariant-days
invariant-days l = AreBases l.bases.items l.table l.first l.day
