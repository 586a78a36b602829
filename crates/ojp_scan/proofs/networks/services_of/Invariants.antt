use Rattle.ojp_scan.specs.Networks.{HaveServices}
use Rattle.ojp_scan.proofs.networks.services_of.Given as goal

abbrev pub invariant-journeys : goal.invariant-journeys
invariant-journeys l = HaveServices l.services.items l.table l.index
