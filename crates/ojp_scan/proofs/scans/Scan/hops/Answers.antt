use Rattle.ojp_scan.proofs.HopFacts.{hops-are}
use Rattle.ojp_scan.proofs.scans.Scan.hops.Goals as goal

pub returns-clause-all : goal.returns-clause-all
returns-clause-all c table made = hops-are c.args.self.now.sweep.net table made.network
