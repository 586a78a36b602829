use Rattle.std.proofs.Common.{◌∙◌}
use Rattle.ojp_scan.proofs.PlaceFacts.{numbers-all}
use Rattle.ojp_scan.proofs.scans.Scan.place_of.Goals as goal

pub returns-in-Some : goal.returns-in-Some
returns-in-Some c table made = c.in-Some.ensures.value ∙ numbers-all table c.args.self.now.numbers made.numbers c.args.stop

pub returns-in-None : goal.returns-in-None
returns-in-None c table made = c.in-None.ensures.value ∙ numbers-all table c.args.self.now.numbers made.numbers c.args.stop
