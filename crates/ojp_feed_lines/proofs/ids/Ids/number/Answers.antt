use Rattle.ojp_feed_lines.proofs.OperatorFacts.{not_numbered, numbered}
use Rattle.ojp_feed_lines.proofs.ids.Ids.number.Goals as goal

pub returns-in-Some : goal.returns-in-Some
returns-in-Some c = numbered c.args.self.now.ids.keys c.args.id.now c.in-Some.number c.in-Some.ensures.index

pub returns-in-None : goal.returns-in-None
returns-in-None c = not_numbered c.args.self.now.ids.keys c.args.id.now c.in-None.ensures.index
