use Rattle.ojp_turns.proofs.LastFacts.{last_by, none_last}
use Rattle.ojp_turns.proofs.asking.Asked.is_last.Goals as goal

pub returns-in-Some : goal.returns-in-Some
returns-in-Some c = last_by c.args.self.now.last.items c.args.number c.args.query.now c.in-Some.last _ c.same_query.result c.requires c.index.ensures c.in-Some.is c.same_query.ensures

pub returns-in-None : goal.returns-in-None
returns-in-None c = none_last c.args.self.now.last.items c.args.number c.args.query.now _ c.requires c.index.ensures c.in-None.is
