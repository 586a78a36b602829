use Rattle.ojp_sweep.proofs.SearchFacts.{last-hop}
use Rattle.ojp_sweep.proofs.searches.Sweep.hop.Goals as goal

pub returns : goal.returns
returns c days asked a found arrives = last-hop c.args.self.now days asked found c.args.place a c.index.result.now c.requires.place arrives c.index.ensures
