use Rattle.ojp_zones.proofs.NoonFacts.{are_near, length-noons_of, noons_are}
use Rattle.ojp_zones.proofs.noons.Noons.new.Goals as goal

pub returns-clause-noons : goal.returns-clause-noons
returns-clause-noons c = noons_are c.args.zone.now c.requires

pub returns-clause-days : goal.returns-clause-days
returns-clause-days c = length-noons_of c.args.zone.now

pub returns-clause-near : goal.returns-clause-near
returns-clause-near c = are_near c.args.zone.now _ c.requires (noons_are c.args.zone.now c.requires)
