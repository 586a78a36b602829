use Rattle.std.proofs.Common.{arith}
use Rattle.ojp_links_net.proofs.RegionFacts.{no_fewer}
use Rattle.ojp_links_net.proofs.table.Table.add.Goals as goal

pub invariant_of-self : goal.invariant_of-self
invariant_of-self c key ask at =
    let below = c.self.invariant key ask at in
    let more = no_fewer c.add.result c.self.inside.regions c.add.new.self c.args.code c.args.host.now c.args.port c.add.ensures.ok c.add.ensures.err in
    omega (arith, below, more)
