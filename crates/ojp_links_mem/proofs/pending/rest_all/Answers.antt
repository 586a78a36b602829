use Rattle.std.proofs.Common.{arith}
use Rattle.ojp_links_mem.proofs.RestFacts.{rested_all, rested_one}
use Rattle.ojp_links_mem.proofs.pending.rest_all.Goals as goal

pub keys-preserved : goal.keys-preserved
keys-preserved c = rested_one c.args.asks.now c.keys.asks c.rest_at.new.asks c.keys.key c.keys.invariant c.rest_at.ensures.here c.rest_at.ensures.others

pub returns : goal.returns
returns c = rested_all c.args.asks.now c.keys.asks c.keys.key c.keys.invariant (omega (arith, c.capacity-key-end.ensures.slots, c.keys-test.false))
