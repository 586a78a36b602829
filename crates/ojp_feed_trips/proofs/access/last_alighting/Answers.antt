use Rattle.std.proofs.Common.{ap, ◌∙◌, arith}
use Rattle.std.proofs.lemmas.List.{take_all}
use Rattle.ojp_feed_trips.specs.Halts.{last_alighting}
use Rattle.ojp_feed_trips.proofs.access.last_alighting.Goals as goal

pub returns : goal.returns
returns c = c.loop-halt.invariant ∙ ap last_alighting (take_all c.loop-halt.halt-index c.args.halts.now (omega arith))
