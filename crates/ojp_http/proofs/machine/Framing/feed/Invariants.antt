use Rattle.std.proofs.Common.{length, ◌-◌}
use Rattle.ojp_http.specs.Machine.{Goes}
use Rattle.ojp_http.proofs.machine.Framing.feed.Given as goal

abbrev pub invariant-feeding : goal.invariant-feeding
invariant-feeding l = Goes l.fn.self l.self l.fn.piece l.fn.body.items l.body.items l.used

abbrev pub decreases-feeding : goal.decreases-feeding
decreases-feeding l = length l.fn.piece - l.used
