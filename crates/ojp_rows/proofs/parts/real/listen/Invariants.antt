use Rattle.std.proofs.Common.{◌≡◌, false}
use Rattle.ojp_rows.proofs.parts.real.listen.Given as goal

abbrev pub invariant-ports : goal.invariant-ports
invariant-ports g l = (g.D.Doors.seen l.doors).is_out ≡ false
