use Rattle.std.proofs.Common.{◌≡◌, length}
use Rattle.ojp_http.proofs.Requesting.{HasRead, work_left}
use Rattle.ojp_http.proofs.ask.read_request.Given as goal

abbrev pub invariant-reading : goal.invariant-reading
invariant-reading g l =
    HasRead (g.I.Source.seen l.fn.input).left (g.I.Source.seen l.input).left l.framing l.body.items (g.I.Source.seen l.fn.input).faults (g.I.Source.seen l.input).faults
    × (length l.piece ≡ 8192)

abbrev pub decreases-reading : goal.decreases-reading
decreases-reading g l = work_left l.framing
