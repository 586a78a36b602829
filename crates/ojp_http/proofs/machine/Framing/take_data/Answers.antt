use Rattle.std.proofs.Common.{refl, arith, take}
use Rattle.std.proofs.lemmas.List.{length-take}
use Rattle.ojp_http.proofs.Stepping.{advances, chunk_taken}
use Rattle.ojp_http.proofs.machine.Framing.take_data.Goals as goal

pub returns : goal.returns
returns c =
    let n = c.front_len-count.result in
    let e = c.front_len-count.ensures in
    advances c.args.self.now _ c.args.piece.now c.args.body.now.items _ n (omega (arith, e, c.requires.lacks, c.requires.some)) (omega (arith, e)) c.in-Ok.ensures.items
    (chunk_taken c.args.self.now _ c.args.left n (take n c.args.piece.now) c.requires.phase c.chunk_phase-self.ensures refl (omega (arith, e, length-take n c.args.piece.now)) (omega (arith, e)))
