use Rattle.std.proofs.Common.{ℕ, take, subst}
use Rattle.memchr.specs.Find.{IsFirstByte, is_byte}
use Rattle.ojp_grammar.proofs.Cuts.{run_is}
use Rattle.ojp_grammar.proofs.machine.run_length.Goals as goal

pub returns : goal.returns
returns c =
    let P : ℕ → Type 0 = λ n. IsFirstByte (is_byte 60) (take n c.args.bytes.now) c.memchr.result in
    run_is c.args.bytes.now c.memchr.result (subst P c.min.ensures c.memchr.ensures)
