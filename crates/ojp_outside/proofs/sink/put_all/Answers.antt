use Rattle.std.proofs.Common.{sym, subst, List, ℕ}
use Rattle.std.proofs.lemmas.List.{take_rest}
use Rattle.ojp_outside.proofs.Putting.{Puts, Puts-more, Puts-prefix}
use Rattle.ojp_outside.proofs.sink.put_all.Goals as goal

pub writing-preserved : goal.writing-preserved
writing-preserved g c =
    subst (λ (l : List ℕ). Puts (g.S.Sink.seen c.args.sink.now).written (g.S.Sink.seen c.write.new.self).written c.args.bytes.now l (g.S.Sink.seen c.args.sink.now).faults (g.S.Sink.seen c.write.new.self).faults)
    (sym (take_rest c.writing.rest.now c.in-Ok.count))
    (Puts-more _ _ _ _ _ _ _ _ _ c.writing.invariant c.in-Ok.ensures.bytes c.in-Ok.ensures.cause.at_rest)

pub returns-in-Err-clause-err : goal.returns-in-Err-clause-err
returns-in-Err-clause-err g c = Puts-prefix _ _ _ _ _ _ _ c.writing.invariant c.in-Err.ensures.bytes
