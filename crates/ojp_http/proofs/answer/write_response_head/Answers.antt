use Rattle.std.proofs.Common.{List, ℕ, ◌∙◌, subst, OnErr}
use Rattle.ojp_outside.specs.Known.{AppendsPrefix}
use Rattle.ojp_http.proofs.answer.write_response_head.Goals as goal

pub returns-clause-err : goal.returns-clause-err
returns-clause-err g c =
    subst (λ (l : List ℕ). OnErr c.put_all.result (AppendsPrefix (g.S.Sink.seen c.args.sink.now).written (g.S.Sink.seen c.put_all.new.sink).written l))
    (c.as_slice.ensures.value ∙ c.head_of.ensures) c.put_all.ensures.err
