use Rattle.std.proofs.Common.{List, ℕ, ◌++◌, ◌∙◌, subst, OnErr, append-nil}
use Rattle.ojp_outside.specs.Known.{AppendsPrefix}
use Rattle.ojp_http.proofs.answer.write_response.Goals as goal

pub returns-clause-err : goal.returns-clause-err
returns-clause-err g c =
    let head = c.as_slice.ensures.value ∙ c.head_of-head.ensures in
    subst (λ (l : List ℕ). OnErr c.put_parts.result (AppendsPrefix (g.S.Sink.seen c.args.sink.now).written (g.S.Sink.seen c.put_parts.new.sink).written l))
    (λ i. head i ++ append-nil c.args.text.now i) c.put_parts.ensures.err
