use Rattle.std.proofs.Common.{ap, ◌∙◌, arith, List, ℕ, Option, length, [], unwrap_or}
use Rattle.http.specs.StatusCode.{reason_phrase}
use Rattle.ojp_http.proofs.Statuses.{reason_short}
use Rattle.ojp_http.proofs.answer.reason_of.Goals as goal

pub returns-in-Some-clause-short : goal.returns-in-Some-clause-short
returns-in-Some-clause-short c =
    let e = ap (λ (o : Option (List ℕ)). length (unwrap_or o [])) (c.in-Some.ensures.value ∙ ap reason_phrase c.code_of.ensures) in
    omega (arith, e, reason_short c.args.status c.requires)
