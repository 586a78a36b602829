use Rattle.std.proofs.Common.{◌≡◌, arith, decimal}
use Rattle.std.proofs.lemmas.Fmt.{decimal_injective}
use Rattle.ojp_grammar.proofs.OneKind.{same_number}
use Rattle.ojp_grammar.proofs.fields.read_result_count.Goals as goal

pub returns-then-number-lt1 : goal.returns-then-number-lt1
returns-then-number-lt1 c value range e =
    let same : c.in_ok-number.number ≡ value =
    same_number decimal decimal_injective c.in_ok-number.number value c.args.text.now (omega (arith, c.in_ok-number.ensures.0)) (omega arith) c.in_ok-number.ensures.1 e in
    omega (arith, same, range)

pub returns-then-number-gt100 : goal.returns-then-number-gt100
returns-then-number-gt100 c value range e =
    let same : c.in_ok-number.number ≡ value =
    same_number decimal decimal_injective c.in_ok-number.number value c.args.text.now (omega (arith, c.in_ok-number.ensures.0)) (omega arith) c.in_ok-number.ensures.1 e in
    omega (arith, same, range)
