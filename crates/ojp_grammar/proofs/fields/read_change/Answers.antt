use Rattle.std.proofs.Common.{◌≡◌, arith}
use Rattle.ojp_values.specs.Numbers.{duration_text}
use Rattle.ojp_grammar.proofs.Numbers.{same_duration}
use Rattle.ojp_grammar.proofs.OneKind.{same_number}
use Rattle.ojp_grammar.proofs.fields.read_change.Goals as goal

pub returns-then-seconds-lt1 : goal.returns-then-seconds-lt1
returns-then-seconds-lt1 c value range e =
    let same : c.in_ok-seconds.seconds ≡ value =
    same_number duration_text same_duration c.in_ok-seconds.seconds value c.args.text.now (omega (arith, c.in_ok-seconds.ensures.0)) (omega arith) c.in_ok-seconds.ensures.1 e in
    omega (arith, same, range)

pub returns-then-seconds-gt7200 : goal.returns-then-seconds-gt7200
returns-then-seconds-gt7200 c value range e =
    let same : c.in_ok-seconds.seconds ≡ value =
    same_number duration_text same_duration c.in_ok-seconds.seconds value c.args.text.now (omega (arith, c.in_ok-seconds.ensures.0)) (omega arith) c.in_ok-seconds.ensures.1 e in
    omega (arith, same, range)
