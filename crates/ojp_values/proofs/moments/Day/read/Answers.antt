use Rattle.std.proofs.Common.{sym, true≢false}
use Rattle.ojp_values.proofs.Calendar.{no_other_day}
use Rattle.ojp_values.proofs.moments.Day.read.Goals as goal

pub returns-in-Err : goal.returns-in-Err
returns-in-Err c =
    no_other_day c.args.text.now c.in_ok-number.number c.in_ok-number.ensures.0 c.in_ok-number.ensures.1
    (λ in_range. true≢false (sym (c.in-Err.ensures.exact.1 in_range)))
