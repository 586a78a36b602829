use Rattle.std.proofs.Common.{◌≡◌, ◌+◌, pos, arith}
use Rattle.std.proofs.lemmas.Int.{ints}
use Rattle.jiff_core.specs.Calendar.{day_count}
use Rattle.ojp_zones.proofs.DayFacts.{count_is, month_from, month_to}
use Rattle.ojp_zones.specs.Days.{day_number}
use Rattle.ojp_zones.proofs.calendar.month_start.Goals as goal

pub overflow_sub-result : goal.overflow_sub-result
overflow_sub-result c =
    let e : c.days_since_min.result + 366 ≡ day_count (pos c.args.year) c.args.month 1 =
    count_is c.args.year c.args.month c.days_since_min.result c.in-Ok.date.year c.in-Ok.date.month c.in-Ok.date.day
    (omega (arith, ints, c.in-Ok.ensures.value.0)) (omega (arith, ints, c.in-Ok.ensures.value.1)) (omega (arith, ints, c.in-Ok.ensures.value.2)) c.days_since_min.ensures.value in
    omega (arith, e, month_from c.args.year c.args.month c.requires.from c.requires.month_from)

pub returns-clause-value : goal.returns-clause-value
unfolding day_number
returns-clause-value c =
    let e : c.days_since_min.result + 366 ≡ day_count (pos c.args.year) c.args.month 1 =
    count_is c.args.year c.args.month c.days_since_min.result c.in-Ok.date.year c.in-Ok.date.month c.in-Ok.date.day
    (omega (arith, ints, c.in-Ok.ensures.value.0)) (omega (arith, ints, c.in-Ok.ensures.value.1)) (omega (arith, ints, c.in-Ok.ensures.value.2)) c.days_since_min.ensures.value in
    omega (arith, e, month_from c.args.year c.args.month c.requires.from c.requires.month_from)

pub returns-clause-within : goal.returns-clause-within
returns-clause-within c =
    let e : c.days_since_min.result + 366 ≡ day_count (pos c.args.year) c.args.month 1 =
    count_is c.args.year c.args.month c.days_since_min.result c.in-Ok.date.year c.in-Ok.date.month c.in-Ok.date.day
    (omega (arith, ints, c.in-Ok.ensures.value.0)) (omega (arith, ints, c.in-Ok.ensures.value.1)) (omega (arith, ints, c.in-Ok.ensures.value.2)) c.days_since_min.ensures.value in
    omega (arith, e, month_to c.args.year c.args.month c.requires.to c.requires.month_from c.requires.month_to)
