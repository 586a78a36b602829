use Rattle.std.proofs.Common.{pos, arith, w8, w16}
use Rattle.std.proofs.lemmas.Int.{to_z_pos}
use Rattle.jiff_core.specs.Date.{IsYmd}
use Rattle.ojp_values.proofs.Calendar.{day_of_is}
use Rattle.ojp_values.proofs.dates.day_of_date.Goals as goal

-- the parts that were asked of the calendar
parts : (c : goal.After-days_since_min) → IsYmd (pos c.args.date.year) (pos c.args.date.month) (pos c.args.date.day) c.in-Ok.civil
parts c =
    rw (
      to_z_pos w16 c.args.date.year (omega (arith, c.if-date-gt2199.false)),
      to_z_pos w8 c.args.date.month (omega (arith, c.if-date-gt12.false)),
      to_z_pos w8 c.args.date.day (omega (arith, c.if-date-gt31.false)),
    ) at c.in-Ok.ensures.value

pub overflow_sub-result : goal.overflow_sub-result
overflow_sub-result c =
    (day_of_is c.args.date c.if-date-lt1970.false c.if-date-gt2199.false c.in-Ok.civil c.days_since_min.result
    c.days_since_min.ensures.value (parts c)).0

pub returns-in-Ok : goal.returns-in-Ok
returns-in-Ok c =
    let found = day_of_is c.args.date c.if-date-lt1970.false c.if-date-gt2199.false c.in-Ok.civil c.days_since_min.result
    c.days_since_min.ensures.value (parts c) in
    (found.1, found.2)
