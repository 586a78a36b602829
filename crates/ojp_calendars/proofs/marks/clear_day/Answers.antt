use Rattle.std.proofs.Common.{sym, ◌∙◌}
use Rattle.ojp_calendars.proofs.MarkFacts.{clears_off, clears_on}
use Rattle.ojp_calendars.proofs.marks.clear_day.Goals as goal

pub returns-then-is_on : goal.returns-then-is_on
returns-then-is_on c old index h =
    clears_on c.args.first old c.args.left.now.items c.args.weekdays.now index c.args.next c.args.last h c.requires.inside (sym c.is_on.ensures ∙ c.if-is_on.true)

pub returns-else-is_on : goal.returns-else-is_on
returns-else-is_on c old index h =
    clears_off c.args.first old c.args.left.now.items c.args.weekdays.now index c.args.next c.args.last h (sym c.is_on.ensures ∙ c.if-is_on.false)
