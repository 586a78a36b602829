use Rattle.std.proofs.Common.{refl}
use Rattle.ojp_feed_lines.proofs.Explained.{passed_is}
use Rattle.ojp_feed_lines.specs.declared.files.FeedFile.TheVariants.{CalendarDates}
use Rattle.ojp_feed_lines.proofs.services.DatedRowsRows.columns.Goals as goal

pub returns-in_err-needed-clause-why : goal.returns-in_err-needed-clause-why
returns-in_err-needed-clause-why g c =
    rw (passed_is c.from_residual.result c.in_err-needed.field-0.0 c.from_residual.ensures.1) (c.in_err-needed.ensures.why CalendarDates refl)

pub returns-in_err-needed-2-clause-why : goal.returns-in_err-needed-2-clause-why
returns-in_err-needed-2-clause-why g c =
    rw (passed_is c.from_residual-in_err-needed-2.result c.in_err-needed-2.field-0.0 c.from_residual-in_err-needed-2.ensures.1) (c.in_err-needed-2.ensures.why CalendarDates refl)

pub returns-in_err-needed-3-clause-why : goal.returns-in_err-needed-3-clause-why
returns-in_err-needed-3-clause-why g c =
    rw (passed_is c.from_residual-in_err-needed-3.result c.in_err-needed-3.field-0.0 c.from_residual-in_err-needed-3.ensures.1) (c.in_err-needed-3.ensures.why CalendarDates refl)
