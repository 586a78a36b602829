use Rattle.std.proofs.Common.{◌∙◌, refl, sym, Some}
use Rattle.csv.specs.Records.{fields_of}
use Rattle.ojp_feed_lines.specs.declared.columns.Column.TheVariants as columns
use Rattle.ojp_feed_lines.specs.declared.files.FeedFile.TheVariants.{CalendarDates}
use Rattle.ojp_feed_lines.proofs.CauseFacts.{bad_text, no_date}
use Rattle.ojp_feed_lines.proofs.Explained.{passed_is}
use Rattle.ojp_feed_lines.proofs.services.exception_of.Goals as goal

pub returns-in_err-day-clause-why : goal.returns-in_err-day-clause-why
returns-in_err-day-clause-why g c =
    rw (passed_is c.from_residual.result c.in_err-day.field-0.0 c.from_residual.ensures.1)
    (λ head above placed.
    bad_text CalendarDates columns.Date head above (fields_of c.args.table.now.row) (Some c.args.columns.date) c.as_bytes.result.now c.in_err-day.field-0.0 refl placed.date (c.as_bytes.ensures.value ∙ c.field.ensures)
    (no_date c.read_date.result c.as_bytes.result.now c.read_date.ensures c.in_err-day.ensures.why.0) c.in_err-day.ensures.why.1)

pub returns-in_err-runs-clause-why : goal.returns-in_err-runs-clause-why
returns-in_err-runs-clause-why g c =
    rw (passed_is c.from_residual-in_err-runs.result c.in_err-runs.field-0.0 c.from_residual-in_err-runs.ensures.1)
    (λ head above placed.
    bad_text CalendarDates columns.ExceptionType head above (fields_of c.args.table.now.row) (Some c.args.columns.kind) c.field-2.result.now c.in_err-runs.field-0.0 refl placed.kind (c.field-2.ensures)
    (sym c.read_kind.ensures ∙ c.in_err-runs.ensures.why.0) c.in_err-runs.ensures.why.1)
