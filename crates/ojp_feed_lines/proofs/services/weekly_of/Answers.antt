use Rattle.std.proofs.Common.{◌∙◌, refl, sym, Some}
use Rattle.csv.specs.Records.{fields_of}
use Rattle.ojp_feed_lines.specs.declared.columns.Column.TheVariants as columns
use Rattle.ojp_feed_lines.specs.declared.files.FeedFile.TheVariants.{Calendar}
use Rattle.ojp_feed_lines.proofs.CauseFacts.{bad_text, ends_early, is_date, no_date}
use Rattle.ojp_feed_lines.proofs.Explained.{passed_is}
use Rattle.ojp_feed_lines.proofs.services.weekly_of.Goals as goal

pub returns-in_err-marks-clause-why : goal.returns-in_err-marks-clause-why
returns-in_err-marks-clause-why g c =
    rw (passed_is c.from_residual.result c.in_err-marks.field-0.0 c.from_residual.ensures.1)
    (λ head above placed. c.in_err-marks.ensures.why head above placed.weekdays)

pub returns-in_err-first-clause-why : goal.returns-in_err-first-clause-why
returns-in_err-first-clause-why g c =
    rw (passed_is c.from_residual-in_err-first.result c.in_err-first.field-0.0 c.from_residual-in_err-first.ensures.1)
    (λ head above placed.
    bad_text Calendar columns.StartDate head above (fields_of c.args.table.now.row) (Some c.args.columns.first) c.as_bytes.result.now c.in_err-first.field-0.0 refl placed.first (c.as_bytes.ensures.value ∙ c.field.ensures)
    (no_date c.read_date.result c.as_bytes.result.now c.read_date.ensures c.in_err-first.ensures.why.0) c.in_err-first.ensures.why.1)

pub returns-in_err-last-clause-why : goal.returns-in_err-last-clause-why
returns-in_err-last-clause-why g c =
    rw (passed_is c.from_residual-in_err-last.result c.in_err-last.field-0.0 c.from_residual-in_err-last.ensures.1)
    (λ head above placed.
    bad_text Calendar columns.EndDate head above (fields_of c.args.table.now.row) (Some c.args.columns.last) c.as_bytes-2.result.now c.in_err-last.field-0.0 refl placed.last (c.as_bytes-2.ensures.value ∙ c.field-2.ensures)
    (no_date c.read_date-2.result c.as_bytes-2.result.now c.read_date-2.ensures c.in_err-last.ensures.why.0) c.in_err-last.ensures.why.1)

pub returns-then-last-first-clause-why : goal.returns-then-last-first-clause-why
returns-then-last-first-clause-why g c =
    λ head above placed.
    ends_early head above (fields_of c.args.table.now.row) c.args.columns.first c.args.columns.last c.in_ok-first.first c.in_ok-last.last c.refused.result placed.first placed.last
    (sym (c.as_bytes.ensures.value ∙ c.field.ensures) ∙ is_date c.read_date.result c.as_bytes.result.now c.in_ok-first.first c.read_date.ensures c.in_ok-first.ensures.value)
    (sym (c.as_bytes-2.ensures.value ∙ c.field-2.ensures)
    ∙ is_date c.read_date-2.result c.as_bytes-2.result.now c.in_ok-last.last c.read_date-2.ensures c.in_ok-last.ensures.value)
    c.if-last-first.true c.refused.ensures.reason
