use Rattle.ojp_feed_lines.specs.IdTexts.{id_texts}
use Rattle.ojp_feed_lines.proofs.DateFacts.{no_dates}
use Rattle.ojp_feed_lines.proofs.Explained.{passed_is}
use Rattle.ojp_feed_lines.proofs.services.read_services.Goals as goal

pub returns-in_err-has_weekly-clause-refused : goal.returns-in_err-has_weekly-clause-refused
returns-in_err-has_weekly-clause-refused g c =
    rw (passed_is c.from_residual.result c.in_err-has_weekly.field-0.0 c.from_residual.ensures.1)
    (c.in_err-has_weekly.ensures.refused (λ columns. c.new.ensures))

pub returns-in_err-has_dated-clause-refused : goal.returns-in_err-has_dated-clause-refused
returns-in_err-has_dated-clause-refused g c =
    rw (passed_is c.from_residual-in_err-has_dated.result c.in_err-has_dated.field-0.0 c.from_residual-in_err-has_dated.ensures.1)
    (rw c.take_file.ensures.kept at c.in_err-has_dated.ensures.refused (λ columns. no_dates (id_texts c.take_file.new.rows.services.ids) c.new-3.result.keys columns c.new-3.ensures.len))
