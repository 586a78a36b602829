use Rattle.ojp_feed_lines.proofs.Explained.{passed_is}
use Rattle.ojp_feed_lines.proofs.frequencies.FrequencyRowsRows.take_row.Goals as goal

pub returns-in_err-frequency-clause-why : goal.returns-in_err-frequency-clause-why
returns-in_err-frequency-clause-why g c =
    rw (passed_is c.from_residual.result c.in_err-frequency.field-0.0 c.from_residual.ensures.1)
    (λ head above placed held. c.in_err-frequency.ensures.why head above placed)
