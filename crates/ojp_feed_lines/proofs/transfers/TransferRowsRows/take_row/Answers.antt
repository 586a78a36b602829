use Rattle.ojp_feed_lines.proofs.Explained.{passed_is}
use Rattle.ojp_feed_lines.proofs.transfers.TransferRowsRows.take_row.Goals as goal

pub returns-in_err-transfer-clause-why : goal.returns-in_err-transfer-clause-why
returns-in_err-transfer-clause-why g c =
    rw (passed_is c.from_residual.result c.in_err-transfer.field-0.0 c.from_residual.ensures.1)
    (λ head above placed held. c.in_err-transfer.ensures.why head above placed)
