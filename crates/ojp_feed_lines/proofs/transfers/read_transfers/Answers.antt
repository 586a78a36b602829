use Rattle.ojp_feed_lines.proofs.Explained.{passed_is}
use Rattle.ojp_feed_lines.proofs.transfers.read_transfers.Goals as goal

pub returns-in_err-take_file-clause-refused : goal.returns-in_err-take_file-clause-refused
returns-in_err-take_file-clause-refused g c =
    rw (passed_is c.from_residual.result c.in_err-take_file.field-0.0 c.from_residual.ensures.1)
    (c.in_err-take_file.ensures.refused (λ columns. tt))
