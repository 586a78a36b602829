use Rattle.std.proofs.Common.{refl}
use Rattle.ojp_feed_lines.proofs.Explained.{passed_is}
use Rattle.ojp_feed_lines.specs.declared.files.FeedFile.TheVariants.{Stops}
use Rattle.ojp_feed_lines.proofs.stops.StopRowsRows.columns.Goals as goal

pub returns-in_err-needed-clause-why : goal.returns-in_err-needed-clause-why
returns-in_err-needed-clause-why g c =
    rw (passed_is c.from_residual.result c.in_err-needed.field-0.0 c.from_residual.ensures.1) (c.in_err-needed.ensures.why Stops refl)
