use Rattle.std.proofs.Common.{refl}
use Rattle.ojp_feed_lines.proofs.Explained.{passed_is}
use Rattle.ojp_feed_lines.specs.declared.files.FeedFile.TheVariants.{StopTimes}
use Rattle.ojp_feed_lines.proofs.stop_times.CallRowsRows.columns.Goals as goal

pub returns-in_err-needed-clause-why : goal.returns-in_err-needed-clause-why
returns-in_err-needed-clause-why g c =
    rw (passed_is c.from_residual.result c.in_err-needed.field-0.0 c.from_residual.ensures.1) (c.in_err-needed.ensures.why StopTimes refl)

pub returns-in_err-needed-2-clause-why : goal.returns-in_err-needed-2-clause-why
returns-in_err-needed-2-clause-why g c =
    rw (passed_is c.from_residual-in_err-needed-2.result c.in_err-needed-2.field-0.0 c.from_residual-in_err-needed-2.ensures.1) (c.in_err-needed-2.ensures.why StopTimes refl)

pub returns-in_err-needed-3-clause-why : goal.returns-in_err-needed-3-clause-why
returns-in_err-needed-3-clause-why g c =
    rw (passed_is c.from_residual-in_err-needed-3.result c.in_err-needed-3.field-0.0 c.from_residual-in_err-needed-3.ensures.1) (c.in_err-needed-3.ensures.why StopTimes refl)

pub returns-in_err-needed-4-clause-why : goal.returns-in_err-needed-4-clause-why
returns-in_err-needed-4-clause-why g c =
    rw (passed_is c.from_residual-in_err-needed-4.result c.in_err-needed-4.field-0.0 c.from_residual-in_err-needed-4.ensures.1) (c.in_err-needed-4.ensures.why StopTimes refl)

pub returns-in_err-needed-5-clause-why : goal.returns-in_err-needed-5-clause-why
returns-in_err-needed-5-clause-why g c =
    rw (passed_is c.from_residual-in_err-needed-5.result c.in_err-needed-5.field-0.0 c.from_residual-in_err-needed-5.ensures.1) (c.in_err-needed-5.ensures.why StopTimes refl)
