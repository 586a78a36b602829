use Rattle.ojp_feed_lines.proofs.Explained.{passed_is}
use Rattle.ojp_feed_lines.proofs.trips.read_trips.Goals as goal

pub returns-in_err-take_needed-clause-refused : goal.returns-in_err-take_needed-clause-refused
returns-in_err-take_needed-clause-refused g c =
    rw (passed_is c.from_residual.result c.in_err-take_needed.field-0.0 c.from_residual.ensures.1)
    (c.in_err-take_needed.ensures.refused (λ columns. c.no_trips.ensures))
