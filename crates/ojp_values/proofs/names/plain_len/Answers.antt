use Rattle.ojp_values.proofs.Positions.{unwrap_or-position, position_or_len-le-length}
use Rattle.ojp_values.specs.Escapes.{is_escaped_byte}
use Rattle.ojp_values.proofs.names.plain_len.Goals as goal

pub returns-clause-value : goal.returns-clause-value
returns-clause-value c = rw (c.unwrap_or.ensures, c.first_escapable.ensures) (unwrap_or-position is_escaped_byte c.args.name.now)

pub returns-clause-fits : goal.returns-clause-fits
returns-clause-fits c =
    rw (c.unwrap_or.ensures, c.first_escapable.ensures, unwrap_or-position is_escaped_byte c.args.name.now)
    (position_or_len-le-length is_escaped_byte c.args.name.now)
