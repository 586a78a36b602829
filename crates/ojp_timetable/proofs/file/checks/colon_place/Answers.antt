use Rattle.ojp_values.proofs.Positions.{position_or_len-le-length, unwrap_or-position}
use Rattle.ojp_values.specs.Texts.{is_colon}
use Rattle.ojp_timetable.proofs.file.checks.colon_place.Goals as goal

pub returns-clause-value : goal.returns-clause-value
returns-clause-value c = rw (c.unwrap_or.ensures, c.first_colon.ensures) (unwrap_or-position is_colon c.args.stop.now)

pub returns-clause-fits : goal.returns-clause-fits
returns-clause-fits c =
    rw (c.unwrap_or.ensures, c.first_colon.ensures, unwrap_or-position is_colon c.args.stop.now)
    (position_or_len-le-length is_colon c.args.stop.now)
