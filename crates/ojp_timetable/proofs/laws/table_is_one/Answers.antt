use Rattle.ojp_timetable.proofs.NoonOnce.{one_table}
use Rattle.ojp_timetable.proofs.laws.table_is_one.Goals as goal

pub returns : goal.returns
returns c bytes table other first second = one_table bytes table other first second
