use Rattle.std.proofs.Common.{subst}
use Rattle.ojp_timetable.specs.Kept.{AreAtPlaces}
use Rattle.ojp_timetable.specs.Tables.{Timetable}
use Rattle.ojp_timetable.proofs.table.Timetable.kept_calls.Goals as goal

pub returns-clause-places : goal.returns-clause-places
returns-clause-places c = subst (λ (table : Timetable). AreAtPlaces table.places c.kept_calls.result.now) c.self.view_is c.kept_calls.ensures.places
