use Rattle.std.proofs.Common.{subst}
use Rattle.ojp_timetable.specs.Tables.{Timetable}
use Rattle.ojp_timetable.specs.Runs.{IsWell}
use Rattle.ojp_timetable.proofs.WellFacts.{table_is_well}
use Rattle.ojp_timetable.proofs.table.Timetable.is_well.Goals as goal

pub returns : goal.returns
returns c = subst (λ (table : Timetable). IsWell table) c.self.view_is
    (table_is_well c.self.inside.draft c.self.inside.noons c.self.invariant.well c.self.invariant.whole c.self.invariant.points c.self.invariant.days c.self.invariant.near)
