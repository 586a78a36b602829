use Rattle.ojp_hostile.specs.Ready.{AreOfRegions}
use Rattle.ojp_hostile.proofs.tables.tables_of.Given as goal

-- the timetables are of these regions, which differ
abbrev pub invariant-tables : goal.invariant-tables
invariant-tables l =
    (goal.iterator-tables).can_next l.part-iterator ×
    (goal.iterator-tables).is_finite l.part-iterator ×
    AreOfRegions l.codes.items l.tables.items
