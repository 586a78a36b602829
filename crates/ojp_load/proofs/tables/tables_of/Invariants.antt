use Rattle.std.specs.Prelude.{take}
use Rattle.ojp_values.specs.Lists.{Pairwise}
use Rattle.ojp_timetable.specs.TableText.{IsText}
use Rattle.ojp_load.proofs.tables.tables_of.Given as goal

abbrev pub invariant-loop-file : goal.invariant-loop-file
invariant-loop-file l = Pairwise IsText (take l.file-index l.files) l.tables.items
