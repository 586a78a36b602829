use Rattle.std.proofs.Common.{List, [], ◌∷◌, ◌++◌, ap, map, subst, sym, ◌∙◌}
use Rattle.ojp_timetable.specs.Tables.{Timetable}
use Rattle.ojp_links.specs.Seen.{AreDistinct, region_of_table}
use Rattle.ojp_rows.proofs.LinkFacts.{one_distinct}
use Rattle.ojp_rows.proofs.tables.alone.Goals as goal

pub returns : goal.returns
returns c =
    let table = c.in_ok-table.table in
    subst (λ (ts : List Timetable). AreDistinct (map region_of_table ts)) (sym (c.in-Ok.ensures.items ∙ ap (λ (ts : List Timetable). ts ++ table ∷ []) c.new-tables.ensures.items)) (one_distinct table.region)
