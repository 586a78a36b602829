use Rattle.std.proofs.Common.{List, [], ◌∷◌, ◌++◌, ap, sym, ◌∙◌}
use Rattle.ojp_timetable.specs.Tables.{Timetable}
use Rattle.ojp_links_mem.proofs.FileFacts.{shut_tables}
use Rattle.ojp_links_mem.proofs.files.FileLinks.read.Goals as goal

pub returns-clause-ends : goal.returns-clause-ends
returns-clause-ends g c =
    let f = c.args.self.now in
    let table = c.in_ok-table.table in (
      table,
      c.in_ok-table.ensures,
      shut_tables f.is_open c.push.new.self.items f.links c.requires
          ∙ (c.in-Ok.ensures.items ∙ ap (λ (ts : List Timetable). ts ++ table ∷ []) (sym (shut_tables f.is_open f.tables.items f.links c.requires))),
      sym c.region-code.ensures,
    )

pub returns-in_default-clause-ends : goal.returns-in_default-clause-ends
returns-in_default-clause-ends g c =
    let f = c.args.self.now in (
      c.in_ok-table.ensures.same,
      shut_tables f.is_open c.push.new.self.items f.links c.requires ∙ (c.in_default.ensures.items ∙ sym (shut_tables f.is_open f.tables.items f.links c.requires)),
    )
