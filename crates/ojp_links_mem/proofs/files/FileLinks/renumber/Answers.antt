use Rattle.ojp_links_mem.proofs.FileFacts.{same_files}
use Rattle.ojp_links_mem.proofs.files.FileLinks.renumber.Goals as goal

pub returns : goal.returns
returns g c =
    let f = c.args.self.now in
    record { links_by = c.renumber.ensures; files = same_files (g.F.Store.seen f.store) f.tables.items f.is_open f.links c.renumber.new.self c.renumber.ensures.tables_same }
