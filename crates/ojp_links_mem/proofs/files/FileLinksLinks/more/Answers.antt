use Rattle.ojp_links_mem.proofs.FileFacts.{same_files}
use Rattle.ojp_links_mem.proofs.files.FileLinksLinks.more.Goals as goal

pub returns-clause-files : goal.returns-clause-files
returns-clause-files g c =
    let f = c.args.self.now in
    same_files (g.F.Store.seen f.store) f.tables.items f.is_open f.links c.more.new.self c.more.ensures.by.terms.tables_same
