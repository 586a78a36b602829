use Rattle.std.proofs.Common.{map}
use Rattle.std.specs.Prelude.{string_bytes}
use Rattle.ojp_links_mem.specs.Files.{files_seen}
use Rattle.ojp_plan.proofs.PlanFacts.{prepared}
use Rattle.ojp_plan.proofs.learning.prepare.Goals as goal

pub returns-in-Ok-open_book : goal.returns-in-Ok-open_book
returns-in-Ok-open_book g c =
    prepared (g.F.Store.seen c.args.files.now.store) (map (λ name. string_bytes name) c.args.names.now) (files_seen g.F.Store.seen c.read_files.new.files).tables 0 c.args.order
    c.in-Ok-open_book.book (files_seen g.F.Store.seen c.open_book.new.files) (files_seen g.F.Store.seen c.renumber.new.self) c.in-Ok.ensures.0 c.in-Ok-open_book.ensures c.renumber.ensures
