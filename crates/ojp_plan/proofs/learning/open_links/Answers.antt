use Rattle.ojp_links_mem.specs.Files.{files_seen}
use Rattle.ojp_plan.proofs.ReadyFacts.{not_opened, opened}
use Rattle.ojp_plan.proofs.learning.open_links.Goals as goal

pub returns-in-Ok : goal.returns-in-Ok
returns-in-Ok g c = opened (files_seen g.F.Store.seen c.args.files.now) (files_seen g.F.Store.seen c.open.new.self) c.in-Ok.ensures

pub returns-in-Err : goal.returns-in-Err
returns-in-Err g c =
    not_opened (files_seen g.F.Store.seen c.args.files.now) (files_seen g.F.Store.seen c.open.new.self) c.in-Err.refused c.reason_of.result c.in-Err.ensures c.reason_of.ensures
