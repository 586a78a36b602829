use Rattle.std.proofs.Common.{map}
use Rattle.ojp_links.specs.Seen.{region_of_table}
use Rattle.ojp_links_mem.specs.Memory.{IsNewOver, links_of}
use Rattle.ojp_links_mem.proofs.NewFacts.{rising_differ}
use Rattle.ojp_load.specs.Ready.{AreLinksOpen}
use Rattle.ojp_load.proofs.LinkFacts.{made}
use Rattle.ojp_load.proofs.ResultFacts.{if_ok}
use Rattle.ojp_load.proofs.opening.open.Goals as goal

pub new-requires-clause-distinct : goal.new-requires-clause-distinct
new-requires-clause-distinct c = rising_differ (map region_of_table c.args.tables.items) c.requires

pub returns : goal.returns
returns c = if_ok (IsNewOver c.args.tables.items 0 0) (λ links. AreLinksOpen c.args.tables.items (links_of links)) c.new.result (λ links h. made c.args.tables.items links c.requires h) c.new.ensures
