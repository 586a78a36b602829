use Rattle.std.proofs.Common.{refl, subst}
use Rattle.ojp_links.specs.Calls.{RestsOnce}
use Rattle.ojp_links_mem.specs.Memory.{MemView, RestsBy, links_of}
use Rattle.ojp_links_mem.specs.Kept.{view_of}
use Rattle.ojp_links_mem.proofs.RestFacts.{rests_once, whole_rested}
use Rattle.ojp_links_mem.proofs.memory.MemLinksPacedLinks.rest.Goals as goal

pub invariant_of-self : goal.invariant_of-self
invariant_of-self c =
    let m = c.self.inside in
    let n = record m { asks = c.rest_all.new.asks; patience = c.saturating_sub-self-inside.result; rested = c.saturating_add-self-inside.result } in
    whole_rested m n c.self.invariant (record { tables_same = refl; script_same = refl; order_same = refl; most_same = refl; servers_same = refl; tells_same = refl }) refl c.rest_all.ensures c.saturating_sub-self-inside.ensures

pub returns-clause-rests : goal.returns-clause-rests
returns-clause-rests c =
    let m = c.self.inside in
    let n = record m { asks = c.rest_all.new.asks; patience = c.saturating_sub-self-inside.result; rested = c.saturating_add-self-inside.result } in
    subst (λ (v : MemView). RestsOnce (links_of v) (links_of (view_of n))) c.self.view_is (rests_once m n (record { tables_same = refl; script_same = refl; order_same = refl; most_same = refl; servers_same = refl; tells_same = refl }) refl refl c.rest_all.ensures c.saturating_sub-self-inside.ensures)

pub returns-clause-by : goal.returns-clause-by
returns-clause-by c =
    let m = c.self.inside in
    let n = record m { asks = c.rest_all.new.asks; patience = c.saturating_sub-self-inside.result; rested = c.saturating_add-self-inside.result } in
    subst (λ (v : MemView). RestsBy v (view_of n)) c.self.view_is
    (record { terms = record { tables_same = refl; script_same = refl; order_same = refl; most_same = refl; servers_same = refl; tells_same = refl }; regions_same = refl; all_rested = c.rest_all.ensures; rested_more = c.saturating_add-self-inside.ensures })
