use Rattle.std.proofs.Common.{◌∙◌, ap, false, refl, sym, true≢false}
use Rattle.ojp_links_mem.specs.Regions.{regions_from}
use Rattle.ojp_links_mem.specs.declared.memory.MemLinks.TheInside.{Inside}
use Rattle.ojp_links_mem.proofs.NewFacts.{made_over, made_whole, scripted_over}
use Rattle.ojp_links_mem.proofs.memory.MemLinks.scripted.Goals as goal

pub invariant_of-result : goal.invariant_of-result
invariant_of-result c =
    made_whole (record { alloc = c.args.alloc; servers = c.in_ok-servers.servers; regions = c.in_ok-regions.regions; script = c.in_ok-said.said; asks = c.new-asks.result; patience = 0; order = c.args.order; most = c.args.most; made = 0; rested = 0; tells_servers = false; tells_order = false })
    c.sort_tables.new.tables.items (record { tables_are = c.in_ok-servers.ensures.same; rising = c.sort_tables.ensures.rising.codes_rise; well = c.in_ok-servers.ensures.well; low = c.requires.low; empty = c.new-asks.ensures.empty }) (c.in_ok-regions.ensures ∙ ap (regions_from 0) c.deref.ensures.value)
    (λ e. absurd (true≢false (sym e))) (λ e. absurd (true≢false (sym e)))

pub returns : goal.returns
returns c =
    let m : Inside = record { alloc = c.args.alloc; servers = c.in_ok-servers.servers; regions = c.in_ok-regions.regions; script = c.in_ok-said.said; asks = c.new-asks.result; patience = 0; order = c.args.order; most = c.args.most; made = 0; rested = 0; tells_servers = false; tells_order = false } in
    let regions = c.in_ok-regions.ensures ∙ ap (regions_from 0) c.deref.ensures.value in
    scripted_over m c.args.tables.items c.args.script.items (made_over m c.args.tables.items c.sort_tables.new.tables.items c.in_ok-servers.ensures.same c.sort_tables.ensures.rising regions c.new-asks.ensures.empty refl refl)
    refl refl c.in_ok-said.ensures
