use Rattle.std.proofs.Common.{false, refl, true}
use Rattle.ojp_links_mem.specs.declared.memory.MemLinks.TheInside.{Inside}
use Rattle.ojp_links_mem.proofs.NewFacts.{bare_whole, unopened_over}
use Rattle.ojp_links_mem.proofs.ScriptFacts.{none_said}
use Rattle.ojp_links_mem.proofs.memory.MemLinks.unopened.Goals as goal

pub invariant_of-result : goal.invariant_of-result
invariant_of-result c =
    bare_whole (record { alloc = c.args.alloc; servers = c.in_ok-servers.servers; regions = c.new-regions.result; script = c.new-script.result; asks = c.new-asks.result; patience = 0; order = c.args.order; most = 0; made = 0; rested = 0; tells_servers = true; tells_order = false })
    c.sort_tables.new.tables.items (record { tables_are = c.in_ok-servers.ensures.same; rising = c.sort_tables.ensures.rising.codes_rise; well = c.in_ok-servers.ensures.well; low = c.requires.low; empty = c.new-asks.ensures.empty }) c.new-regions.ensures.items (λ _. none_said c.new-script.result c.new-script.ensures.empty) refl

pub returns : goal.returns
returns c =
    let m : Inside = record { alloc = c.args.alloc; servers = c.in_ok-servers.servers; regions = c.new-regions.result; script = c.new-script.result; asks = c.new-asks.result; patience = 0; order = c.args.order; most = 0; made = 0; rested = 0; tells_servers = true; tells_order = false } in
    unopened_over m c.args.tables.items c.sort_tables.new.tables.items c.in_ok-servers.ensures.same c.sort_tables.ensures.rising c.new-regions.ensures.items c.new-asks.ensures.empty refl refl refl refl refl
    (none_said c.new-script.result c.new-script.ensures.empty)
