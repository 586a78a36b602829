use Rattle.std.proofs.Common.{◌==◌, ◌∙◌, ap, true, refl}
use Rattle.ojp_links_mem.specs.Regions.{regions_from}
use Rattle.ojp_links_mem.specs.declared.memory.MemLinks.TheInside.{Inside}
use Rattle.ojp_links_mem.proofs.NewFacts.{made_over, made_whole, new_over, zero_most}
use Rattle.ojp_links_mem.proofs.ScriptFacts.{none_said}
use Rattle.ojp_links_mem.proofs.memory.MemLinks.new.Goals as goal

pub invariant_of-result : goal.invariant_of-result
invariant_of-result c =
    made_whole (record { alloc = c.args.alloc; servers = c.in_ok-servers.servers; regions = c.in_ok-regions.regions; script = c.new-script.result; asks = c.new-asks.result; patience = 0; order = c.args.order; most = c.args.most; made = 0; rested = 0; tells_servers = true; tells_order = c.args.most == 0 })
    c.sort_tables.new.tables.items (record { tables_are = c.in_ok-servers.ensures.same; rising = c.sort_tables.ensures.rising.codes_rise; well = c.in_ok-servers.ensures.well; low = c.requires.low; empty = c.new-asks.ensures.empty }) (c.in_ok-regions.ensures ∙ ap (regions_from 0) c.deref.ensures.value)
    (λ _. none_said c.new-script.result c.new-script.ensures.empty) (λ e. (zero_most c.args.most e, refl))

pub returns : goal.returns
returns c =
    let m : Inside = record { alloc = c.args.alloc; servers = c.in_ok-servers.servers; regions = c.in_ok-regions.regions; script = c.new-script.result; asks = c.new-asks.result; patience = 0; order = c.args.order; most = c.args.most; made = 0; rested = 0; tells_servers = true; tells_order = c.args.most == 0 } in
    let regions = c.in_ok-regions.ensures ∙ ap (regions_from 0) c.deref.ensures.value in
    new_over m c.args.tables.items (made_over m c.args.tables.items c.sort_tables.new.tables.items c.in_ok-servers.ensures.same c.sort_tables.ensures.rising regions c.new-asks.ensures.empty refl refl)
    regions refl refl (none_said c.new-script.result c.new-script.ensures.empty)
