use Rattle.std.proofs.Common.{List, [], ap, arith, false, map, refl, subst, sym, true}
use Rattle.ojp_values.specs.Lists.{Each}
use Rattle.ojp_timetable.specs.Tables.{Timetable}
use Rattle.ojp_timetable.specs.Runs.{IsWell}
use Rattle.ojp_links_mem.specs.Regions.{station_of}
use Rattle.ojp_links_mem.specs.declared.memory.MemLinks.TheInside.{Inside}
use Rattle.ojp_links_mem.specs.declared.regions.Region.{Region}
use Rattle.ojp_links_mem.proofs.NewFacts.{bare_fresh, bare_whole}
use Rattle.ojp_links_mem.proofs.ScriptFacts.{none_said}
use Rattle.ojp_links_mem.proofs.memory.MemLinks.bare.Goals as goal

pub invariant_of-result : goal.invariant_of-result
invariant_of-result c =
    let none = c.new-servers.ensures.items in
    bare_whole _ [] (record { tables_are = none; rising = tt; well = subst (λ (ts : List Timetable). Each IsWell ts) (sym none) tt; low = omega arith; empty = c.new-asks.ensures.empty })
    c.new-regions.ensures.items (λ _. none_said c.new-script.result c.new-script.ensures.empty) refl

pub returns-clause-no_region : goal.returns-clause-no_region
returns-clause-no_region c = ap (λ (rs : List Region). map station_of rs) c.new-regions.ensures.items

pub returns-clause-fresh : goal.returns-clause-fresh
returns-clause-fresh c =
    let m : Inside = record { alloc = c.args.alloc; servers = c.new-servers.result; regions = c.new-regions.result; script = c.new-script.result; asks = c.new-asks.result; patience = 0; order = 0; most = 0; made = 0; rested = 0; tells_servers = true; tells_order = false } in
    bare_fresh m c.new-regions.ensures.items c.new-asks.ensures.empty refl refl
