use Rattle.std.proofs.Common.{Option, ap, is_some, refl, subst}
use Rattle.ojp_links.specs.Calls.{Closes}
use Rattle.ojp_links_mem.specs.Memory.{ClosesBy, MemView, links_of}
use Rattle.ojp_links_mem.specs.Kept.{view_of}
use Rattle.ojp_links_mem.specs.declared.pending.Pending.{Pending}
use Rattle.ojp_links_mem.proofs.EndFacts.{closes_at, whole_closed}
use Rattle.ojp_links_mem.proofs.SoundFacts.{found_live}
use Rattle.ojp_links_mem.proofs.memory.MemLinksLinks.close.Goals as goal

pub remove-requires : goal.remove-requires
remove-requires c = ap (λ (o : Option Pending). is_some o) (found_live c.self.inside c.args.self.now c.args.sub.key c.self.view_is c.requires).at

pub invariant_of-self : goal.invariant_of-self
invariant_of-self c =
    let m = c.self.inside in
    whole_closed m (record m { asks = c.remove.new.self }) c.args.sub.key c.self.invariant (record { tables_same = refl; script_same = refl; order_same = refl; most_same = refl; servers_same = refl; tells_same = refl }) refl refl c.remove.ensures.updates.changed c.remove.ensures.updates.others

pub returns-clause-closes : goal.returns-clause-closes
returns-clause-closes c =
    let m = c.self.inside in
    let n = record m { asks = c.remove.new.self } in
    subst (λ (v : MemView). Closes (links_of v) (links_of (view_of n)) c.args.sub.key) c.self.view_is
    (closes_at m n c.args.sub.key (record { tables_same = refl; script_same = refl; order_same = refl; most_same = refl; servers_same = refl; tells_same = refl }) refl refl refl c.remove.ensures.updates.changed c.remove.ensures.updates.others)

pub returns-clause-by : goal.returns-clause-by
returns-clause-by c =
    let m = c.self.inside in
    subst (λ (v : MemView). ClosesBy v (view_of (record m { asks = c.remove.new.self }))) c.self.view_is
    (record { terms = record { tables_same = refl; script_same = refl; order_same = refl; most_same = refl; servers_same = refl; tells_same = refl }; regions_same = refl; rested_same = refl })
