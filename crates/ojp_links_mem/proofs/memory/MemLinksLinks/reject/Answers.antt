use Rattle.std.proofs.Common.{Option, ap, is_some, refl, subst}
use Rattle.ojp_links.specs.Calls.{Rejects}
use Rattle.ojp_links_mem.specs.Memory.{MemView, RejectsBy, links_of}
use Rattle.ojp_links_mem.specs.Kept.{view_of}
use Rattle.ojp_links_mem.specs.declared.pending.Pending.{Pending}
use Rattle.ojp_links_mem.proofs.EndFacts.{rejects_at, rejects_by, whole_rejected}
use Rattle.ojp_links_mem.proofs.LookFacts.{region_there}
use Rattle.ojp_links_mem.proofs.SoundFacts.{found_live}
use Rattle.ojp_links_mem.proofs.memory.MemLinksLinks.reject.Goals as goal

pub remove-ask-requires : goal.remove-ask-requires
remove-ask-requires c = ap (λ (o : Option Pending). is_some o) (found_live c.self.inside c.args.self.now c.args.sub.key c.self.view_is c.requires.live).at

pub count_rejection-requires : goal.count_rejection-requires
count_rejection-requires c = (c.self.invariant.kept c.args.sub.key c.remove-ask.result c.remove-ask.ensures.value).of_region

pub invariant_of-self : goal.invariant_of-self
invariant_of-self c =
    let m = c.self.inside in
    let n = record m { asks = c.remove-ask.new.self; regions = c.count_rejection.new.regions } in
    whole_rejected m n c.args.sub.key c.remove-ask.result.region c.self.invariant (record { tables_same = refl; script_same = refl; order_same = refl; most_same = refl; servers_same = refl; tells_same = refl }) refl c.remove-ask.ensures.updates.changed c.remove-ask.ensures.updates.others c.count_rejection.ensures.changes

pub returns-clause-rejects : goal.returns-clause-rejects
returns-clause-rejects c =
    let m = c.self.inside in
    let n = record m { asks = c.remove-ask.new.self; regions = c.count_rejection.new.regions } in
    let p = c.remove-ask.result in
    let there = region_there m.regions.items p.region (c.self.invariant.kept c.args.sub.key p c.remove-ask.ensures.value).of_region in
    subst (λ (v : MemView). Rejects (links_of v) (links_of (view_of n)) c.args.sub.key) c.self.view_is
    (rejects_at m n c.args.sub.key p there.0 (record { tables_same = refl; script_same = refl; order_same = refl; most_same = refl; servers_same = refl; tells_same = refl }) refl refl c.remove-ask.ensures.value c.remove-ask.ensures.updates.changed c.remove-ask.ensures.updates.others there.1 c.count_rejection.ensures.changes c.count_rejection.ensures.later)

pub returns-clause-by : goal.returns-clause-by
returns-clause-by c =
    let m = c.self.inside in
    let n = record m { asks = c.remove-ask.new.self; regions = c.count_rejection.new.regions } in
    subst (λ (v : MemView). RejectsBy v (view_of n) c.args.sub.key) c.self.view_is
    (rejects_by m n c.args.sub.key c.remove-ask.result (record { tables_same = refl; script_same = refl; order_same = refl; most_same = refl; servers_same = refl; tells_same = refl }) refl c.remove-ask.ensures.value c.count_rejection.ensures.changes)
