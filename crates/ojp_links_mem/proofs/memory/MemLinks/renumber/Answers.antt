use Rattle.std.proofs.Common.{refl, subst}
use Rattle.ojp_links_mem.specs.Memory.{MemView, Renumbers}
use Rattle.ojp_links_mem.specs.Kept.{view_of}
use Rattle.ojp_links_mem.proofs.memory.MemLinks.renumber.Goals as goal

pub invariant_of-self : goal.invariant_of-self
invariant_of-self c =
    let whole = c.self.invariant in
    record {
      rising = whole.rising;
      well = whole.well;
      distinct = whole.distinct;
      numbered = whole.numbered;
      told = whole.told;
      unsaid = whole.unsaid;
      low = c.requires.low;
      ordered = whole.ordered;
      kept = whole.kept;
    }

pub returns : goal.returns
returns c =
    let m = c.self.inside in
    subst (λ (v : MemView). Renumbers v (view_of (record m { order = c.args.order; made = 0 })) c.args.order) c.self.view_is
    (record { tables_same = refl; script_same = refl; most_same = refl; servers_same = refl; tells_same = refl; regions_same = refl; asks_same = refl; order_is = refl; none_made = refl; rested_same = refl })
