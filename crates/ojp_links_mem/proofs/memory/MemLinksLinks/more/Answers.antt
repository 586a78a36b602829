use Rattle.std.proofs.Common.{◌≡◌, ◌<◌, ℕ, IfSome, Option, ap, is_some, length, refl, slice_get, subst, sym}
use Rattle.ojp_links.specs.declared.links.More.TheVariants as More
use Rattle.ojp_links.specs.Calls.{Looks}
use Rattle.ojp_links_mem.specs.Regions.{DoesNotFall}
use Rattle.ojp_links_mem.specs.Memory.{CountsLook, GivesBy, MemView, links_of}
use Rattle.ojp_links_mem.specs.Kept.{view_of}
use Rattle.ojp_links_mem.specs.declared.pending.Pending.{Pending}
use Rattle.ojp_links_mem.proofs.LookFacts.{counted_by, gives_by, looks_at, region_there, whole_looked}
use Rattle.ojp_links_mem.proofs.SoundFacts.{found_live}
use Rattle.ojp_links_mem.proofs.memory.MemLinksLinks.more.Goals as goal

pub region_of-region-requires : goal.region_of-region-requires
region_of-region-requires c = ap (λ (o : Option Pending). is_some o) (found_live c.self.inside c.args.self.now c.args.sub.now.key c.self.view_is c.requires).at

pub look_at-answer-requires-clause-live : goal.look_at-answer-requires-clause-live
look_at-answer-requires-clause-live c = ap (λ (o : Option Pending). is_some o) (found_live c.self.inside c.args.self.now c.args.sub.now.key c.self.view_is c.requires).at

pub look_at-answer-requires-clause-within : goal.look_at-answer-requires-clause-within
look_at-answer-requires-clause-within c = λ p at. (c.self.invariant.kept c.args.sub.now.key p at).within

pub count_look-requires : goal.count_look-requires
count_look-requires c =
    let m = c.self.inside in
    let it = found_live m c.args.self.now c.args.sub.now.key c.self.view_is c.requires in
    subst (λ (r : ℕ). r < length m.regions.items) (sym (c.region_of-region.ensures it.ask it.at)) (c.self.invariant.kept c.args.sub.now.key it.ask it.at).of_region

pub invariant_of-self : goal.invariant_of-self
invariant_of-self c =
    let m = c.self.inside in
    let key = c.args.sub.now.key in
    let n = record m { asks = c.look_at-answer.new.asks; regions = c.count_look.new.regions } in
    let it = found_live m c.args.self.now key c.self.view_is c.requires in
    let after = c.look_at-answer.ensures.looks_at it.ask it.at in
    let counts = subst (λ (r : ℕ). CountsLook c.look_at-answer.result m.regions.items n.regions.items r) (c.region_of-region.ensures it.ask it.at) c.count_look.ensures.counts in
    let there = region_there m.regions.items it.ask.region (c.self.invariant.kept key it.ask it.at).of_region in
    let later = subst (λ (r : ℕ). c.look_at-answer.result ≡ More.Failed → IfSome (slice_get m.regions.items r) DoesNotFall) (c.region_of-region.ensures it.ask it.at) c.count_look.ensures.later in
    let counted = counted_by m n it.ask.region there.0 c.look_at-answer.result there.1 counts later in
    whole_looked m n key c.look_at-answer.result it.ask after.0 c.self.invariant (record { tables_same = refl; script_same = refl; order_same = refl; most_same = refl; servers_same = refl; tells_same = refl }) refl it.at after.1 c.look_at-answer.ensures.others_stay after.2 counts counted

pub returns : goal.returns
returns c =
    let m = c.self.inside in
    let key = c.args.sub.now.key in
    let n = record m { asks = c.look_at-answer.new.asks; regions = c.count_look.new.regions } in
    let it = found_live m c.args.self.now key c.self.view_is c.requires in
    let after = c.look_at-answer.ensures.looks_at it.ask it.at in
    let counts = subst (λ (r : ℕ). CountsLook c.look_at-answer.result m.regions.items n.regions.items r) (c.region_of-region.ensures it.ask it.at) c.count_look.ensures.counts in
    let there = region_there m.regions.items it.ask.region (c.self.invariant.kept key it.ask it.at).of_region in
    let later = subst (λ (r : ℕ). c.look_at-answer.result ≡ More.Failed → IfSome (slice_get m.regions.items r) DoesNotFall) (c.region_of-region.ensures it.ask it.at) c.count_look.ensures.later in
    let counted = counted_by m n it.ask.region there.0 c.look_at-answer.result there.1 counts later in
    record {
      looks = subst (λ (v : MemView). Looks (links_of v) (links_of (view_of n)) key c.look_at-answer.result) c.self.view_is
          (looks_at m n key c.look_at-answer.result it.ask after.0 c.self.invariant (record { tables_same = refl; script_same = refl; order_same = refl; most_same = refl; servers_same = refl; tells_same = refl }) refl refl it.at after.1 c.look_at-answer.ensures.others_stay after.2 counted);
      by = subst (λ (v : MemView). GivesBy v (view_of n) key c.look_at-answer.result) c.self.view_is
          (gives_by m n key c.look_at-answer.result it.ask (record { tables_same = refl; script_same = refl; order_same = refl; most_same = refl; servers_same = refl; tells_same = refl }) refl it.at c.look_at-answer.ensures counts);
    }
