use Rattle.std.proofs.Common.{◌≡◌, ◌<◌, ◌≤◌, ◌++◌, ◌∷◌, [], ◌∙◌, List, Err, length, refl, sym, subst, arith, rules}
use Rattle.ojp_exchange.specs.declared.region_points.RegionPoints.{RegionPoints}
use Rattle.ojp_exchange.specs.Joins.{AreWellLists, IsJoined, JoinFails}
use Rattle.ojp_links.specs.Seen.{Fixed}
use Rattle.ojp_subrequests.specs.declared.subreply.BeginRefused.TheVariants as begins
use Rattle.ojp_turns.proofs.PollFacts.{keeps_on, keeps_self}
use Rattle.ojp_gateway.specs.Learning.{AreLists}
use Rattle.ojp_gateway.proofs.LearnFacts.{no_lists, lists_more, heard, learned, rejects_on, rejects_same, fails_first}
use Rattle.ojp_gateway.proofs.learning.learn.Goals as goal

pub asking-init : goal.asking-init
asking-init g c =
    record { keeps = keeps_self (g.L.Links.seen c.args.links.now); none_live = c.requires; rejections = rejects_same (g.L.Links.seen c.args.links.now) (g.L.Links.seen c.args.links.now) refl; lists = subst (AreLists (g.L.Links.seen c.args.links.now) 0) (sym c.new-lists.ensures.items) (no_lists (g.L.Links.seen c.args.links.now)) }

pub hear_list-requires-clause-region : goal.hear_list-requires-clause-region
hear_list-requires-clause-region g c =
    let below : c.asking.region < length (g.L.Links.seen c.args.links.now).fixed.stations = first_of (search rules, grind (arith, rules)) in
    subst (λ (f : Fixed). c.asking.region < length f.stations) (sym c.asking.invariant.keeps.fixed) below

pub hear_list-requires-clause-none_live : goal.hear_list-requires-clause-none_live
hear_list-requires-clause-none_live g c = c.asking.invariant.none_live

pub returns-then-is_err : goal.returns-then-is_err
returns-then-is_err g c =
    record {
      keeps = keeps_on (g.L.Links.seen c.args.links.now) (g.L.Links.seen c.asking.links) (g.L.Links.seen c.hear_list.new.links) c.asking.invariant.keeps c.in-Ok.ensures.keeps;
      none_live = c.in-Ok.ensures.none_live;
      none_rejected = rejects_on (g.L.Links.seen c.args.links.now) (g.L.Links.seen c.asking.links) (g.L.Links.seen c.hear_list.new.links) c.asking.invariant.keeps c.asking.invariant.rejections c.in-Ok.ensures.rejections;
      learns = tt;
    }

pub code-requires : goal.code-requires
code-requires g c =
    let below : c.asking.region < length (g.L.Links.seen c.args.links.now).fixed.stations = first_of (search rules, grind (arith, rules)) in
    subst (λ (f : Fixed). c.asking.region < length f.stations) (sym (c.hear_list.ensures.keeps.fixed ∙ c.asking.invariant.keeps.fixed)) below

pub returns-in-Err-Failed : goal.returns-in-Err-Failed
returns-in-Err-Failed g c =
    let below : c.asking.region < length (g.L.Links.seen c.args.links.now).fixed.stations = first_of (search rules, grind (arith, rules)) in
    let outer = c.in-Err-Failed.is in
    let inner = c.in-Err-Failed.field-0-is in
    let failed : c.hear_list.result ≡ Err begins.Failed = cc in
    record {
      keeps = keeps_on (g.L.Links.seen c.args.links.now) (g.L.Links.seen c.asking.links) (g.L.Links.seen c.hear_list.new.links) c.asking.invariant.keeps c.hear_list.ensures.keeps;
      none_live = c.hear_list.ensures.none_live;
      none_rejected = rejects_on (g.L.Links.seen c.args.links.now) (g.L.Links.seen c.asking.links) (g.L.Links.seen c.hear_list.new.links) c.asking.invariant.keeps c.asking.invariant.rejections c.hear_list.ensures.rejections;
      learns = fails_first (g.L.Links.seen c.args.links.now) (g.L.Links.seen c.asking.links) (g.L.Links.seen c.hear_list.new.links) c.asking.region c.code.result c.asking.lists.items
          c.asking.invariant.keeps below c.code.ensures c.hear_list.ensures.keeps (c.hear_list.ensures.failed failed) c.asking.invariant.lists;
    }

pub returns-in-Err-NoMemory : goal.returns-in-Err-NoMemory
returns-in-Err-NoMemory g c =
    record {
      keeps = keeps_on (g.L.Links.seen c.args.links.now) (g.L.Links.seen c.asking.links) (g.L.Links.seen c.hear_list.new.links) c.asking.invariant.keeps c.hear_list.ensures.keeps;
      none_live = c.hear_list.ensures.none_live;
      none_rejected = rejects_on (g.L.Links.seen c.args.links.now) (g.L.Links.seen c.asking.links) (g.L.Links.seen c.hear_list.new.links) c.asking.invariant.keeps c.asking.invariant.rejections c.hear_list.ensures.rejections;
      learns = tt;
    }

pub asking-preserved : goal.asking-preserved
asking-preserved g c =
    let below : c.asking.region < length (g.L.Links.seen c.args.links.now).fixed.stations = first_of (search rules, grind (arith, rules)) in
    let pushed : c.push.new.self.items ≡ c.asking.lists.items ++ c.in-Ok.list ∷ [] = first_of (search rules, grind (arith, rules)) in
    record {
      keeps = keeps_on (g.L.Links.seen c.args.links.now) (g.L.Links.seen c.asking.links) (g.L.Links.seen c.hear_list.new.links) c.asking.invariant.keeps c.in-Ok.ensures.keeps;
      none_live = c.in-Ok.ensures.none_live;
      rejections = rejects_on (g.L.Links.seen c.args.links.now) (g.L.Links.seen c.asking.links) (g.L.Links.seen c.hear_list.new.links) c.asking.invariant.keeps c.asking.invariant.rejections c.in-Ok.ensures.rejections;
      lists = lists_more (g.L.Links.seen c.args.links.now) (g.L.Links.seen c.asking.links) c.asking.region c.asking.lists.items c.in-Ok.list c.push.new.self.items c.asking.invariant.keeps below c.asking.invariant.lists c.in-Ok.ensures.list pushed;
    }

pub join-requires : goal.join-requires
join-requires g c = subst AreWellLists (sym c.as_slice.ensures.value) c.asking.invariant.lists.well

pub returns-in-Ok-join : goal.returns-in-Ok-join
returns-in-Ok-join g c =
    let whole : length (g.L.Links.seen c.args.links.now).fixed.stations ≤ c.asking.region = first_of (search rules, grind (arith, rules)) in
    record {
      keeps = c.asking.invariant.keeps;
      none_live = c.asking.invariant.none_live;
      none_rejected = c.asking.invariant.rejections;
      learns = learned (g.L.Links.seen c.args.links.now) c.asking.region c.asking.lists.items c.in-Ok-join.book c.is_sound.ensures whole c.asking.invariant.lists
          (subst (λ (ls : List RegionPoints). IsJoined ls c.in-Ok-join.book) c.as_slice.ensures.value c.in-Ok-join.ensures.joined) c.is_well.ensures;
    }

pub returns-in-NoMemory : goal.returns-in-NoMemory
returns-in-NoMemory g c =
    record { keeps = c.asking.invariant.keeps; none_live = c.asking.invariant.none_live; none_rejected = c.asking.invariant.rejections; learns = tt }

pub returns : goal.returns
returns g c =
    let whole : length (g.L.Links.seen c.args.links.now).fixed.stations ≤ c.asking.region = first_of (search rules, grind (arith, rules)) in
    record {
      keeps = c.asking.invariant.keeps;
      none_live = c.asking.invariant.none_live;
      none_rejected = c.asking.invariant.rejections;
      learns = record {
        lists = c.asking.lists.items;
        heard = heard (g.L.Links.seen c.args.links.now) c.asking.region c.asking.lists.items whole c.asking.invariant.lists;
        refused = subst (λ (ls : List RegionPoints). JoinFails ls c.in-Err.reason) c.as_slice.ensures.value c.in-Err.ensures.refused;
        some = λ e. c.in_default.not-NoMemory (cc);
      };
    }
