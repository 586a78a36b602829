use Rattle.std.proofs.Common.{◌∙◌}
use Rattle.ojp_turns.proofs.CancelFacts.{first_is_held, held_drops}
use Rattle.ojp_turns.proofs.PollFacts.{keeps_on}
use Rattle.ojp_turns.proofs.cancelling.cancel_rest.Goals as goal

pub rest-preserved : goal.rest-preserved
rest-preserved g c =
    let held = first_is_held (g.L.Links.seen c.rest.links) c.in-Some.kept c.rest.subs.items c.pop_front.new.self.items c.in-Some.ensures.items c.rest.invariant.held in
    let closes = c.cancel.ensures.closed held.own.not_over in
    record {
      held = held_drops (g.L.Links.seen c.rest.links) (g.L.Links.seen c.cancel.new.links) c.in-Some.kept c.rest.subs.items c.pop_front.new.self.items c.in-Some.ensures.items c.rest.invariant.held closes;
      keeps = keeps_on (g.L.Links.seen c.args.links.now) (g.L.Links.seen c.rest.links) (g.L.Links.seen c.cancel.new.links) c.rest.invariant.keeps closes.drops.keeps;
      rejections = closes.rejections ∙ c.rest.invariant.rejections;
    }
