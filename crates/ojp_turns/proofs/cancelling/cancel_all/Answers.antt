use Rattle.std.proofs.Common.{◌<◌, ◌≤◌, length, refl, ◌∙◌, arith, rules}
use Rattle.ojp_labels.specs.Boards.{ask_of, told_of}
use Rattle.ojp_turns.proofs.PollFacts.{keeps_on, keeps_self, not_raised_on, not_raised_self}
use Rattle.ojp_turns.proofs.CancelFacts.{sifts_start, sift_more, sifted_all}
use Rattle.ojp_turns.proofs.cancelling.cancel_all.Goals as goal

pub cancelling-init : goal.cancelling-init
cancelling-init g c = record {
  stands = c.requires.stands;
  keeps = keeps_self (g.L.Links.seen c.args.links.now);
  rejections = refl;
  made = refl;
  patience = not_raised_self (g.L.Links.seen c.args.links.now).patience;
  sifts = sifts_start c.args.book.now (ask_of c.args.board.now) (told_of c.args.board.now) (g.L.Links.seen c.args.links.now) c.args.subs.now.items;
}

pub cancelling-preserved : goal.cancelling-preserved
cancelling-preserved g c =
    let below : c.cancelling.counter < length c.args.subs.now.items = first_of (search rules, grind (arith, rules)) in
    record {
      stands = c.cancel_first-some.ensures.stands;
      keeps = keeps_on (g.L.Links.seen c.args.links.now) (g.L.Links.seen c.cancelling.links) (g.L.Links.seen c.cancel_first-some.new.links) c.cancelling.invariant.keeps c.cancel_first-some.ensures.keeps;
      rejections = c.cancel_first-some.ensures.rejections ∙ c.cancelling.invariant.rejections;
      made = c.cancel_first-some.ensures.made ∙ c.cancelling.invariant.made;
      patience = not_raised_on (g.L.Links.seen c.args.links.now).patience (g.L.Links.seen c.cancelling.links).patience (g.L.Links.seen c.cancel_first-some.new.links).patience c.cancelling.invariant.patience c.cancel_first-some.ensures.patience;
      sifts = sift_more c.args.book.now (ask_of c.args.board.now) (told_of c.args.board.now) (g.L.Links.seen c.args.links.now) (g.L.Links.seen c.cancelling.links) (g.L.Links.seen c.cancel_first-some.new.links) c.args.subs.now.items c.cancelling.subs.items c.cancel_first-some.new.subs.items
          c.cancelling.some c.cancel_first-some.result c.cancelling.counter c.cancelling.invariant.sifts c.cancel_first-some.ensures.sifted c.cancelling.invariant.stands below;
    }

pub returns-clause-patience : goal.returns-clause-patience
returns-clause-patience g c = c.cancelling.invariant.patience

pub returns-clause-kept : goal.returns-clause-kept
returns-clause-kept g c =
    let whole : length c.args.subs.now.items ≤ c.cancelling.counter = first_of (search rules, grind (arith, rules)) in
    (sifted_all c.args.book.now (ask_of c.args.board.now) (told_of c.args.board.now) (g.L.Links.seen c.args.links.now) (g.L.Links.seen c.cancelling.links) c.args.subs.now.items c.cancelling.subs.items c.cancelling.some c.cancelling.counter whole c.cancelling.invariant.sifts).0

pub returns-clause-same : goal.returns-clause-same
returns-clause-same g c = c.cancelling.invariant.sifts.same

pub returns-clause-cancels : goal.returns-clause-cancels
returns-clause-cancels g c =
    let whole : length c.args.subs.now.items ≤ c.cancelling.counter = first_of (search rules, grind (arith, rules)) in
    (sifted_all c.args.book.now (ask_of c.args.board.now) (told_of c.args.board.now) (g.L.Links.seen c.args.links.now) (g.L.Links.seen c.cancelling.links) c.args.subs.now.items c.cancelling.subs.items c.cancelling.some c.cancelling.counter whole c.cancelling.invariant.sifts).1
