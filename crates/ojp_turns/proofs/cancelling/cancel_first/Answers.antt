use Rattle.ojp_labels.specs.Boards.{ask_of, told_of}
use Rattle.ojp_turns.proofs.CancelFacts.{first_held, rotated_stands, kept_sifted, cancelled_stands, cancelled_sifted}
use Rattle.ojp_turns.proofs.cancelling.cancel_first.Goals as goal

pub returns-then-is_wanted-clause-stands : goal.returns-then-is_wanted-clause-stands
returns-then-is_wanted-clause-stands g c =
    rotated_stands c.args.book.now (ask_of c.args.board.now) (told_of c.args.board.now) (g.L.Links.seen c.args.links.now) (g.L.Links.seen c.args.links.now) c.args.subs.now.items c.pop_front.new.self.items c.in-Some.kept c.in-Some.ensures.items c.requires.stands
    c.push_back_reserved.new.self.items c.push_back_reserved.ensures.items

pub returns-then-is_wanted-clause-sifted : goal.returns-then-is_wanted-clause-sifted
returns-then-is_wanted-clause-sifted g c =
    kept_sifted c.args.book.now (ask_of c.args.board.now) (told_of c.args.board.now) (g.L.Links.seen c.args.links.now) (g.L.Links.seen c.args.links.now) c.args.subs.now.items c.pop_front.new.self.items c.in-Some.kept c.in-Some.ensures.items c.requires.stands
    c.push_back_reserved.new.self.items c.is_wanted.result c.push_back_reserved.ensures.items c.if-is_wanted.true c.is_wanted.ensures

pub returns-clause-stands : goal.returns-clause-stands
returns-clause-stands g c =
    let held = first_held c.args.book.now (ask_of c.args.board.now) (told_of c.args.board.now) (g.L.Links.seen c.args.links.now) (g.L.Links.seen c.args.links.now) c.args.subs.now.items c.pop_front.new.self.items c.in-Some.kept c.in-Some.ensures.items c.requires.stands in
    cancelled_stands c.args.book.now (ask_of c.args.board.now) (told_of c.args.board.now) (g.L.Links.seen c.args.links.now) (g.L.Links.seen c.cancel.new.links) c.args.subs.now.items c.pop_front.new.self.items c.in-Some.kept c.in-Some.ensures.items c.requires.stands
    (c.cancel.ensures.closed held.own.not_over)

pub returns-clause-sifted : goal.returns-clause-sifted
returns-clause-sifted g c =
    let held = first_held c.args.book.now (ask_of c.args.board.now) (told_of c.args.board.now) (g.L.Links.seen c.args.links.now) (g.L.Links.seen c.args.links.now) c.args.subs.now.items c.pop_front.new.self.items c.in-Some.kept c.in-Some.ensures.items c.requires.stands in
    cancelled_sifted c.args.book.now (ask_of c.args.board.now) (told_of c.args.board.now) (g.L.Links.seen c.args.links.now) (g.L.Links.seen c.cancel.new.links) c.args.subs.now.items c.pop_front.new.self.items c.in-Some.kept c.in-Some.ensures.items c.requires.stands
    c.is_wanted.result c.if-is_wanted.false c.is_wanted.ensures (c.cancel.ensures.closed held.own.not_over)
