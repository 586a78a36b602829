use Rattle.ojp_turns.specs.declared.polling.Step.TheVariants as steps
use Rattle.ojp_labels.specs.Boards.{ask_of, told_of}
use Rattle.ojp_turns.proofs.FirstFacts.{step_as, first_for, waits_stands, moved_stands, over_stands, lost_stands, waits_polled, moved_polled, over_polled, lost_polled}
use Rattle.std.proofs.Common.{refl}
use Rattle.ojp_turns.proofs.OrderPollFacts.{first_waits, first_moved, first_over}
use Rattle.ojp_turns.proofs.polling.poll_first.Goals as goal

pub poll_one-requires-clause-held : goal.poll_one-requires-clause-held
poll_one-requires-clause-held g c =
    first_for c.args.book.now (ask_of c.args.board.now) (told_of c.args.board.now) (g.L.Links.seen c.args.links.now) (g.L.Links.seen c.args.links.now) c.args.subs.now.items c.pop_front.new.self.items c.in-Some.kept c.in-Some.ensures.items c.requires.stands

pub returns-in-Ok-Waits-clause-stands : goal.returns-in-Ok-Waits-clause-stands
returns-in-Ok-Waits-clause-stands g c =
    waits_stands c.args.book.now (ask_of c.args.board.now) (told_of c.args.board.now) (g.L.Links.seen c.args.links.now) (g.L.Links.seen c.poll_one.new.links) c.args.subs.now.items c.pop_front.new.self.items c.in-Some.kept c.in-Some.ensures.items c.requires.stands
    c.poll_one.new.kept c.push_back_reserved.new.self.items (told_of c.poll_one.new.board) c.push_back_reserved.ensures.items c.in-Ok-Waits.ensures.keeps c.in-Ok-Waits.ensures.others (step_as c.args.book.now (ask_of c.args.board.now) (g.L.Links.seen c.args.links.now) (g.L.Links.seen c.poll_one.new.links) c.in-Some.kept c.poll_one.new.kept (told_of c.args.board.now) (told_of c.poll_one.new.board) c.in-Ok-Waits.field-0 steps.Waits c.in-Ok-Waits.field-0-is c.in-Ok-Waits.ensures.steps)

pub returns-in-Ok-Waits-clause-polled : goal.returns-in-Ok-Waits-clause-polled
returns-in-Ok-Waits-clause-polled g c =
    waits_polled c.args.book.now (ask_of c.args.board.now) (told_of c.args.board.now) (g.L.Links.seen c.args.links.now) (g.L.Links.seen c.poll_one.new.links) c.args.subs.now.items c.pop_front.new.self.items c.in-Some.kept c.in-Some.ensures.items c.requires.stands
    c.poll_one.new.kept c.push_back_reserved.new.self.items (told_of c.poll_one.new.board) c.push_back_reserved.ensures.items c.in-Ok-Waits.ensures.keeps c.in-Ok-Waits.ensures.others c.in-Ok-Waits.ensures.patience c.in-Ok-Waits.ensures.rejects_none (step_as c.args.book.now (ask_of c.args.board.now) (g.L.Links.seen c.args.links.now) (g.L.Links.seen c.poll_one.new.links) c.in-Some.kept c.poll_one.new.kept (told_of c.args.board.now) (told_of c.poll_one.new.board) c.in-Ok-Waits.field-0 steps.Waits c.in-Ok-Waits.field-0-is c.in-Ok-Waits.ensures.steps)

pub returns-in-Ok-Moved-clause-stands : goal.returns-in-Ok-Moved-clause-stands
returns-in-Ok-Moved-clause-stands g c =
    moved_stands c.args.book.now (ask_of c.args.board.now) (told_of c.args.board.now) (g.L.Links.seen c.args.links.now) (g.L.Links.seen c.poll_one.new.links) c.args.subs.now.items c.pop_front.new.self.items c.in-Some.kept c.in-Some.ensures.items c.requires.stands
    c.poll_one.new.kept c.push_back_reserved-in-Ok-Moved.new.self.items (told_of c.poll_one.new.board) c.push_back_reserved-in-Ok-Moved.ensures.items c.in-Ok-Moved.ensures.keeps c.in-Ok-Moved.ensures.others (step_as c.args.book.now (ask_of c.args.board.now) (g.L.Links.seen c.args.links.now) (g.L.Links.seen c.poll_one.new.links) c.in-Some.kept c.poll_one.new.kept (told_of c.args.board.now) (told_of c.poll_one.new.board) c.in-Ok-Moved.field-0 steps.Moved c.in-Ok-Moved.field-0-is c.in-Ok-Moved.ensures.steps)

pub returns-in-Ok-Moved-clause-polled : goal.returns-in-Ok-Moved-clause-polled
returns-in-Ok-Moved-clause-polled g c =
    moved_polled c.args.book.now (ask_of c.args.board.now) (told_of c.args.board.now) (g.L.Links.seen c.args.links.now) (g.L.Links.seen c.poll_one.new.links) c.args.subs.now.items c.pop_front.new.self.items c.in-Some.kept c.in-Some.ensures.items c.requires.stands
    c.poll_one.new.kept c.push_back_reserved-in-Ok-Moved.new.self.items (told_of c.poll_one.new.board) c.push_back_reserved-in-Ok-Moved.ensures.items c.in-Ok-Moved.ensures.keeps c.in-Ok-Moved.ensures.others c.in-Ok-Moved.ensures.patience c.in-Ok-Moved.ensures.rejects_none (step_as c.args.book.now (ask_of c.args.board.now) (g.L.Links.seen c.args.links.now) (g.L.Links.seen c.poll_one.new.links) c.in-Some.kept c.poll_one.new.kept (told_of c.args.board.now) (told_of c.poll_one.new.board) c.in-Ok-Moved.field-0 steps.Moved c.in-Ok-Moved.field-0-is c.in-Ok-Moved.ensures.steps)

pub returns-in-Ok-Over-clause-stands : goal.returns-in-Ok-Over-clause-stands
returns-in-Ok-Over-clause-stands g c =
    over_stands c.args.book.now (ask_of c.args.board.now) (told_of c.args.board.now) (g.L.Links.seen c.args.links.now) (g.L.Links.seen c.poll_one.new.links) c.args.subs.now.items c.pop_front.new.self.items c.in-Some.kept c.in-Some.ensures.items c.requires.stands
    c.poll_one.new.kept (told_of c.poll_one.new.board) c.in-Ok-Over.ensures.keeps c.in-Ok-Over.ensures.others (step_as c.args.book.now (ask_of c.args.board.now) (g.L.Links.seen c.args.links.now) (g.L.Links.seen c.poll_one.new.links) c.in-Some.kept c.poll_one.new.kept (told_of c.args.board.now) (told_of c.poll_one.new.board) c.in-Ok-Over.field-0 steps.Over c.in-Ok-Over.field-0-is c.in-Ok-Over.ensures.steps)

pub returns-in-Ok-Over-clause-polled : goal.returns-in-Ok-Over-clause-polled
returns-in-Ok-Over-clause-polled g c =
    over_polled c.args.book.now (ask_of c.args.board.now) (told_of c.args.board.now) (g.L.Links.seen c.args.links.now) (g.L.Links.seen c.poll_one.new.links) c.args.subs.now.items c.pop_front.new.self.items c.in-Some.kept c.in-Some.ensures.items c.requires.stands
    c.poll_one.new.kept (told_of c.poll_one.new.board) c.in-Ok-Over.ensures.keeps c.in-Ok-Over.ensures.others c.in-Ok-Over.ensures.patience c.in-Ok-Over.ensures.rejects_none (step_as c.args.book.now (ask_of c.args.board.now) (g.L.Links.seen c.args.links.now) (g.L.Links.seen c.poll_one.new.links) c.in-Some.kept c.poll_one.new.kept (told_of c.args.board.now) (told_of c.poll_one.new.board) c.in-Ok-Over.field-0 steps.Over c.in-Ok-Over.field-0-is c.in-Ok-Over.ensures.steps)

pub returns-in-Err-clause-stands : goal.returns-in-Err-clause-stands
returns-in-Err-clause-stands g c =
    lost_stands c.args.book.now (ask_of c.args.board.now) (told_of c.args.board.now) (g.L.Links.seen c.args.links.now) (g.L.Links.seen c.poll_one.new.links) c.args.subs.now.items c.pop_front.new.self.items c.in-Some.kept c.in-Some.ensures.items c.requires.stands
    (told_of c.poll_one.new.board) c.in-Err.ensures.told c.in-Err.ensures.keeps c.in-Err.ensures.others c.in-Err.ensures.gone

pub returns-in-Err-clause-polled : goal.returns-in-Err-clause-polled
returns-in-Err-clause-polled g c =
    lost_polled c.args.book.now (ask_of c.args.board.now) (told_of c.args.board.now) (g.L.Links.seen c.args.links.now) (g.L.Links.seen c.poll_one.new.links) c.args.subs.now.items c.pop_front.new.self.items c.in-Some.kept c.in-Some.ensures.items c.requires.stands
    (told_of c.poll_one.new.board) _ c.in-Err.ensures.told c.in-Err.ensures.keeps c.in-Err.ensures.others c.in-Err.ensures.patience c.in-Err.ensures.rejects_none c.in-Err.ensures.gone

pub returns-in-Ok-Waits-clause-ordered : goal.returns-in-Ok-Waits-clause-ordered
returns-in-Ok-Waits-clause-ordered g c =
    first_waits c.args.book.now (ask_of c.args.board.now) (told_of c.args.board.now) (told_of c.poll_one.new.board) (g.L.Links.seen c.args.links.now) (g.L.Links.seen c.poll_one.new.links) c.args.subs.now.items c.pop_front.new.self.items c.push_back_reserved.new.self.items c.in-Some.kept c.poll_one.new.kept c.in-Some.ensures.items c.in-Ok-Waits.field-0 c.in-Ok-Waits.field-0-is
    (step_as c.args.book.now (ask_of c.args.board.now) (g.L.Links.seen c.args.links.now) (g.L.Links.seen c.poll_one.new.links) c.in-Some.kept c.poll_one.new.kept (told_of c.args.board.now) (told_of c.poll_one.new.board) c.in-Ok-Waits.field-0 steps.Waits c.in-Ok-Waits.field-0-is c.in-Ok-Waits.ensures.steps)
    c.in-Ok-Waits.ensures.ordered c.push_back_reserved.ensures.items

pub returns-in-Ok-Moved-clause-ordered : goal.returns-in-Ok-Moved-clause-ordered
returns-in-Ok-Moved-clause-ordered g c =
    first_moved c.args.book.now (ask_of c.args.board.now) (told_of c.args.board.now) (told_of c.poll_one.new.board) (g.L.Links.seen c.args.links.now) (g.L.Links.seen c.poll_one.new.links) c.args.subs.now.items c.pop_front.new.self.items c.push_back_reserved-in-Ok-Moved.new.self.items c.in-Some.kept c.poll_one.new.kept c.in-Some.ensures.items c.in-Ok-Moved.field-0 c.in-Ok-Moved.field-0-is
    c.in-Ok-Moved.ensures.ordered

pub returns-in-Ok-Over-clause-ordered : goal.returns-in-Ok-Over-clause-ordered
returns-in-Ok-Over-clause-ordered g c =
    first_over c.args.book.now (ask_of c.args.board.now) (told_of c.args.board.now) (told_of c.poll_one.new.board) (g.L.Links.seen c.args.links.now) (g.L.Links.seen c.poll_one.new.links) c.args.subs.now.items c.pop_front.new.self.items c.pop_front.new.self.items c.in-Some.kept c.poll_one.new.kept c.in-Some.ensures.items c.in-Ok-Over.field-0 c.in-Ok-Over.field-0-is
    (step_as c.args.book.now (ask_of c.args.board.now) (g.L.Links.seen c.args.links.now) (g.L.Links.seen c.poll_one.new.links) c.in-Some.kept c.poll_one.new.kept (told_of c.args.board.now) (told_of c.poll_one.new.board) c.in-Ok-Over.field-0 steps.Over c.in-Ok-Over.field-0-is c.in-Ok-Over.ensures.steps)
    c.in-Ok-Over.ensures.ordered refl
