use Rattle.std.proofs.Common.{refl}
use Rattle.ojp_labels.specs.Boards.{ask_of, told_of}
use Rattle.ojp_records.proofs.SureFacts.{open_is_sure}
use Rattle.ojp_turns.proofs.PollFacts.{pending_keeps, moved_keeps, waits_steps, moved_steps, over_gone, over_steps, is_safe, rejects_by}
use Rattle.ojp_turns.proofs.OrderPollFacts.{moved_never}
use Rattle.ojp_turns.proofs.polling.poll_one.Goals as goal

pub returns-in-Pending-clause-patience : goal.returns-in-Pending-clause-patience
returns-in-Pending-clause-patience g c = (pending_keeps _ _ _ _ c.in-Pending.ensures.polls).patience

pub returns-in-Pending-clause-steps : goal.returns-in-Pending-clause-steps
returns-in-Pending-clause-steps g c =
    waits_steps c.args.book.now (ask_of c.args.board.now) (g.L.Links.seen c.args.links.now) (g.L.Links.seen c.poll.new.links) c.args.kept.now (record c.args.kept.now { sub = c.poll.new.self })
    refl refl c.requires.held (told_of c.args.board.now) c.in-Pending.ensures.polls

pub returns-in-Moved-clause-patience : goal.returns-in-Moved-clause-patience
returns-in-Moved-clause-patience g c = (moved_keeps _ _ _ _ c.in-Moved.ensures.polls).patience

pub returns-in-Moved-clause-steps : goal.returns-in-Moved-clause-steps
returns-in-Moved-clause-steps g c =
    moved_steps c.args.book.now (ask_of c.args.board.now) (g.L.Links.seen c.args.links.now) (g.L.Links.seen c.poll.new.links) c.args.kept.now (record c.args.kept.now { sub = c.poll.new.self })
    refl refl c.requires.held (told_of c.args.board.now) c.in-Moved.ensures.polls

pub returns-in-Ok-clause-keeps : goal.returns-in-Ok-clause-keeps
returns-in-Ok-clause-keeps g c = (over_gone _ _ _ _ _ c.in-Over.ensures.polls).keeps

pub returns-in-Ok-clause-others : goal.returns-in-Ok-clause-others
returns-in-Ok-clause-others g c = (over_gone _ _ _ _ _ c.in-Over.ensures.polls).others

pub returns-in-Ok-clause-patience : goal.returns-in-Ok-clause-patience
returns-in-Ok-clause-patience g c = (over_gone _ _ _ _ _ c.in-Over.ensures.polls).patience

pub returns-in-Ok-clause-steps : goal.returns-in-Ok-clause-steps
returns-in-Ok-clause-steps g c =
    over_steps c.args.book.now (ask_of c.args.board.now) (g.L.Links.seen c.args.links.now) c.args.kept.now c.requires.held c.is_sound.ensures
    (g.L.Links.seen c.poll.new.links) (record c.args.kept.now { sub = c.poll.new.self }) c.in-Over.end (told_of c.args.board.now) (told_of c.tell_end.new.board)
    c.in-Ok.ensures.told (over_gone _ _ _ _ _ c.in-Over.ensures.polls).none c.in-Over.ensures.told c.in-Over.ensures.failed

pub returns-in-Ok-clause-rejects_none : goal.returns-in-Ok-clause-rejects_none
returns-in-Ok-clause-rejects_none g c =
    rejects_by c.args.book.now (ask_of c.args.board.now) (told_of c.args.board.now) (g.L.Links.seen c.args.links.now) (g.L.Links.seen c.poll.new.links) c.args.kept.now.sub
    (is_safe c.args.book.now (ask_of c.args.board.now) (g.L.Links.seen c.args.links.now) c.args.kept.now c.requires.held c.is_sound.ensures open_is_sure (told_of c.args.board.now) c.requires.differ c.requires.fresh)
    c.in-Over.ensures.safe

pub returns-in-Err-clause-keeps : goal.returns-in-Err-clause-keeps
returns-in-Err-clause-keeps g c = (over_gone _ _ _ _ _ c.in-Over.ensures.polls).keeps

pub returns-in-Err-clause-others : goal.returns-in-Err-clause-others
returns-in-Err-clause-others g c = (over_gone _ _ _ _ _ c.in-Over.ensures.polls).others

pub returns-in-Err-clause-patience : goal.returns-in-Err-clause-patience
returns-in-Err-clause-patience g c = (over_gone _ _ _ _ _ c.in-Over.ensures.polls).patience

pub returns-in-Err-clause-rejects_none : goal.returns-in-Err-clause-rejects_none
returns-in-Err-clause-rejects_none g c =
    rejects_by c.args.book.now (ask_of c.args.board.now) (told_of c.args.board.now) (g.L.Links.seen c.args.links.now) (g.L.Links.seen c.poll.new.links) c.args.kept.now.sub
    (is_safe c.args.book.now (ask_of c.args.board.now) (g.L.Links.seen c.args.links.now) c.args.kept.now c.requires.held c.is_sound.ensures open_is_sure (told_of c.args.board.now) c.requires.differ c.requires.fresh)
    c.in-Over.ensures.safe

pub returns-in-Moved-clause-ordered : goal.returns-in-Moved-clause-ordered
returns-in-Moved-clause-ordered g c =
    moved_never c.args.book.now (ask_of c.args.board.now) (told_of c.args.board.now) (g.L.Links.seen c.args.links.now) (g.L.Links.seen c.poll.new.links) c.args.kept.now c.poll.new.self
    c.requires.held c.is_sound.ensures c.sure_is_never_hopeless.ensures open_is_sure c.requires.differ c.requires.fresh c.in-Moved.ensures.polls
