use Rattle.std.proofs.Common.{take}
use Rattle.ojp_labels.specs.Boards.{ask_of, told_of}
use Rattle.ojp_turns.specs.Tracing.{Adds, drops_of}
use Rattle.ojp_turns.proofs.tracing.trace_drops.Given as goal

abbrev pub invariant-dropping : goal.invariant-dropping
invariant-dropping l = Adds l.turn l.fn.trace l.trace (drops_of l.book (ask_of l.board) (told_of l.board) (take l.number l.subs.items))
