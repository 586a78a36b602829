use Rattle.std.proofs.Common.{subst, sym, drop}
use Rattle.ojp_http.specs.Machine.{Steps}
use Rattle.ojp_http.proofs.Stepping.{one_step, first_byte}
use Rattle.ojp_http.proofs.machine.Framing.step.Goals as goal

pub returns-then-run-gt0 : goal.returns-then-run-gt0
returns-then-run-gt0 c = c.keep_run.ensures c.args.body.now.items

pub returns-in-Head : goal.returns-in-Head
returns-in-Head c =
    subst (λ r. Steps c.args.self.now c.args.piece.now c.args.body.now.items r c.step_head.new.self c.args.body.now.items) (sym c.taking.ensures)
    (one_step c.args.self.now c.step_head.new.self c.args.piece.now c.args.body.now.items _ (drop 1 c.args.piece.now) (first_byte c.args.piece.now c.requires.some) c.step_head.result c.step_head.ensures)

pub returns-in-ReplyHead : goal.returns-in-ReplyHead
returns-in-ReplyHead c =
    subst (λ r. Steps c.args.self.now c.args.piece.now c.args.body.now.items r c.step_reply_head.new.self c.args.body.now.items) (sym c.taking-in-ReplyHead.ensures)
    (one_step c.args.self.now c.step_reply_head.new.self c.args.piece.now c.args.body.now.items _ (drop 1 c.args.piece.now) (first_byte c.args.piece.now c.requires.some) c.step_reply_head.result c.step_reply_head.ensures)

pub returns-in-Line : goal.returns-in-Line
returns-in-Line c = c.step_line.ensures c.args.body.now.items

pub returns-in-Return : goal.returns-in-Return
returns-in-Return c =
    subst (λ r. Steps c.args.self.now c.args.piece.now c.args.body.now.items r c.step_return.new.self c.args.body.now.items) (sym c.taking-in-Return.ensures)
    (one_step c.args.self.now c.step_return.new.self c.args.piece.now c.args.body.now.items _ (drop 1 c.args.piece.now) (first_byte c.args.piece.now c.requires.some) c.step_return.result c.step_return.ensures)

pub returns-in-Trailing : goal.returns-in-Trailing
returns-in-Trailing c =
    subst (λ r. Steps c.args.self.now c.args.piece.now c.args.body.now.items r c.step_trailer.new.self c.args.body.now.items) (sym c.taking-in-Trailing.ensures)
    (one_step c.args.self.now c.step_trailer.new.self c.args.piece.now c.args.body.now.items _ (drop 1 c.args.piece.now) (first_byte c.args.piece.now c.requires.some) c.step_trailer.result c.step_trailer.ensures)
