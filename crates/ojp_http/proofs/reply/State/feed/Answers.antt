use Rattle.std.proofs.Common.{Err, sym, ◌∙◌, subst}
use Rattle.ojp_http.specs.declared.fed.ReplyRefused.TheVariants.{Bad}
use Rattle.ojp_http.specs.declared.fed.Stage.TheVariants.{Over}
use Rattle.ojp_http.specs.declared.reply.State.{State}
use Rattle.ojp_http.specs.Replying.{HasFed, Answers, ended, seen_as}
use Rattle.ojp_http.proofs.ReplyFacts.{feeds_behind}
use Rattle.ojp_http.proofs.reply.State.feed.Goals as goal

pub returns-in-Reading-clause-answers : goal.returns-in-Reading-clause-answers
returns-in-Reading-clause-answers c bytes got fed =
    subst (λ (s : State). HasFed (seen_as s) bytes got → Answers (seen_as s) (seen_as c.read_on.result.0) bytes got c.args.piece.now c.args.body.now c.read_on.new.body c.read_on.result.1) (sym c.in-Reading.is)
    (λ taken. c.read_on.ensures.reads bytes got taken) fed

pub returns-in-Whole-2-clause-answers : goal.returns-in-Whole-2-clause-answers
returns-in-Whole-2-clause-answers c bytes got fed =
    subst (λ (s : State). HasFed (seen_as s) bytes got → Answers (seen_as s) (ended (Over Bad)) bytes got c.args.piece.now c.args.body.now c.args.body.now (Err Bad)) (sym c.in-Whole-2.is)
    (λ whole. feeds_behind bytes got c.args.piece.now c.args.body.now (sym c.is_empty.ensures ∙ c.if-is_empty.false) whole) fed
