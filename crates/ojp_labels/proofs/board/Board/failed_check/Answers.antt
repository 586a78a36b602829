use Rattle.std.proofs.Common.{Option, ap, ◌∙◌}
use Rattle.ojp_values.specs.Texts.{Text, home}
use Rattle.ojp_labels.specs.Boards.{lesser_code, failed_code}
use Rattle.ojp_labels.proofs.FaultFacts.{least_failed}
use Rattle.ojp_labels.proofs.board.Board.failed_check.Goals as goal

pub returns : goal.returns
returns c =
    let board = c.args.self.now in
    c.lesser_code.ensures
    ∙ (ap (λ (o : Option Text). lesser_code o c.failed_code-target.result) c.failed_code-origin.ensures
    ∙ (ap (λ (o : Option Text). lesser_code (failed_code board.origin (home board.ask.origin)) o) c.failed_code-target.ensures
    ∙ least_failed board.origin board.target (home board.ask.origin) (home board.ask.target)))
