use Rattle.std.proofs.Common.{◌≡◌, Option, ap, ◌∙◌}
use Rattle.ojp_values.specs.Texts.{Text, home}
use Rattle.ojp_records.specs.Ends.{fault_by}
use Rattle.ojp_labels.specs.Boards.{lesser_code, own_failed}
use Rattle.ojp_labels.proofs.FaultFacts.{fault_is}
use Rattle.ojp_labels.proofs.board.Board.fault.Goals as goal

pub returns : goal.returns
returns c =
    let board = c.args.self.now in
    c.fault_by.ensures
    ∙ (ap (λ (o : Option Text). fault_by board.ask.origin board.ask.target board.origin board.target c.failed_check-check.result o board.best)
    (c.lesser_code-pair.ensures ∙ (ap (λ (o : Option Text). lesser_code o c.failed_pair.result) c.own_failed.ensures ∙ ap (λ (o : Option Text). lesser_code (own_failed board.ask board.best board.own (home board.ask.origin)) o) c.failed_pair.ensures))
    ∙ fault_is c.args.book.now board c.failed_check-check.result c.requires c.failed_check-check.ensures)
