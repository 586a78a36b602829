use Rattle.std.proofs.Common.{◌≡◌, [], List, sym, subst}
use Rattle.ojp_records.specs.declared.queries.Entry.{Entry}
use Rattle.ojp_labels.specs.Boards.{IsKept}
use Rattle.ojp_labels.proofs.StartingFacts.{first_kept}
use Rattle.ojp_labels.proofs.board.Board.new.Goals as goal

pub returns-clause-of : goal.returns-clause-of
returns-clause-of c =
    subst (λ (told : List Entry). IsKept c.args.book.now c.args.ask.now told _ c.first_state.result c.first_state-2.result c.own_label.result c.in_ok-labels.labels.items) (sym c.new.ensures.items)
    (first_kept c.args.book.now c.args.ask.now c.first_state.result c.first_state-2.result c.own_label.result c.in_ok-labels.labels.items
    c.is_well.ensures c.text-origin.ensures.well c.first_state.ensures c.first_state-2.ensures c.own_label.ensures c.in_ok-labels.ensures)
