use Rattle.ojp_labels.specs.Boards.{IsBoardOf}
use Rattle.ojp_rows.proofs.boards.tell_steps.Given as goal

abbrev pub invariant-steps : goal.invariant-steps
invariant-steps g l = IsBoardOf l.board l.book
