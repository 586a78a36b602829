use Rattle.std.proofs.Common.{◌≡◌, ◌+◌, ◌<◌, List, Option, None, get_or, length, ap, ◌∙◌, arith}
use Rattle.ojp_records.specs.declared.queries.Query.{Query}
use Rattle.ojp_labels.proofs.SlotFacts.{kept_are}
use Rattle.ojp_labels.proofs.board.Board.slot.Goals as goal

pub kept_slot-requires-clause-count : goal.kept_slot-requires-clause-count
kept_slot-requires-clause-count c = c.requires.of.labels_are.count

pub kept_slot-requires-clause-within : goal.kept_slot-requires-clause-within
kept_slot-requires-clause-within c = let count = c.requires.of.labels_are.count in omega arith

pub returns : goal.returns
returns c = c.kept_slot.ensures ∙ ap (λ (queries : List (Option Query)). get_or queries c.args.number None) (kept_are c.args.book.now c.args.self.now c.requires.of)
