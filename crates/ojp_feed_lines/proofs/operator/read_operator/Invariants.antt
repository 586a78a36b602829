use Rattle.std.proofs.Common.{◌≡◌, ◌++◌, List, length}
use Rattle.ojp_values.specs.Texts.{Text}
use Rattle.ojp_feed_lines.specs.IdTexts.{id_texts}
use Rattle.ojp_feed_lines.specs.Lines.{StandsFor}
use Rattle.ojp_feed_lines.specs.OperatorCauses.{lines_of}
use Rattle.ojp_feed_lines.proofs.operator.read_operator.Given as goal

abbrev pub invariant-lines : goal.invariant-lines
invariant-lines l =
    (above : List Text) × (lines_of l.bytes ≡ above ++ l.lines) × (length above ≡ l.above) × StandsFor (id_texts l.stops) above l.operator
