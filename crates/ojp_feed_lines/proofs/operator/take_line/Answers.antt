use Rattle.std.proofs.Common.{sym, ◌∙◌}
use Rattle.ojp_feed_lines.specs.IdTexts.{id_texts}
use Rattle.ojp_feed_lines.proofs.CauseFacts.{empty_text}
use Rattle.ojp_feed_lines.proofs.OperatorFacts.{on_added, on_clash, stands_empty}
use Rattle.ojp_feed_lines.proofs.operator.take_line.Goals as goal

pub returns-then-is_empty-clause-taken : goal.returns-then-is_empty-clause-taken
returns-then-is_empty-clause-taken c =
    λ above stands.
    stands_empty (id_texts c.args.stops.now) above c.args.text.now c.args.operator.now (empty_text c.args.text.now (sym c.is_empty.ensures ∙ c.if-is_empty.true)) stands

pub returns-in-Ok-clause-taken : goal.returns-in-Ok-clause-taken
returns-in-Ok-clause-taken c =
    on_added c.add_line.result (id_texts c.args.stops.now) c.args.text.now c.args.operator.now c.add_line.new.operator c.in-Ok.line c.in-Ok.ensures.said c.add_line.ensures.added

pub returns-in-Ok-clause-refused : goal.returns-in-Ok-clause-refused
returns-in-Ok-clause-refused c =
    on_clash c.add_line.result c.args.code (id_texts c.args.stops.now) c.args.text.now c.args.operator.now c.in-Ok.line c.in-Ok.ensures.said c.add_line.ensures.refused
