use Rattle.std.proofs.Common.{refl, arith}
use Rattle.ojp_grammar.specs.Steps.{syntax_of, stack_of}
use Rattle.ojp_grammar.specs.Folding.{push_value}
use Rattle.ojp_grammar.proofs.Depths.{depth_some}
use Rattle.ojp_grammar.proofs.Runs.{advances_text, advances_field}
use Rattle.ojp_grammar.proofs.machine.pass_item.Goals as goal

pub returns-in-Ok : goal.returns-in-Ok
returns-in-Ok c =
    advances_text (syntax_of c.args.shape) (stack_of c.args.stack.now.items) (stack_of c.open_behind_text.new.stack.items) c.args.draft.now c.take_text.new.self c.args.bytes.now
    c.text_of.result.now c.in-Text.n c.text_of.ensures c.in-Text.ensures c.open_behind_text.ensures
    (λ w is. c.in-Ok.ensures w is)

pub returns-in-Ok-take_value : goal.returns-in-Ok-take_value
returns-in-Ok-take_value c =
    advances_field (syntax_of c.args.shape) (stack_of c.args.stack.now.items) (stack_of c.open_behind_field.new.stack.items) c.args.draft.now c.take_value.new.self c.args.bytes.now
    c.in-Field.len c.in-Field.value c.in-Field.ensures c.open_behind_field.ensures
    (c.in-Ok-take_value.ensures (push_value c.in-Field.value c.args.draft.now) refl)

pub push-requires : goal.push-requires
push-requires c = omega (arith, c.requires.room, depth_some (syntax_of c.args.shape))
