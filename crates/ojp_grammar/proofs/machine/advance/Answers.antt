use Rattle.std.proofs.Common.{List, ◌∷◌, IfOk, subst}
use Rattle.ojp_grammar.specs.declared.shapes.Shape.{Shape}
use Rattle.ojp_grammar.specs.Folding.{Waiting}
use Rattle.ojp_grammar.specs.Steps.{syntax_of, stack_of}
use Rattle.ojp_grammar.specs.Machine.{Advances}
use Rattle.ojp_grammar.proofs.machine.advance.Goals as goal

pub returns-in-None : goal.returns-in-None
returns-in-None c =
    let P : List Shape → Type 0 = λ items. IfOk c.pass_item.result (λ passed. Advances (syntax_of c.args.shape ∷ stack_of items) c.args.draft.now c.args.bytes.now passed (stack_of c.pass_item.new.stack.items) c.pass_item.new.draft) in
    let Q : Waiting → Type 0 = λ old. IfOk c.pass_item.result (λ passed. Advances (syntax_of c.args.shape ∷ stack_of c.pass_leg.new.stack.items) old c.args.bytes.now passed (stack_of c.pass_item.new.stack.items) c.pass_item.new.draft) in
    let stays = rw c.in-None.is at c.in_ok-leg.ensures in
    subst P stays.0 (subst Q stays.1 c.pass_item.ensures)
