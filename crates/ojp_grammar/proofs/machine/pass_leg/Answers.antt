use Rattle.std.proofs.Common.{ℕ, ◌-◌, List, ◌∷◌, length, refl, ap, ◌∙◌, subst, arith}
use Rattle.ojp_grammar.specs.Steps.{syntax_of, stack_of}
use Rattle.ojp_grammar.specs.Grammar.{legs_of}
use Rattle.ojp_grammar.specs.Fronts.{ReadsLeg, keep_leg}
use Rattle.ojp_grammar.proofs.Runs.{advances_leg, stack_of-snoc}
use Rattle.ojp_grammar.proofs.machine.pass_leg.Goals as goal

pub returns : goal.returns
returns c =
    let P : List ℕ → Type 0 = λ bytes. ReadsLeg bytes c.in-Some.leg c.leg.new.self in
    advances_leg (syntax_of c.args.shape) (stack_of c.args.stack.now.items) (stack_of c.push.new.self.items) c.args.draft.now c.keep_leg.new.self
    c.args.bytes.now c.leg.new.self c.in-Legs.low c.in-Legs.high (length c.args.bytes.now - c.len.result) c.in-Some.leg
    (ap syntax_of c.in-Legs.is) (omega arith) (subst P c.new-left.ensures c.in-Some.ensures) (ap (λ n. length c.args.bytes.now - n) c.len.ensures)
    (ap stack_of c.push.ensures.items ∙ (stack_of-snoc c.args.stack.now.items _ ∙ ap (λ n. legs_of n (c.in-Legs.high - 1) ∷ stack_of c.args.stack.now.items) c.saturating_sub.ensures))
    (c.in-Ok.ensures (keep_leg c.in-Some.leg c.args.draft.now) refl)
