use Rattle.std.proofs.Common.{◌≡◌, ◌≢◌, ◌∷◌, [], refl, rules, subst}
use Rattle.std.specs.Prelude.{codes}
use Rattle.ojp_values.specs.Texts.{Text}
use Rattle.ojp_feed_lines.specs.OperatorCauses.{IsSpelled}
use Rattle.ojp_feed_lines.specs.IdTexts.{id_texts}
use Rattle.ojp_feed_lines.proofs.OperatorFacts.{change_fault, no_word, not_word, too_few}
use Rattle.ojp_feed_lines.proofs.operator.line_of.Goals as goal

pub returns-in_default-clause-refused : goal.returns-in_default-clause-refused
returns-in_default-clause-refused c =
    λ above. too_few c.args.code (id_texts c.args.stops.now) above c.args.text.now [] c.args.text.now (refl, tt) c.in_default.ensures tt

pub returns-in-Err-clause-refused : goal.returns-in-Err-clause-refused
returns-in-Err-clause-refused c =
    let change : c.in-Some.word.now ≡ codes "change" = search rules in
    λ above.
    change_fault c.args.code (id_texts c.args.stops.now) above c.args.text.now c.in-Some.rest.now c.in-Err.reason
    (subst (λ (w : Text). IsSpelled c.args.text.now (w ∷ []) c.in-Some.rest.now) change c.in-Some.ensures) c.in-Err.ensures.refused

pub returns-else-eq-3-clause-refused : goal.returns-else-eq-3-clause-refused
returns-else-eq-3-clause-refused c =
    let exchange : c.in-Some.word.now ≢ codes "exchange" = not_word _ _ _ _ c.eq.ensures c.if-eq.false c.as_slice.ensures in
    let neighbour : c.in-Some.word.now ≢ codes "neighbour" = not_word _ _ _ _ c.eq-else-eq.ensures c.if-eq-2.false c.as_slice-else-eq.ensures in
    let change : c.in-Some.word.now ≢ codes "change" = not_word _ _ _ _ c.eq-else-eq-2.ensures c.if-eq-3.false c.as_slice-else-eq-2.ensures in
    λ above. no_word c.args.code (id_texts c.args.stops.now) above c.args.text.now c.in-Some.word.now c.in-Some.rest.now c.in-Some.ensures (exchange, neighbour, change)
