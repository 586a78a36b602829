use Rattle.std.proofs.Common.{◌≡◌, sym, ◌∙◌}
use Rattle.ojp_labels.proofs.StartingFacts.{point_state, own_state}
use Rattle.ojp_labels.proofs.states.first_state.Goals as goal

pub returns-then-is_declared : goal.returns-then-is_declared
returns-then-is_declared c = point_state c.args.book.now c.args.stop _ (sym c.region.ensures ∙ c.in-None.is) (sym c.is_declared.ensures ∙ c.if-is_declared.true)

pub returns-else-is_declared : goal.returns-else-is_declared
returns-else-is_declared c = point_state c.args.book.now c.args.stop _ (sym c.region.ensures ∙ c.in-None.is) (sym c.is_declared.ensures ∙ c.if-is_declared.false)

pub returns-then-has_region : goal.returns-then-has_region
returns-then-has_region c = own_state c.args.book.now c.args.stop c.in-Some.code _ (sym c.region.ensures ∙ c.in-Some.is) (sym c.has_region.ensures ∙ c.if-has_region.true)

pub returns-else-has_region : goal.returns-else-has_region
returns-else-has_region c = own_state c.args.book.now c.args.stop c.in-Some.code _ (sym c.region.ensures ∙ c.in-Some.is) (sym c.has_region.ensures ∙ c.if-has_region.false)
