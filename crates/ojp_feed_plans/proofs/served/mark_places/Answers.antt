use Rattle.std.proofs.Common.{◌∙◌, eqb, arith}
use Rattle.ojp_feed_trips.specs.declared.halts.Halt.{Halt}
use Rattle.ojp_feed_plans.specs.Served.{is_marked}
use Rattle.ojp_feed_plans.proofs.ServedFacts.{any_marked}
use Rattle.ojp_feed_plans.proofs.served.mark_places.Goals as goal

pub loop-halt-preserved : goal.loop-halt-preserved
loop-halt-preserved c = record {
  long = c.mark.ensures.long ∙ c.loop-halt.invariant.long;
  each = λ place within.
      any_marked (λ (halt : Halt). eqb halt.place place) c.args.halts.now c.loop-halt.halt-index _ (is_marked c.args.marks.now.items place) (is_marked c.loop-halt.marks.items place) (is_marked c.mark.new.marks.items place)
      c.loop-halt-test.true (c.loop-halt.invariant.each place within) (c.mark.ensures.each place (omega (arith, within, c.loop-halt.invariant.long)));
}
