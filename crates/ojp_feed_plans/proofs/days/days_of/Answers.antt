use Rattle.std.proofs.Common.{◌≤◌, length, List, subst}
use Rattle.ojp_feed_rows.specs.declared.services.Exception.{Exception}
use Rattle.ojp_feed_plans.proofs.DayFacts.{days_are}
use Rattle.ojp_feed_plans.proofs.days.days_of.Goals as goal

pub returns : goal.returns
returns c =
    let i = c.loop-exception.exception-index in
    let behind = subst (λ (xs : List Exception). length xs ≤ i) c.as_slice-exception-items.ensures.value c.loop-exception-test.false in
    days_are c.args.service.now c.args.first c.args.last i c.loop-exception.days.items behind c.loop-exception.invariant.long c.loop-exception.invariant.each
