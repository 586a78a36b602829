use Rattle.std.proofs.Common.{ℕ, arith, subst}
use Rattle.ojp_calendars.specs.Rules.{HasDates}
use Rattle.ojp_calendars.proofs.RuleFacts.{has_more}
use Rattle.ojp_calendars.proofs.dates.window_dates.Goals as goal

pub loop-day-init : goal.loop-day-init
loop-day-init c = record {
  well = c.in_ok-add_day.ensures.well;
  has = λ d low high mark. subst (λ (x : ℕ). HasDates c.add_day.new.dates.items x) (omega (arith, low, high)) c.in_ok-add_day.ensures.added;
}

pub loop-day-preserved : goal.loop-day-preserved
loop-day-preserved c = record {
  well = c.in_ok-add_change.ensures.well;
  has = has_more c.args.window.now.table.now c.args.window.now.first c.args.window.now.last c.loop-day.dates.items c.add_change.new.dates.items c.loop-day.day (omega arith)
      c.in_ok-add_change.ensures.kept c.in_ok-add_change.ensures.added c.loop-day.invariant.has;
}

pub returns-clause-all : goal.returns-clause-all
returns-clause-all c day mark = c.loop-day.invariant.has day mark.0 (omega (arith, mark.1)) mark.2
