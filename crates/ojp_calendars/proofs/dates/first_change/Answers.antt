use Rattle.std.proofs.Common.{ℕ, arith, sym, ◌∙◌, ap, inl, inr, true≢false}
use Rattle.std.proofs.lemmas.Bool.{cases_eq}
use Rattle.ojp_calendars.specs.Noons.{east_at}
use Rattle.ojp_calendars.proofs.dates.first_change.Goals as goal

pub loop-day-init : goal.loop-day-init
loop-day-init c d low high = ap (λ (x : ℕ). east_at c.args.window.now.table.now x) (omega (arith, low, high))

pub loop-day-preserved : goal.loop-day-preserved
loop-day-preserved c d low high = elim (cases_eq d c.loop-day.day) [
  | inl e ↦ ap (λ (x : ℕ). east_at c.args.window.now.table.now x) e ∙ c.is_same.ensures.0 c.if-not-is_same.false
  | inr other ↦ c.loop-day.invariant d low (omega (arith, high, other))
]

pub returns-then-not-is_same : goal.returns-then-not-is_same
returns-then-not-is_same c = record {
  from = omega arith;
  to = omega arith;
  other = λ e. true≢false (sym (c.is_same.ensures.1 e) ∙ c.if-not-is_same.true);
  before = c.loop-day.invariant;
}

pub returns : goal.returns
returns c d low high = c.loop-day.invariant d low (omega (arith, high))
