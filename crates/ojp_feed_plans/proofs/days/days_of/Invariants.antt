use Rattle.std.proofs.Common.{◌≡◌, ℕ, ◌+◌, ◌-◌, ◌<◌, ◌≤◌, false, length, get_or, take, max}
use Rattle.std.specs.List.{fold}
use Rattle.ojp_feed_plans.specs.Days.{excepted, runs_weekly}
use Rattle.ojp_feed_plans.proofs.days.days_of.Given as goal

abbrev pub invariant-loop-day : goal.invariant-loop-day
invariant-loop-day l = record {
  long : length l.days.items ≡ l.day - l.first;
  top : l.day ≤ max l.first (l.last + 1);
  each : (k : ℕ) → k < length l.days.items → get_or l.days.items k false ≡ runs_weekly l.service.weekly (l.first + k);
}

abbrev pub invariant-loop-exception : goal.invariant-loop-exception
invariant-loop-exception l = record {
  long : length l.days.items ≡ (l.last + 1) - l.first;
  each : (k : ℕ) → k < length l.days.items → get_or l.days.items k false ≡ fold (excepted (l.first + k)) (runs_weekly l.service.weekly (l.first + k)) (take l.exception-index l.service.exceptions.items);
}
