use Rattle.std.proofs.Common.{◌≡◌, ℕ, ◌<◌, ◌||◌, length, take}
use Rattle.ojp_feed_plans.specs.Served.{halts_at, is_marked}
use Rattle.ojp_feed_plans.proofs.served.mark_places.Given as goal

abbrev pub invariant-loop-halt : goal.invariant-loop-halt
invariant-loop-halt l = record {
  long : length l.marks.items ≡ length l.fn.marks.items;
  each : (place : ℕ) → place < length l.fn.marks.items → is_marked l.marks.items place ≡ (is_marked l.fn.marks.items place || halts_at (take l.halt-index l.halts) place);
}
