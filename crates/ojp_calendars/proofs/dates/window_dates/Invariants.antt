use Rattle.std.proofs.Common.{◌≡◌, ℕ, ◌≤◌, ◌<◌, ◌⊎◌}
use Rattle.std.specs.Prelude.{All}
use Rattle.ojp_zones.specs.Noons.{IsRule}
use Rattle.ojp_calendars.specs.Rules.{HasDates, IsChange}
use Rattle.ojp_calendars.proofs.dates.window_dates.Given as goal

abbrev pub invariant-loop-day : goal.invariant-loop-day
invariant-loop-day l = record {
  well : All IsRule l.dates.items;
  has : (d : ℕ) → l.window.first ≤ d → d < l.day → (d ≡ l.window.first) ⊎ IsChange l.window.table.now d → HasDates l.dates.items d;
}
