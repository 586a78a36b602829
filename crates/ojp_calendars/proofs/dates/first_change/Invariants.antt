use Rattle.std.proofs.Common.{◌≡◌, ℕ, ◌≤◌, ◌<◌}
use Rattle.ojp_calendars.specs.Noons.{east_at}
use Rattle.ojp_calendars.proofs.dates.first_change.Given as goal

abbrev pub invariant-loop-day : goal.invariant-loop-day
invariant-loop-day l =
    (d : ℕ) → l.window.first ≤ d → d < l.day → east_at l.window.table.now d ≡ east_at l.window.table.now l.window.first
