use Rattle.std.proofs.Common.{ℕ, ◌≤◌, ◌<◌, ◌-◌}
use Rattle.std.specs.Prelude.{slice_index}
use Rattle.ojp_values.specs.declared.moments.TheConstants.{FIRST_DAY}
use Rattle.ojp_calendars.specs.Noons.{ShowsNoon}
use Rattle.ojp_calendars.proofs.noons.have_noons.Given as goal

abbrev pub invariant-loop-day : goal.invariant-loop-day
invariant-loop-day l = (d : ℕ) → l.window.first ≤ d → d < l.day → ShowsNoon l.window.table.now d (slice_index l.noons (d - FIRST_DAY))
