use Rattle.std.proofs.Common.{◌≡◌, ◌<◌, ℕ, Some, slice_get}
use Rattle.ojp_timetable.specs.declared.calls.Call.{Call}
use Rattle.ojp_timetable.specs.Legal.{Alights}
use Rattle.ojp_timetable.specs.Views.{calls_at}
use Rattle.ojp_timetable.proofs.rides.alights_behind.Given as goal

abbrev pub invariant-calls : goal.invariant-calls
invariant-calls l = (k : ℕ) (other : Call) → slice_get (calls_at l.table.journeys l.number) k ≡ Some other → l.from < k → k < l.i → Alights l.table l.leg other → ⊥
