use Rattle.std.proofs.Common.{◌≡◌, drop, find, not}
use Rattle.ojp_timetable.specs.Tables.{has}
use Rattle.ojp_region.proofs.trips.first_unknown.Given as goal

abbrev pub invariant-stops : goal.invariant-stops
invariant-stops l = find (λ stop. not (has l.table stop)) l.stops ≡ find (λ stop. not (has l.table stop)) (drop l.stop-index l.stops)
