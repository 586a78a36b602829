use Rattle.std.proofs.Common.{ℕ, take}
use Rattle.ojp_values.specs.Lists.{Pairwise}
use Rattle.ojp_values.specs.Texts.{Text}
use Rattle.ojp_timetable.specs.Answers.{TargetAnswered}
use Rattle.ojp_scan.specs.Scans.{IsScanOf}
use Rattle.ojp_region.proofs.trips.results_of.Given as goal

abbrev pub invariant-targets : goal.invariant-targets
invariant-targets l =
    (origin : Text) (start : ℕ) → IsScanOf l.scan l.table origin start
    → Pairwise (TargetAnswered l.table origin start) (take l.target-index l.targets) l.found.items
