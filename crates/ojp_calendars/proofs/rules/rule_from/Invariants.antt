use Rattle.std.proofs.Common.{ℕ, ◌<◌}
use Rattle.std.specs.Prelude.{slice_index_or}
use Rattle.ojp_zones.specs.declared.zone.DateRule.{DateRule}
use Rattle.ojp_calendars.specs.Noons.{Fits}
use Rattle.ojp_calendars.specs.Texts.{rule_text}
use Rattle.ojp_calendars.proofs.rules.rule_from.Given as goal

abbrev pub invariant-loop-to : goal.invariant-loop-to
invariant-loop-to l =
    (k : ℕ) (d : DateRule) → k < l.to-index → ¬ Fits l.window.table.now l.window.first l.window.last (rule_text l.offsets.east l.offsets.second l.from (slice_index_or l.dates k d))
