use Rattle.std.proofs.Common.{ℕ, ◌<◌}
use Rattle.std.specs.Prelude.{slice_index_or}
use Rattle.ojp_zones.specs.declared.zone.DateRule.{DateRule}
use Rattle.ojp_calendars.specs.Rules.{NoRuleFits}
use Rattle.ojp_calendars.proofs.rules.rule_of.Given as goal

abbrev pub invariant-loop-from : goal.invariant-loop-from
invariant-loop-from l =
    (k : ℕ) (d : DateRule) → k < l.from-index → NoRuleFits l.window.table.now l.window.first l.window.last l.offsets.east l.offsets.second (slice_index_or l.dates k d) l.dates
