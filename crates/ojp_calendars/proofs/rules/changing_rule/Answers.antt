use Rattle.std.proofs.Common.{List, sym, subst}
use Rattle.ojp_zones.specs.declared.zone.DateRule.{DateRule}
use Rattle.ojp_calendars.specs.Rules.{HasMarks, NoChangeFits, NoPairFits}
use Rattle.ojp_calendars.proofs.RuleFacts.{none_change, none_map}
use Rattle.ojp_calendars.proofs.rules.changing_rule.Goals as goal

pub returns-clause-none : goal.returns-clause-none
returns-clause-none c =
    let w = c.args.window.now in
    let offsets = c.offsets_of-offsets.result in
    let dates = c.deref.result.now in
    let has = subst (λ (ds : List DateRule). HasMarks w.table.now w.first w.last ds) (sym c.deref.ensures.value) c.in_ok-dates.ensures.all in
    none_map c.rule_of.result (NoPairFits w.table.now w.first w.last offsets.east offsets.second dates) (NoChangeFits w.table.now w.first w.last)
    (none_change w.table.now w.first w.last dates c.in-Some.change offsets.east offsets.second c.in-Some.ensures has c.offsets_of-offsets.ensures.east c.offsets_of-offsets.ensures.second)
    c.rule_of.ensures.none
