use Rattle.std.proofs.Common.{subst}
use Rattle.ojp_zones.specs.Parts.{Text}
use Rattle.ojp_calendars.specs.Noons.{Fits}
use Rattle.ojp_calendars.specs.Rules.{NoChangeFits, NoMadeFits}
use Rattle.ojp_calendars.proofs.RuleFacts.{none_map}
use Rattle.ojp_calendars.proofs.rules.made_zone.Goals as goal

pub returns-in-Ok-None-clause-none : goal.returns-in-Ok-None-clause-none
returns-in-Ok-None-clause-none c =
    let w = c.args.window.now in
    let unfit = subst (λ (text : Text). ¬ Fits w.table.now w.first w.last text) c.first_offset.ensures (rw c.in-Ok-None.field-0-is at c.in-Ok-None.ensures.none) in
    none_map c.changing_rule.result (NoChangeFits w.table.now w.first w.last) (NoMadeFits w.table.now w.first w.last)
    (λ none. record { offset_unfit = unfit; rules_unfit = none })
    c.changing_rule.ensures.none
