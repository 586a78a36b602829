use Rattle.std.proofs.Common.{ℕ, subst}
use Rattle.std.specs.Prelude.{IfNone, IfOk}
use Rattle.ojp_calendars.specs.Noons.{Fits}
use Rattle.ojp_calendars.specs.Rules.{NoMadeFits, NoneFits}
use Rattle.ojp_calendars.proofs.RuleFacts.{none_map}
use Rattle.ojp_calendars.proofs.rules.zone_rule.Goals as goal

pub returns-in-Ok-None-clause-none : goal.returns-in-Ok-None-clause-none
returns-in-Ok-None-clause-none c =
    let table = c.args.table.now in
    let line = c.args.line.now in
    let first = c.number.result in
    let last = c.number-2.result in
    let r = c.made_zone.result in
    let unfit : ¬ Fits table first last line = rw c.in-Ok-None.field-0-is at c.in-Ok-None.ensures.none in
    let none : IfOk r (λ found. IfNone found (NoneFits table line first last)) =
    none_map r (NoMadeFits table first last) (NoneFits table line first last) (λ made. record { line_unfit = unfit; made_unfit = made }) c.made_zone.ensures.none in
    subst (λ (x : ℕ). IfOk r (λ found. IfNone found (NoneFits table line x c.args.last))) c.number.ensures.value
    (subst (λ (y : ℕ). IfOk r (λ found. IfNone found (NoneFits table line first y))) c.number-2.ensures.value none)
