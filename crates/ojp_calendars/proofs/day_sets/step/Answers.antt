use Rattle.std.proofs.Common.{◌≡◌, ◌+◌, ◌∙◌, Bool, false, List, [], ◌∷◌, ◌++◌, sym, subst}
use Rattle.std.proofs.lemmas.List.{get_or_default}
use Rattle.ojp_calendars.specs.Marks.{Reaches, Swept, marked}
use Rattle.ojp_calendars.specs.declared.day_box.DayBox.{DayBox}
use Rattle.ojp_calendars.proofs.BoxFacts.{box_of, swept_box, swept_off}
use Rattle.ojp_calendars.proofs.day_sets.step.Goals as goal

pub returns-then-not-index : goal.returns-then-not-index
returns-then-not-index c marks h =
    let off : marked c.args.left.now.items c.args.index ≡ false =
    get_or_default c.args.left.now.items c.args.index false c.index.result.now c.requires.inside ∙ (sym c.index.ensures ∙ c.if-not-index.true) in
    swept_off c.args.first c.args.left.now.items c.args.boxes.now.items c.args.index marks off h

pub returns : goal.returns
returns c marks h =
    let first = c.args.first in
    let index = c.args.index in
    let end = c.reach-end.result in
    let last = c.clear-last.result in
    let weekdays = c.opened-weekdays.result in
    let old = c.args.left.now.items in
    let new = c.clear-last.new.left.items in
    let boxes = c.args.boxes.now.items in
    let reach = subst (λ (xs : List Bool). Reaches first xs weekdays index end) c.deref-2.ensures.value c.reach-end.ensures in
    let pushed : c.push.new.self.items ≡ boxes ++ box_of first index last weekdays ∷ [] = cc (c.in_ok-push.ensures.items, c.day_at.ensures, c.day_at-2.ensures) in
    subst (λ (bs : List DayBox). Swept first marks new bs (index + 1)) (sym pushed)
    (swept_box first old new weekdays index end last boxes marks c.opened-weekdays.ensures reach c.clear-last.ensures h)
