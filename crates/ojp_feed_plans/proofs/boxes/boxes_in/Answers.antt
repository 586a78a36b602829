use Rattle.std.proofs.Common.{◌≡◌, ℕ, Bool, List, [], inl, inr, sym, subst, ◌∙◌, arith}
use Rattle.std.proofs.lemmas.Bool.{cases_lt, false≢true}
use Rattle.ojp_calendars.specs.Days.{AreExact}
use Rattle.ojp_calendars.specs.declared.day_box.DayBox.{DayBox}
use Rattle.ojp_feed_plans.specs.Days.{AreBoxes, AreDays, first_of, last_of}
use Rattle.ojp_feed_plans.proofs.DayFacts.{boxes_are, no_boxes}
use Rattle.ojp_feed_plans.proofs.boxes.boxes_in.Goals as goal

pub returns-in_default : goal.returns-in_default
returns-in_default c =
    let service = c.args.service.now in
    let window = c.args.window in
    let none : AreBoxes service window [] = elim (cases_lt 84002 (first_of window)) [
      | inl h ↦ no_boxes service window h
      | inr h ↦ absurd (false≢true (c.in_default.ensures.exact.1 (omega (arith, c.max.ensures), omega (arith, c.max.ensures))))
    ] in
    subst (λ (bs : List DayBox). AreBoxes service window bs) (sym c.new-in_default.ensures.items) none

pub returns-in-Ok-boxes : goal.returns-in-Ok-boxes
returns-in-Ok-boxes c =
    let service = c.args.service.now in
    let window = c.args.window in
    let days = c.in_ok-days.days.items in
    let found = c.in-Ok-boxes.found.items in
    let first_is : c.in-Ok.first ≡ first_of window = c.in-Ok.ensures.value ∙ c.max.ensures in
    let are : AreDays service (first_of window) (last_of window) days =
    subst (λ (n : ℕ). AreDays service n (last_of window) days) (c.number.ensures.value ∙ first_is)
    (subst (λ (n : ℕ). AreDays service c.number.result n days) c.min.ensures c.in_ok-days.ensures) in
    let exact : AreExact (first_of window) days found =
    subst (λ (n : ℕ). AreExact n days found) first_is
    (subst (λ (xs : List Bool). AreExact c.in-Ok.first xs found) c.as_slice.ensures.value c.in-Ok-boxes.ensures.exact) in
    boxes_are service window days found are exact
