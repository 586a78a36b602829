use Rattle.std.proofs.Common.{◌≡◌, ◌+◌, ◌≤◌, ◌++◌, ◌∷◌, [], ℕ, length, sym, ◌∙◌, ap, subst, true}
use Rattle.std.specs.Prelude.{unwrap_or}
use Rattle.ojp_timetable.specs.declared.file.above.TheConstants.{BYTES}
use Rattle.ojp_timetable.specs.Checks.{is_doubled}
use Rattle.ojp_timetable.specs.Contents.{Contents, service_number}
use Rattle.ojp_timetable.specs.Lines.{Above, grown}
use Rattle.ojp_timetable.specs.Said.{is_closed, journey_line}
use Rattle.ojp_timetable.specs.WellContents.{IsWellAbove, Passes}
use Rattle.ojp_timetable.specs.declared.file.lines.Open.TheVariants.{Begun}
use Rattle.ojp_timetable.proofs.WellFacts.{above_keeps}
use Rattle.ojp_timetable.proofs.file.above.Above.take_journey.Goals as goal

pub invariant_of-self-2 : goal.invariant_of-self-2
invariant_of-self-2 c =
    let s = c.self.inside in
    let found = c.in-Ok.found in
    let said = found.said in
    let text = c.args.text.now in
    let v = sym c.self.view_is in
    let above : Above = record { lines = s.lines; bytes = s.bytes; left = s.left; contents = s.draft } in
    let kept = above_keeps above text (journey_line said) c.self.invariant
    (subst (λ (a : Above). 3 ≤ a.lines) v c.requires.below)
    (subst (λ (a : Above). is_closed a.left ≡ true) v c.in-Ok.ensures.stands)
    (subst (λ (a : Above). Passes a.contents a.left (journey_line said)) v c.in-Ok.ensures.passes)
    (subst (λ (a : Above). a.bytes + length text ≤ BYTES) v c.in-Ok.ensures.short) in
    let number : found.service ≡ unwrap_or (service_number s.draft said.service) 0 =
    c.in-Ok.ensures.service ∙ ap (λ (a : Above). unwrap_or (service_number a.contents said.service) 0) v in
    let grows : c.add_journey_of.new.self ≡ grown s.draft (journey_line said) =
    c.in-Ok-add_journey_of.ensures.value
    ∙ ap (λ (n : ℕ). record s.draft { journeys = s.draft.journeys ++ record { id = said.id; line = said.line; service = n; calls = [] } ∷ [] }) number in
    subst (λ (contents : Contents). IsWellAbove (record { lines = s.lines + 1; bytes = s.bytes + length text; left = Begun; contents = contents })) (sym grows) kept

pub add_journey_of-requires : goal.add_journey_of-requires
unfolding is_doubled
add_journey_of-requires c =
    (subst (λ (a : Above). Passes a.contents a.left (journey_line c.in-Ok.found.said)) (sym c.self.view_is) c.in-Ok.ensures.passes).new
