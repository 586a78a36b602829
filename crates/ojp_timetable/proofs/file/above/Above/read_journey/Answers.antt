use Rattle.std.proofs.Common.{◌≡◌, ◌≤◌, ℕ, refl, sym, ◌∙◌, ap, subst}
use Rattle.std.specs.Prelude.{Option, Some, None, is_some, unwrap_or}
use Rattle.ojp_timetable.specs.Checks.{is_long, read_line}
use Rattle.ojp_timetable.specs.Contents.{service_number}
use Rattle.ojp_timetable.specs.Lines.{Above}
use Rattle.ojp_timetable.specs.Said.{entry_said, journey_line}
use Rattle.ojp_timetable.specs.WellContents.{Passes}
use Rattle.ojp_timetable.proofs.CallFacts.{call_fails, line_checked}
use Rattle.ojp_timetable.proofs.JourneyFacts.{failed_numbered, service_known}
use Rattle.ojp_timetable.proofs.file.above.Above.read_journey.Goals as goal

pub returns-in_err-said-clause-value : goal.returns-in_err-said-clause-value
returns-in_err-said-clause-value c =
    let s = c.self.inside in
    let text = c.args.text.now in
    let above : Above = record { lines = s.lines; bytes = s.bytes; left = s.left; contents = s.draft } in
    let fails = call_fails above text _ (subst (λ (a : Above). 3 ≤ a.lines) (sym c.self.view_is) c.requires.below)
    (λ region. c.in_err-said.ensures.value region ∙ ap (entry_said region s.left) (sym c.requires.journey)) in
    failed_numbered c.from_residual.result _ c.from_residual.ensures.1 ∙ (fails ∙ ap (λ (a : Above). read_line a text) c.self.view_is)

pub first_failing_of_journey-requires : goal.first_failing_of_journey-requires
first_failing_of_journey-requires c =
    let s = c.self.inside in
    let said = c.in_ok-said.said in
    c.is_some-is_known.ensures ∙ (ap (λ (found : Option ℕ). is_some found) c.service_number-service.ensures ∙ service_known s.draft said.service)

pub returns-in-None-clause-value : goal.returns-in-None-clause-value
returns-in-None-clause-value c =
    let s = c.self.inside in
    let text = c.args.text.now in
    let above : Above = record { lines = s.lines; bytes = s.bytes; left = s.left; contents = s.draft } in
    line_checked above text (journey_line c.in_ok-said.said) c.is_long-is_long.result None (subst (λ (a : Above). 3 ≤ a.lines) (sym c.self.view_is) c.requires.below)
    (λ region. c.in_ok-said.ensures.value region ∙ ap (entry_said region s.left) (sym c.requires.journey))
    (subst (λ (a : Above). c.is_long-is_long.result ≡ is_long a text) (sym c.self.view_is) c.is_long-is_long.ensures.value) (c.in-None.ensures.value s.left)
    ∙ ap (λ (a : Above). read_line a text) c.self.view_is

pub returns-in-Some-clause-value : goal.returns-in-Some-clause-value
returns-in-Some-clause-value c =
    let s = c.self.inside in
    let text = c.args.text.now in
    let above : Above = record { lines = s.lines; bytes = s.bytes; left = s.left; contents = s.draft } in
    line_checked above text (journey_line c.in_ok-said.said) c.is_long-is_long.result (Some c.in-Some.reason) (subst (λ (a : Above). 3 ≤ a.lines) (sym c.self.view_is) c.requires.below)
    (λ region. c.in_ok-said.ensures.value region ∙ ap (entry_said region s.left) (sym c.requires.journey))
    (subst (λ (a : Above). c.is_long-is_long.result ≡ is_long a text) (sym c.self.view_is) c.is_long-is_long.ensures.value) (c.in-Some.ensures.value s.left)
    ∙ ap (λ (a : Above). read_line a text) c.self.view_is

pub returns-in-None-clause-passes : goal.returns-in-None-clause-passes
returns-in-None-clause-passes c =
    let s = c.self.inside in
    subst (λ (a : Above). Passes a.contents a.left (journey_line c.in_ok-said.said)) c.self.view_is (c.in-None.ensures.passes s.left refl)

pub returns-in-None-clause-service : goal.returns-in-None-clause-service
returns-in-None-clause-service c =
    let said = c.in_ok-said.said in
    c.unwrap_or.ensures
    ∙ (ap (λ (found : Option ℕ). unwrap_or found 0) c.service_number-service.ensures
    ∙ ap (λ (a : Above). unwrap_or (service_number a.contents said.service) 0) c.self.view_is)
