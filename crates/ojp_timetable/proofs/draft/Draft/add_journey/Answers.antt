use Rattle.std.proofs.Common.{◌≡◌, ◌∙◌, ◌++◌, ◌∷◌, [], ap, subst, ℕ}
use Rattle.std.specs.Prelude.{OnOk, Option, unwrap_or}
use Rattle.ojp_timetable.specs.Contents.{Contents}
use Rattle.ojp_timetable.proofs.draft.Draft.add_journey.Goals as goal

pub returns-clause-value : goal.returns-clause-value
returns-clause-value c =
    let now : Contents = c.args.self.now in
    subst (λ (n : ℕ). OnOk c.add_journey_of.result (c.add_journey_of.new.self ≡ record now {
      journeys = now.journeys ++ record { id = c.args.id.now; line = c.args.line.now; service = n; calls = [] } ∷ [];
    }))
    (c.unwrap_or-number.ensures ∙ ap (λ (found : Option ℕ). unwrap_or found 0) c.service_number.ensures) c.add_journey_of.ensures.value
