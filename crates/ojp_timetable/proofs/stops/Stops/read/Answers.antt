use Rattle.std.proofs.Common.{◌≡◌, ◌∙◌, refl, sym, subst}
use Rattle.std.specs.Prelude.{IsTrue}
use Rattle.ojp_values.specs.Texts.{Text, is_stop_ref}
use Rattle.ojp_timetable.proofs.StopFacts.{number-low, number-stop}
use Rattle.ojp_timetable.proofs.stops.Stops.read.Goals as goal

pub stop_at-stop-requires : goal.stop_at-stop-requires
stop_at-stop-requires c = number-low c.args.self.now.places c.args.text.now c.in-Some.number (sym c.number_of.ensures.first ∙ c.in-Some.is)

pub returns-in-Some-clause-exact : goal.returns-in-Some-clause-exact
returns-in-Some-clause-exact c =
    let is : c.stop_at-stop.result ≡ c.args.text.now =
    c.stop_at-stop.ensures ∙ number-stop c.args.self.now.places c.args.text.now c.in-Some.number (sym c.number_of.ensures.first ∙ c.in-Some.is) in
    ((λ _. subst (λ (text : Text). IsTrue (is_stop_ref text)) is c.text.ensures.well), (λ _. refl))
