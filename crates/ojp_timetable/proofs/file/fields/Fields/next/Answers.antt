use Rattle.std.proofs.Common.{sym, ◌∙◌, ap, ◌∷◌, List, ℕ, take, Bor}
use Rattle.std.specs.Prelude.{Option, option_map}
use Rattle.ojp_zones.proofs.PartsFacts.{parts_at, parts_end}
use Rattle.ojp_timetable.specs.Fields.{fields_left, fields_of}
use Rattle.ojp_timetable.proofs.file.fields.Fields.next.Goals as goal

pub returns-in-Some : goal.returns-in-Some
returns-in-Some c =
    let text = c.in_ok-text.text.now in
    let e = parts_at 32 text c.in-Some.end (sym c.first_space.ensures ∙ c.in-Some.is) in
    sym c.self.view_is ∙ (ap (λ (r : Option (Bor (List ℕ))). fields_left (option_map (λ (t : Bor (List ℕ)). t.now) r)) c.in_ok-text.was
    ∙ (e ∙ ap (λ (rest : List ℕ). take c.in-Some.end text ∷ fields_of rest) (sym c.split_at.ensures.back)))

pub returns-in-None : goal.returns-in-None
returns-in-None c =
    let text = c.in_ok-text.text.now in
    let e = parts_end 32 text (sym c.first_space.ensures ∙ c.in-None.is) in
    sym c.self.view_is ∙ (ap (λ (r : Option (Bor (List ℕ))). fields_left (option_map (λ (t : Bor (List ℕ)). t.now) r)) c.in_ok-text.was ∙ e)
