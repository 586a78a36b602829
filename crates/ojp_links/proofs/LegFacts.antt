-- Legs that go on, one after another.
use Rattle.std.proofs.Common.{◌≡◌, ℕ, List, [], ◌∷◌, sym, subst}
use Rattle.ojp_values.specs.Texts.{Text}
use Rattle.ojp_values.specs.declared.trips.Leg.{Leg}
use Rattle.ojp_links.specs.Fits.{FitsNext}
use Rattle.ojp_timetable.specs.Journeys.{IsAt, alighted}
use Rattle.ojp_links.specs.Legs.{LeadsOn}

-- the legs lead from the first one just where those left do from the last one
pub record LeadsFrom (region : Text) (first : Leg) (legs : List Leg) (last : Leg) (left : List Leg) : Type 0 where
  pub on : (stop : Text) (end : ℕ) → LeadsOn region last left stop end → LeadsOn region first legs stop end
  pub back : (stop : Text) (end : ℕ) → LeadsOn region first legs stop end → LeadsOn region last left stop end

pub leads_first : (region : Text) (first : Leg) (legs : List Leg) → LeadsFrom region first legs first legs
leads_first region first legs = record { on = λ stop end h. h; back = λ stop end h. h }

pub leads_next : (region : Text) (first : Leg) (legs : List Leg) (last leg : Leg) (left more : List Leg) → left ≡ leg ∷ more → FitsNext region (alighted last) leg
    → LeadsFrom region first legs last left → LeadsFrom region first legs leg more
leads_next region first legs last leg left more e fits so = record {
  on = λ stop end h. so.on stop end (subst (λ (ls : List Leg). LeadsOn region last ls stop end) (sym e) ((fits, h.0), h.1));
  back = λ stop end all. let here = subst (λ (ls : List Leg). LeadsOn region last ls stop end) e (so.back stop end all) in (here.0.1, here.1);
}

pub leads_nowhere : (region : Text) (first : Leg) (legs : List Leg) (last leg : Leg) (left more : List Leg) (stop : Text) (end : ℕ) → left ≡ leg ∷ more → (FitsNext region (alighted last) leg → ⊥)
    → LeadsFrom region first legs last left → LeadsOn region first legs stop end → ⊥
leads_nowhere region first legs last leg left more stop end e not so all =
    let here = subst (λ (ls : List Leg). LeadsOn region last ls stop end) e (so.back stop end all) in
    not here.0.0

pub leads_whole : (region : Text) (first : Leg) (legs : List Leg) (last : Leg) (left : List Leg) (stop : Text) (end : ℕ) → left ≡ [] → LeadsFrom region first legs last left
    → (IsAt (alighted last) stop end → LeadsOn region first legs stop end) × (LeadsOn region first legs stop end → IsAt (alighted last) stop end)
leads_whole region first legs last left stop end e so = (
  (λ at. so.on stop end (subst (λ (ls : List Leg). LeadsOn region last ls stop end) (sym e) (tt, at))),
  (λ all. (subst (λ (ls : List Leg). LeadsOn region last ls stop end) e (so.back stop end all)).1),
)
