-- The lines of the journeys of a region lead to what they declare.
use Rattle.std.proofs.Common.{◌≡◌, inl, inr, ℕ, zero, suc, ◌+◌, ◌*◌, ◌<◌, ◌≤◌, List, [], ◌∷◌, length, refl, sym, ◌∙◌, ap, subst, arith}
use Rattle.std.specs.Prelude.{Option, Some, None, nat_lt, ◌==◌}
use Rattle.std.specs.List.{flat_map}
use Rattle.std.proofs.lemmas.List.Sums.{sum_by-cons}
use Rattle.std.proofs.lemmas.Bool.{cases_Bool, eqb-true, eqb-false, ltb-true, ltb-false}
use Rattle.ojp_values.specs.Lists.{Among, Each}
use Rattle.ojp_values.specs.Texts.{Text, is_stop_ref, same}
use Rattle.ojp_values.proofs.ListFacts.{among_append_left, among_list_any, each_at}
use Rattle.ojp_zones.specs.declared.zone.Zone.{Zone}
use Rattle.ojp_timetable.specs.Checks.{is_stop_elsewhere}
use Rattle.ojp_timetable.specs.Runs.{AreWhole, IsOffset, NoneFalls, calls_of}
use Rattle.ojp_timetable.specs.Tables.{Journey, Place}
use Rattle.ojp_timetable.specs.declared.calls.Call.{Call}
use Rattle.ojp_timetable.specs.declared.file.lines.Open.TheVariants.{Nothing}
use Rattle.ojp_timetable.proofs.TextFacts.{is_same}
use Rattle.ojp_texts.specs.Spelled.{IsNamed, journey_lines}
use Rattle.ojp_texts.proofs.JourneyRows.{IsSpelledCall, IsSpelledJourney, takes_journeys}
use Rattle.ojp_texts.proofs.PlaceRows.{declares, no_stranger}
use Rattle.ojp_texts.proofs.Steps.{Takes}
use Rattle.ojp_network.specs.Draws.{below, draw, state_after}
use Rattle.ojp_network.specs.Regions.{arrives_behind, calls, departs_at, first_call, journey, journeys, last_call, middle_call, own_place, own_places, region_code, stop_at}
use Rattle.ojp_network.proofs.StopFacts.{higher_at, lower_at, own_at}
use Rattle.ojp_network_laws.specs.Laws.{all_places, all_points, daily}
use Rattle.ojp_network_laws.proofs.Names.{journey_is_label, journey_same, line_is_label}
use Rattle.ojp_network_laws.proofs.Own.{among_below, each_below, length-below, own_below}
use Rattle.ojp_network_laws.proofs.PlaceRows.{higher_in_all, higher_place, lower_in_all, lower_place}
use Rattle.ojp_network_laws.proofs.Places.{places_known}

-- ---- the stop of a call

-- one of the places is at the stop
abbrev StandsIn : ℕ → ℕ → Text → Type 0
StandsIn z region stop = (place : Place) × Among place (all_places z region) × (place.stop ≡ stop)

stop_stands : (z region k : ℕ) → k < 32 → StandsIn z region (stop_at region k)
stop_stands z region k small = elim (cases_Bool (nat_lt k 30)) [
  | inl e ↦
      let low = ltb-true k 30 e in (
        own_place z region k,
        among_append_left (own_place z region k) (own_places z region) (lower_place z region ∷ higher_place z region ∷ []) (among_below (own_place z region) 30 k low),
        sym (own_at region k low),
      )
  | inr e ↦ shared_stands (ltb-false k 30 e)
]
  where
    shared_stands : 30 ≤ k → StandsIn z region (stop_at region k)
    shared_stands low = elim (cases_Bool (k == 30)) [
      | inl e ↦ (lower_place z region, lower_in_all z region, sym (lower_at region k (eqb-true k 30 e)))
      | inr e ↦ (higher_place z region, higher_in_all z region, sym (higher_at region k low (eqb-false k 30 e)))
    ]

call_known : (z region k : ℕ) (arrives departs : Option ℕ) → k < 32 → IsOffset arrives → IsOffset departs
    → IsSpelledCall (region_code region) (all_places z region) (record { stop = stop_at region k; arrives = arrives; departs = departs })
call_known z region k arrives departs small comes leaves =
    let at = stop_stands z region k small in
    let named = each_at (IsNamed (region_code region)) at.0 (all_places z region) (places_known z region) at.1 in
    record {
      ref = ap is_stop_ref (sym at.2) ∙ named.0;
      own = ap (is_stop_elsewhere (region_code region)) (sym at.2) ∙ no_stranger (region_code region) at.0 named.2;
      stands = among_list_any (λ (p : Place). same (stop_at region k) p.stop) at.0 (all_places z region) at.1 (is_same (stop_at region k) at.0.stop (sym at.2));
      arrives = comes;
      departs = leaves;
    }

-- ---- the times of a journey

pub departs_low : (z k : ℕ) → departs_at z k ≤ 86_340 + 1320 * k
unfolding departs_at
departs_low z zero = omega arith
departs_low z (suc k) = omega (arith, departs_low z k)

departs_later : (z k : ℕ) → arrives_behind z k ≤ departs_at z (suc k)
unfolding departs_at
departs_later z k = omega arith

arrives_later : (z k : ℕ) → departs_at z k ≤ arrives_behind z k
arrives_later z k = omega arith

-- the six calls, written out
abbrev pub six_calls : ℕ → ℕ → List Call
six_calls z region =
    first_call z region ∷ middle_call z region 0 ∷ middle_call z region 1 ∷ middle_call z region 2 ∷ middle_call z region 3 ∷ last_call z region ∷ []

pub calls_are : (z region : ℕ) → calls z region ≡ six_calls z region
unfolding below
calls_are z region = refl

whole : (z region : ℕ) → AreWhole (six_calls z region)
whole z region = (refl, refl, (refl, refl, (refl, refl, (refl, refl, (refl, refl, (refl, refl))))))

none_falls : (z region : ℕ) → NoneFalls 0 (six_calls z region)
none_falls z region = (
  tt,
  omega arith,
  (
    arrives_later z 0,
    departs_later z 0,
    (arrives_later z 1, departs_later z 1, (arrives_later z 2, departs_later z 2, (arrives_later z 3, departs_later z 3, (arrives_later z 4, tt, tt)))),
  ),
)

pub draw_small : (z k : ℕ) → draw z k 32 < 32
draw_small z k = omega arith

middle_known : (z y region k : ℕ) → k ≤ 3 → IsSpelledCall (region_code region) (all_places z region) (middle_call y region k)
middle_known z y region k few =
    call_known z region (draw y (3 * k + 3) 32) (Some (arrives_behind y k)) (Some (departs_at y (k + 1))) (draw_small y (3 * k + 3)) (omega (arith, few, departs_low y k))
    (omega (arith, few, departs_low y (k + 1)))

calls_known : (z y region : ℕ) → Each (IsSpelledCall (region_code region) (all_places z region)) (six_calls y region)
calls_known z y region = (
  call_known z region (draw y 1 32) None (Some (departs_at y 0)) (draw_small y 1) tt (omega (arith, departs_low y 0)),
  (
    middle_known z y region 0 (omega arith),
    (
      middle_known z y region 1 (omega arith),
      (
        middle_known z y region 2 (omega arith),
        (
          middle_known z y region 3 (omega arith),
          (call_known z region (draw y 15 32) (Some (arrives_behind y 4)) None (draw_small y 15) (omega (arith, departs_low y 4)) tt, tt),
        ),
      ),
    ),
  ),
)

journey_known : (z y region k : ℕ) → IsSpelledJourney (region_code region) (all_places z region) (daily ∷ []) (journey y region k)
journey_known z y region k =
    let w = state_after y (16 * k) in
    record {
      labels = (journey_is_label (k + 1), line_is_label (k + 1));
      service = omega arith;
      whole = subst AreWhole (sym (calls_are w region)) (whole w region);
      times = subst (NoneFalls 0) (sym (calls_are w region)) (none_falls w region);
      calls = subst (Each (IsSpelledCall (region_code region) (all_places z region))) (sym (calls_are w region)) (calls_known z w region);
    }

-- ---- how many calls

count_six : (js : List Journey) → Each (λ (j : Journey). length j.calls ≡ 6) js → calls_of js ≡ 6 * length js
count_six [] h = refl
count_six (j ∷ js) h = sum_by-cons (λ (i : Journey). length i.calls) j js ∙ omega (arith, h.0, count_six js h.1)

calls_few : (y region : ℕ) → calls_of (journeys y region) ≤ 100000
calls_few y region =
    let counted = count_six (journeys y region) (each_below (λ (j : Journey). length j.calls ≡ 6) (journey y region) 120 (λ k small. ap (λ (cs : List Call). length cs) (calls_are (state_after y (16 * k)) region))) in
    omega (arith, counted, length-below (journey y region) 120)

pub journeys_taken : (zone : Text) (is : Zone) (z region : ℕ)
    → Takes zone (declares (region_code region) is (all_places z region) (all_points z region) (daily ∷ []) []) Nothing (flat_map (journey_lines (daily ∷ [])) (journeys (state_after z 34) region))
    (declares (region_code region) is (all_places z region) (all_points z region) (daily ∷ []) (journeys (state_after z 34) region)) Nothing
journeys_taken zone is z region =
    let y = state_after z 34 in
    takes_journeys zone (region_code region) is (all_places z region) (all_points z region) (daily ∷ []) (journeys y region) [] (journeys y region) refl
    (each_below (IsSpelledJourney (region_code region) (all_places z region) (daily ∷ [])) (journey y region) 120 (λ k small. journey_known z y region k))
    (own_below (λ (j : Journey). j.id) (journey y region) 120 (λ i j low high e. let same = journey_same (i + 1) (j + 1) (omega (arith, low)) (omega (arith, high)) e in omega (arith, same)))
    (refl, tt) (tt, tt) (omega (arith, length-below (journey y region) 120)) (calls_few y region)
