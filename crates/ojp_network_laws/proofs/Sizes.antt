-- How long the file of a region is at most.
use Rattle.std.proofs.Common.{◌≡◌, inl, inr, ℕ, ◌+◌, ◌*◌, ◌<◌, ◌≤◌, ◌^◌, List, [], ◌∷◌, ◌++◌, length, length-append, ap, subst, sym, arith}
use Rattle.std.specs.Prelude.{Some, codes, nat_lt, ◌==◌}
use Rattle.std.specs.List.{flat_map}
use Rattle.std.specs.Fmt.{decimal}
use Rattle.std.proofs.lemmas.Bool.{cases_Bool, eqb-false, eqb-true, ltb-false, ltb-true}
use Rattle.std.proofs.lemmas.Fmt.{length-decimal-le}
use Rattle.ojp_values.specs.Lists.{Each}
use Rattle.ojp_values.specs.Texts.{Text}
use Rattle.ojp_values.specs.declared.trips.Neighbour.{Neighbour}
use Rattle.ojp_lines.specs.Lines.{call_text, head_text, journey_text, neighbour_text, place_text, service_text, time_text}
use Rattle.ojp_timetable.specs.Tables.{Journey, Place}
use Rattle.ojp_timetable.specs.declared.calls.Call.{Call}
use Rattle.ojp_network.specs.Draws.{draw, state_after}
use Rattle.ojp_network.specs.Regions.{arrives_behind, calls, departs_at, file, first_call, higher_point, journey, journey_label, journeys, last_call, line_label, lower_point, middle_call, own_place, own_places, point_text, region_code, service_label, shared_neighbour, shared_place, shared_stop, stop_at, text_of_call, text_of_journey, text_of_neighbour, text_of_place, text_of_service}
use Rattle.ojp_network.proofs.StopFacts.{higher_at, lower_at, own_at}
use Rattle.ojp_network_laws.proofs.JourneyRows.{calls_are, departs_low, six_calls}
use Rattle.ojp_network_laws.proofs.Own.{each_below, length-below}
use Rattle.ojp_network_laws.proofs.Places.{minutes_fit}

few_bytes : {X : Type 0} (f : X → Text) (m : ℕ) (xs : List X) → Each (λ x. length (f x) ≤ m) xs → length (flat_map f xs) ≤ length xs * m
few_bytes f m [] h = omega arith
few_bytes f m (x ∷ xs) h = omega (arith, length-append (f x) (flat_map f xs), h.0, few_bytes f m xs h.1)

decimal_short : (n : ℕ) → n < 10 ^ 9 → length (decimal n) ≤ 9
decimal_short n small = length-decimal-le 9 n (omega arith) small (omega (arith, small))

place_size : (word : Text) (place : Place) → length word ≤ 8 → length place.stop ≤ 7 → place.change < 10 ^ 9 → length place.name ≤ 13 → length (text_of_place word place) ≤ 50
unfolding place_text
place_size word place h k l m = let d = decimal_short place.change l in simp length-append (omega (arith, h, k, m, d))

neighbour_size : (stop : Text) (neighbour : Neighbour) → length stop ≤ 7 → length neighbour.code ≤ 3 → neighbour.change < 10 ^ 9 → length (text_of_neighbour stop neighbour) ≤ 50
unfolding neighbour_text
neighbour_size stop neighbour h k l = let d = decimal_short neighbour.change l in simp length-append (omega (arith, h, k, d))

call_size : (call : Call) → length call.stop ≤ 7 → length (time_text call.arrives) ≤ 9 → length (time_text call.departs) ≤ 9 → length (text_of_call call) ≤ 50
unfolding call_text
call_size call h k l = simp length-append (omega (arith, h, k, l))

stop_short : (region k : ℕ) → length (stop_at region k) ≤ 7
stop_short region k = elim (cases_Bool (nat_lt k 30)) [
  | inl e ↦ subst (λ (t : Text). length t ≤ 7) (sym (own_at region k (ltb-true k 30 e))) (omega arith)
  | inr e ↦ shared_short (ltb-false k 30 e)
]
  where
    shared_short : 30 ≤ k → length (stop_at region k) ≤ 7
    shared_short low = elim (cases_Bool (k == 30)) [
      | inl e ↦ subst (λ (t : Text). length t ≤ 7) (sym (lower_at region k (eqb-true k 30 e))) (omega arith)
      | inr e ↦ subst (λ (t : Text). length t ≤ 7) (sym (higher_at region k low (eqb-false k 30 e))) (omega arith)
    ]

time_short : (t : ℕ) → t ≤ 129_600 → length (time_text (Some t)) ≤ 9
time_short t h = decimal_short t (omega (arith, h))

middle_size : (z region k : ℕ) → k ≤ 3 → length (text_of_call (middle_call z region k)) ≤ 50
middle_size z region k few =
    call_size (middle_call z region k) (stop_short region (draw z (3 * k + 3) 32)) (time_short (arrives_behind z k) (omega (arith, few, departs_low z k)))
    (time_short (departs_at z (k + 1)) (omega (arith, few, departs_low z (k + 1))))

calls_size : (z region : ℕ) → Each (λ (c : Call). length (text_of_call c) ≤ 50) (six_calls z region)
calls_size z region = (
  call_size (first_call z region) (stop_short region (draw z 1 32)) (omega arith) (time_short (departs_at z 0) (omega (arith, departs_low z 0))),
  (
    middle_size z region 0 (omega arith),
    (
      middle_size z region 1 (omega arith),
      (
        middle_size z region 2 (omega arith),
        (middle_size z region 3 (omega arith), (call_size (last_call z region) (stop_short region (draw z 15 32)) (time_short (arrives_behind z 4) (omega (arith, departs_low z 4))) (omega arith), tt)),
      ),
    ),
  ),
)

head_size : (id line : Text) → length id ≤ 4 → length line ≤ 2 → length (journey_text id service_label line) ≤ 50
unfolding journey_text
head_size id line h k = simp length-append (omega (arith, h, k))

journey_size : (z region k : ℕ) → length (text_of_journey (journey z region k)) ≤ 350
journey_size z region k =
    let w = state_after z (16 * k) in
    let few = few_bytes text_of_call 50 (six_calls w region) (calls_size w region) in
    let same = ap (λ (cs : List Call). length (flat_map text_of_call cs)) (calls_are w region) in
    let head = head_size (journey_label (k + 1)) (line_label (k + 1)) (omega arith) (omega arith) in
    let both = length-append (journey_text (journey_label (k + 1)) service_label (line_label (k + 1))) (flat_map text_of_call (calls w region)) in
    omega (arith, few, same, head, both)

point_size : (z region point : ℕ) → length (point_text z region point) ≤ 100
point_size z region point =
    let left = place_size (codes "exchange") (shared_place z point) (omega arith) (omega arith) (omega (arith, (minutes_fit z 0 5 (omega arith) (omega arith)).1)) (omega arith) in
    let right = neighbour_size (shared_stop point) (shared_neighbour z region point) (omega arith) (omega arith) (omega (arith, (minutes_fit z 1 10 (omega arith) (omega arith)).1)) in
    omega (arith, left, right, length-append (text_of_place (codes "exchange") (shared_place z point)) (text_of_neighbour (shared_stop point) (shared_neighbour z region point)))

own_size : (z region k : ℕ) → length (text_of_place (codes "stop") (own_place z region k)) ≤ 50
own_size z region k = place_size (codes "stop") (own_place z region k) (omega arith) (omega arith) (omega (arith, (minutes_fit z k 5 (omega arith) (omega arith)).1)) (omega arith)

ends_size : (region : ℕ) → (length (head_text (region_code region) (codes "+00:00")) ≤ 100) × (length text_of_service ≤ 100)
unfolding head_text service_text
ends_size region = (omega arith, omega arith)

-- six parts
sizes : (a b d e f g : Text) → length a ≤ 100 → length b ≤ 1500 → length d ≤ 100 → length e ≤ 100 → length f ≤ 100 → length g ≤ 42000 → length (a ++ b ++ d ++ e ++ f ++ g) ≤ 100000
sizes a b d e f g h0 h1 h2 h3 h4 h5 = simp length-append (omega (arith, h0, h1, h2, h3, h4, h5))

pub file_size : (z region : ℕ) → length (file z region) ≤ 100000
unfolding file
file_size z region =
    let y = state_after z 34 in
    let stops = few_bytes (text_of_place (codes "stop")) 50 (own_places z region) (each_below (λ (p : Place). length (text_of_place (codes "stop") p) ≤ 50) (own_place z region) 30 (λ k small. own_size z region k)) in
    let rows = few_bytes text_of_journey 350 (journeys y region) (each_below (λ (j : Journey). length (text_of_journey j) ≤ 350) (journey y region) 120 (λ k small. journey_size y region k)) in
    let many : length (own_places z region) ≡ 30 = length-below (own_place z region) 30 in
    let most : length (journeys y region) ≡ 120 = length-below (journey y region) 120 in
    sizes (head_text (region_code region) (codes "+00:00")) (flat_map (text_of_place (codes "stop")) (own_places z region)) (point_text (state_after z 30) region (lower_point region))
    (point_text (state_after z 32) region (higher_point region)) text_of_service (flat_map text_of_journey (journeys y region))
    (ends_size region).0 (omega (arith, stops, many)) (point_size (state_after z 30) region (lower_point region)) (point_size (state_after z 32) region (higher_point region)) (ends_size region).1 (omega (arith, rows, most))
