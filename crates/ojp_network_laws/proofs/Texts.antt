-- The text of a file is that of its lines.
use Rattle.std.proofs.Common.{◌≡◌, ℕ, false, List, [], ◌∷◌, ◌++◌, map, refl, sym, ◌∙◌, ap, append_assoc, append-nil, Bool, cond}
use Rattle.std.specs.Prelude.{codes}
use Rattle.std.specs.List.{concat, flat_map}
use Rattle.std.specs.Fmt.{decimal}
use Rattle.std.proofs.lemmas.List.{map-append}
use Rattle.std.proofs.lemmas.List.Folds.{concat-append}
use Rattle.ojp_values.specs.Dates.{date_in_year, date_of, month_place, year_place}
use Rattle.ojp_values.specs.Lists.{Each}
use Rattle.ojp_values.specs.Texts.{Text, is_exchange}
use Rattle.ojp_zones.specs.declared.zone.Zone.{Zone}
use Rattle.ojp_lines.specs.Lines.{call_text, head_text, journey_text, neighbour_text, place_text, service_text}
use Rattle.ojp_timetable.specs.Fields.{joined}
use Rattle.ojp_timetable.specs.Tables.{Journey, Place}
use Rattle.ojp_timetable.specs.declared.calls.Call.{Call}
use Rattle.ojp_timetable.specs.declared.file.lines.Line.{Line}
use Rattle.ojp_timetable.specs.declared.file.lines.Line.TheVariants as lines
use Rattle.ojp_texts.specs.Spelled.{journey_lines, label_at, neighbour_lines, place_line, service_line, spelled}
use Rattle.ojp_network.specs.Draws.{state_after}
use Rattle.ojp_network.specs.Regions.{file, higher_point, journey, journeys, lower_point, own_places, point_text, region_code, service_label, shared_neighbour, shared_place, shared_point, shared_stop, text_of_call, text_of_journey, text_of_neighbour, text_of_place, text_of_service}
use Rattle.ojp_network_laws.specs.Laws.{daily}
use Rattle.ojp_network_laws.proofs.Own.{each_below}
use Rattle.ojp_network_laws.proofs.PlaceRows.{first_places, higher_one, higher_place, lower_one, lower_place, place_rows}
use Rattle.ojp_network_laws.proofs.Places.{own_unshared}

abbrev pub zone : Text
zone = codes "+00:00"

-- the text of lines
abbrev pub text_of : List Line → Text
text_of ls = concat (map (spelled zone) ls)

pub text_append : (xs ys : List Line) → text_of (xs ++ ys) ≡ text_of xs ++ text_of ys
text_append xs ys = ap concat (map-append (spelled zone) xs ys) ∙ concat-append (map (spelled zone) xs) (map (spelled zone) ys)

-- ---- the lines of a region

abbrev pub entries : ℕ → ℕ → List Line
entries z region = place_rows z region ++ map service_line (daily ∷ []) ++ flat_map (journey_lines (daily ∷ [])) (journeys (state_after z 34) region)

abbrev pub all_lines : Zone → ℕ → ℕ → List Line
all_lines is z region = lines.Header ∷ lines.Region (region_code region) ∷ lines.Zone is ∷ entries z region

-- ---- their texts

stops_text : (ps : List Place) → Each (λ (p : Place). is_exchange p.stop ≡ false) ps → flat_map (text_of_place (codes "stop")) ps ≡ text_of (map place_line ps)
unfolding place_text
stops_text [] h = refl
stops_text (p ∷ ps) h =
    ap (λ (b : Bool). (joined (cond b (codes "exchange") (codes "stop") ∷ p.stop ∷ decimal p.change ∷ p.name ∷ []) ++ 10 ∷ []) ++ flat_map (text_of_place (codes "stop")) ps) (sym h.0)
    ∙ ap (λ (t : Text). spelled zone (place_line p) ++ t) (stops_text ps h.1)

shared_text : (z point : ℕ) → text_of_place (codes "exchange") (shared_place z point) ≡ spelled zone (place_line (shared_place z point))
unfolding place_text
shared_text z point = refl

neighbours_text : (z region point : ℕ) → text_of_neighbour (shared_stop point) (shared_neighbour z region point) ++ [] ≡ text_of (flat_map neighbour_lines (shared_point z region point ∷ []))
unfolding neighbour_text
neighbours_text z region point = refl

daily_text : text_of_service ≡ spelled zone (service_line daily)
unfolding service_text date_of date_in_year month_place year_place
daily_text = refl

calls_text : (cs : List Call) → flat_map text_of_call cs ≡ text_of (map (λ (c : Call). lines.Call c) cs)
unfolding call_text
calls_text [] = refl
calls_text (c ∷ cs) = ap (λ (t : Text). spelled zone (lines.Call c) ++ t) (calls_text cs)

head_is : (id line : Text) → journey_text id service_label line ≡ spelled zone (lines.Journey id (codes "D") line)
unfolding journey_text
head_is id line = refl

journeys_text : (js : List Journey) → Each (λ (j : Journey). j.service ≡ 0) js → flat_map text_of_journey js ≡ text_of (flat_map (journey_lines (daily ∷ [])) js)
journeys_text [] h = refl
journeys_text (j ∷ js) h =
    append_assoc (journey_text j.id service_label j.line) (flat_map text_of_call j.calls) (flat_map text_of_journey js)
    ∙ (ap (λ (t : Text). t ++ (flat_map text_of_call j.calls ++ flat_map text_of_journey js)) (head_is j.id j.line ∙ ap (λ (n : ℕ). spelled zone (lines.Journey j.id (label_at (daily ∷ []) n) j.line)) (sym h.0))
    ∙ ap (λ (t : Text). spelled zone (lines.Journey j.id (label_at (daily ∷ []) j.service) j.line) ++ t)
    (ap (λ (t : Text). t ++ flat_map text_of_journey js) (calls_text j.calls)
    ∙ (ap (λ (t : Text). text_of (map (λ (c : Call). lines.Call c) j.calls) ++ t) (journeys_text js h.1)
    ∙ sym (text_append (map (λ (c : Call). lines.Call c) j.calls) (flat_map (journey_lines (daily ∷ [])) js)))))

-- ---- the whole text

-- a row of parts, each in the text of its lines
pieces : (a e n f m s j a1 e1 n1 f1 m1 s1 j1 : Text) → a ≡ a1 → e ≡ e1 → n ++ [] ≡ n1 → f ≡ f1 → m ++ [] ≡ m1 → s ≡ s1 → j ≡ j1
    → a ++ (e ++ n) ++ (f ++ m) ++ s ++ j ≡ (a1 ++ (e1 ++ [])) ++ n1 ++ (f1 ++ []) ++ m1 ++ (s1 ++ []) ++ j1
pieces a e n f m s j a1 e1 n1 f1 m1 s1 j1 h0 h1 h2 h3 h4 h5 h6 =
    let flat : a ++ (e ++ n) ++ (f ++ m) ++ s ++ j ≡ (a ++ (e ++ [])) ++ (n ++ []) ++ (f ++ []) ++ (m ++ []) ++ (s ++ []) ++ j = simp (append_assoc, append-nil) in
    cc

parts_text : (z region : ℕ) → text_of (entries z region)
    ≡ (text_of (map place_line (own_places z region)) ++ text_of (place_line (lower_place z region) ∷ [])) ++ text_of (flat_map neighbour_lines (lower_one z region ∷ []))
    ++ text_of (place_line (higher_place z region) ∷ []) ++ text_of (flat_map neighbour_lines (higher_one z region ∷ [])) ++ text_of (service_line daily ∷ [])
    ++ text_of (flat_map (journey_lines (daily ∷ [])) (journeys (state_after z 34) region))
parts_text z region =
    let p = map place_line (first_places z region) in
    let n = flat_map neighbour_lines (lower_one z region ∷ []) in
    let e = place_line (higher_place z region) ∷ [] in
    let m = flat_map neighbour_lines (higher_one z region ∷ []) in
    let s = service_line daily ∷ [] in
    let j = flat_map (journey_lines (daily ∷ [])) (journeys (state_after z 34) region) in
    text_append (p ++ n ++ e ++ m ++ s) j
    ∙ ap (λ (t : Text). t ++ text_of j)
    (text_append (p ++ n ++ e ++ m) s
    ∙ ap (λ (t : Text). t ++ text_of s)
    (text_append (p ++ n ++ e) m
    ∙ ap (λ (t : Text). t ++ text_of m)
    (text_append (p ++ n) e
    ∙ ap (λ (t : Text). t ++ text_of e)
    (text_append p n
    ∙ ap (λ (t : Text). t ++ text_of n)
    (ap text_of (map-append place_line (own_places z region) (lower_place z region ∷ [])) ∙ text_append (map place_line (own_places z region)) (place_line (lower_place z region) ∷ []))))))

entries_text : (z region : ℕ)
    → flat_map (text_of_place (codes "stop")) (own_places z region) ++ point_text (state_after z 30) region (lower_point region) ++ point_text (state_after z 32) region (higher_point region) ++ text_of_service
    ++ flat_map text_of_journey (journeys (state_after z 34) region)
    ≡ text_of (entries z region)
entries_text z region =
    pieces _ _ _ _ _ _ _ _ _ _ _ _ _ _ (stops_text (own_places z region) (own_unshared z region)) (shared_text (state_after z 30) (lower_point region))
    (neighbours_text (state_after z 30) region (lower_point region)) (shared_text (state_after z 32) (higher_point region)) (neighbours_text (state_after z 32) region (higher_point region)) daily_text
    (journeys_text (journeys (state_after z 34) region) (each_below (λ (j : Journey). j.service ≡ 0) (journey (state_after z 34) region) 120 (λ k small. refl)))
    ∙ sym (parts_text z region)

pub file_text : (is : Zone) (z region : ℕ) → file z region ≡ text_of (all_lines is z region)
unfolding file head_text
file_text is z region =
    ap (λ (t : Text). spelled zone lines.Header ++ (spelled zone (lines.Region (region_code region)) ++ (spelled zone (lines.Zone is) ++ t))) (entries_text z region)
