-- The lines of the places of a region lead to what they declare.
use Rattle.std.proofs.Common.{◌≡◌, ◌≢◌, inl, inr, ℕ, ◌+◌, ◌<◌, ◌≤◌, true, false, cond, List, [], ◌∷◌, ◌++◌, length, length-append, map, refl, sym, ◌∙◌, ap, subst, arith, append_assoc}
use Rattle.std.specs.List.{flat_map, list_any}
use Rattle.std.proofs.lemmas.List.Elements.{All-cons, All-nil}
use Rattle.ojp_values.specs.Limits.{IsWellNeighbour}
use Rattle.ojp_values.specs.Lists.{Among, Each}
use Rattle.ojp_values.specs.Texts.{Text, is_exchange, same}
use Rattle.ojp_values.specs.declared.trips.Point.{Point}
use Rattle.ojp_values.proofs.ListFacts.{among_append_right, among_list_any, each_at}
use Rattle.ojp_zones.specs.declared.zone.Zone.{Zone}
use Rattle.ojp_timetable.specs.Tables.{Place}
use Rattle.ojp_timetable.specs.declared.file.lines.Line.{Line}
use Rattle.ojp_timetable.specs.declared.file.lines.Open.TheVariants.{Nothing}
use Rattle.ojp_timetable.proofs.TextFacts.{same_itself}
use Rattle.ojp_texts.specs.Spelled.{HaveOwn, IsNamed, neighbour_lines, place_line}
use Rattle.ojp_texts.proofs.PlaceRows.{IsSpelledPoint, declares, takes_neighbours, takes_places}
use Rattle.ojp_texts.proofs.PointsGrow.{bare, shared_in}
use Rattle.ojp_texts.proofs.Steps.{Takes, takes_more}
use Rattle.ojp_network.specs.Draws.{state_after}
use Rattle.ojp_network.specs.Regions.{higher_point, joined_region, lower_point, own_place, own_places, region_code, shared_neighbour, shared_place, shared_point, shared_stop}
use Rattle.ojp_network_laws.specs.Laws.{all_places, all_points}
use Rattle.ojp_network_laws.proofs.Names.{region_is_code, region_same, shared_stop_ref}
use Rattle.ojp_network_laws.proofs.Own.{each_append, each_below, each_front, length-below, own_front}
use Rattle.ojp_network_laws.proofs.Places.{first_point, minutes_fit, own_unshared, places_known, places_own, second_point}
use Rattle.ojp_network_laws.proofs.Ring.{IsInRing}

abbrev pub lower_place : ℕ → ℕ → Place
lower_place z region = shared_place (state_after z 30) (lower_point region)

abbrev pub higher_place : ℕ → ℕ → Place
higher_place z region = shared_place (state_after z 32) (higher_point region)

abbrev pub lower_one : ℕ → ℕ → Point
lower_one z region = shared_point (state_after z 30) region (lower_point region)

abbrev pub higher_one : ℕ → ℕ → Point
higher_one z region = shared_point (state_after z 32) region (higher_point region)

-- the places above the first neighbour
abbrev pub first_places : ℕ → ℕ → List Place
first_places z region = own_places z region ++ lower_place z region ∷ []

-- the lines of the places and of their neighbours, in their order
abbrev pub place_rows : ℕ → ℕ → List Line
place_rows z region =
    map place_line (first_places z region) ++ flat_map neighbour_lines (lower_one z region ∷ []) ++ map place_line (higher_place z region ∷ [])
    ++ flat_map neighbour_lines (higher_one z region ∷ [])

all_are : (z region : ℕ) → first_places z region ++ higher_place z region ∷ [] ≡ all_places z region
all_are z region = append_assoc (own_places z region) (lower_place z region ∷ []) (higher_place z region ∷ [])

-- ---- change times and numbers

changes_fit : (z region : ℕ) → Each (λ (p : Place). (1 ≤ p.change) × (p.change ≤ 7200)) (all_places z region)
changes_fit z region =
    each_append (λ (p : Place). (1 ≤ p.change) × (p.change ≤ 7200)) (own_places z region) (lower_place z region ∷ higher_place z region ∷ [])
    (each_below (λ (p : Place). (1 ≤ p.change) × (p.change ≤ 7200)) (own_place z region) 30 (λ k small. minutes_fit z k 5 (omega arith) (omega arith)))
    (minutes_fit (state_after z 30) 0 5 (omega arith) (omega arith), (minutes_fit (state_after z 32) 0 5 (omega arith) (omega arith), tt))

first_change : (z region : ℕ) → Each (λ (p : Place). (1 ≤ p.change) × (p.change ≤ 7200)) (first_places z region)
first_change z region =
    each_front (λ (p : Place). (1 ≤ p.change) × (p.change ≤ 7200)) (first_places z region) (higher_place z region ∷ [])
    (subst (Each (λ (p : Place). (1 ≤ p.change) × (p.change ≤ 7200))) (sym (all_are z region)) (changes_fit z region))

count_first : (z region : ℕ) → length (first_places z region) ≡ 31
count_first z region = length-append (own_places z region) (lower_place z region ∷ []) ∙ omega (arith, length-below (own_place z region) 30)

count_all : (z region : ℕ) → length (all_places z region) ≡ 32
count_all z region = length-append (own_places z region) (lower_place z region ∷ higher_place z region ∷ []) ∙ omega (arith, length-below (own_place z region) 30)

shared_none : (xs ys : List Place) → Each (λ (p : Place). is_exchange p.stop ≡ false) xs → shared_in (xs ++ ys) ≡ shared_in ys
shared_none [] ys h = refl
shared_none (p ∷ xs) ys h = ap (λ b. cond b 1 0 + shared_in (xs ++ ys)) h.0 ∙ omega (arith, shared_none xs ys h.1)

-- ---- the points

code_apart : (region other : ℕ) → region ≤ 12 → other < 13 → other ≢ region → region_code other ≢ region_code region
code_apart region other few small differ e = differ (region_same other region (omega (arith, small)) (omega (arith, few)) e)

point_known : (z region point : ℕ) (places : List Place) → region ≤ 12 → joined_region region point < 13 → joined_region region point ≢ region
    → list_any (λ (p : Place). same (shared_stop point) p.stop) places ≡ true → IsSpelledPoint (region_code region) places (shared_point z region point)
point_known z region point places few small differ stands = record {
  of = record { of_region = refl; exchange = refl; rising = (tt, tt); others = (code_apart region (joined_region region point) few small differ, tt) };
  bounded = (minutes_fit z 0 5 (omega arith) (omega arith), omega arith, All-cons IsWellNeighbour (shared_neighbour z region point) [] (minutes_fit z 1 10 (omega arith) (omega arith)) (All-nil IsWellNeighbour));
  ref = shared_stop_ref point;
  stands = stands;
  codes_are = (region_is_code (joined_region region point), tt);
}

stands_in : (place : Place) (places : List Place) → Among place places → list_any (λ (p : Place). same place.stop p.stop) places ≡ true
stands_in place places h = among_list_any (λ (p : Place). same place.stop p.stop) place places h (same_itself place.stop)

lower_in_first : (z region : ℕ) → Among (lower_place z region) (first_places z region)
lower_in_first z region = among_append_right (lower_place z region) (own_places z region) (lower_place z region ∷ []) (inl refl)

pub lower_in_all : (z region : ℕ) → Among (lower_place z region) (all_places z region)
lower_in_all z region = among_append_right (lower_place z region) (own_places z region) (lower_place z region ∷ higher_place z region ∷ []) (inl refl)

pub higher_in_all : (z region : ℕ) → Among (higher_place z region) (all_places z region)
higher_in_all z region = among_append_right (higher_place z region) (own_places z region) (lower_place z region ∷ higher_place z region ∷ []) (inr (inl refl))

-- ---- the lines

first_rows : (zone : Text) (is : Zone) (z region : ℕ) → IsInRing region
    → Takes zone (declares (region_code region) is [] [] [] []) Nothing (map place_line (first_places z region)) (declares (region_code region) is (first_places z region) (bare (lower_one z region) ∷ []) [] []) Nothing
first_rows zone is z region ring =
    let code = region_code region in
    subst (λ (ps : List Point). Takes zone (declares code is [] [] [] []) Nothing (map place_line (first_places z region)) (declares code is (first_places z region) ps [] []) Nothing)
    (first_point (state_after z 30) region (lower_point region) (own_places z region) (own_unshared z region))
    (takes_places zone code is (first_places z region) [] (first_places z region) [] refl
    (each_front (IsNamed code) (first_places z region) (higher_place z region ∷ []) (subst (Each (IsNamed code)) (sym (all_are z region)) (places_known z region)))
    (own_front (λ (p : Place). p.stop) (first_places z region) (higher_place z region ∷ []) (subst (HaveOwn (λ (p : Place). p.stop)) (sym (all_are z region)) (places_own z region ring)))
    (λ place h. each_at (λ (p : Place). (1 ≤ p.change) × (p.change ≤ 7200)) place (first_places z region) (first_change z region) h)
    (omega (arith, count_first z region))
    (omega (arith, shared_none (own_places z region) (lower_place z region ∷ []) (own_unshared z region))))

higher_row : (zone : Text) (is : Zone) (z region : ℕ) → IsInRing region
    → Takes zone (declares (region_code region) is (first_places z region) (lower_one z region ∷ []) [] []) Nothing (map place_line (higher_place z region ∷ []))
    (declares (region_code region) is (all_places z region) (lower_one z region ∷ bare (higher_one z region) ∷ []) [] []) Nothing
higher_row zone is z region ring =
    let code = region_code region in
    subst (λ (ps : List Point). Takes zone (declares code is (first_places z region) (lower_one z region ∷ []) [] []) Nothing (map place_line (higher_place z region ∷ [])) (declares code is (all_places z region) ps [] []) Nothing)
    (second_point (state_after z 32) region (higher_point region) (lower_one z region) ring.no_fall)
    (takes_places zone code is (all_places z region) (first_places z region) (higher_place z region ∷ []) (lower_one z region ∷ []) (all_are z region) (places_known z region) (places_own z region ring)
    (λ place h. each_at (λ (p : Place). (1 ≤ p.change) × (p.change ≤ 7200)) place (all_places z region) (changes_fit z region) h)
    (omega (arith, count_all z region)) (omega arith))

pub places_taken : (zone : Text) (is : Zone) (z region : ℕ) → IsInRing region → region ≤ 12
    → Takes zone (declares (region_code region) is [] [] [] []) Nothing (place_rows z region) (declares (region_code region) is (all_places z region) (all_points z region) [] []) Nothing
places_taken zone is z region ring few =
    let code = region_code region in
    let low = lower_one z region in
    let high = higher_one z region in
    let none = declares code is [] [] [] [] in
    let firsts = declares code is (first_places z region) (bare low ∷ []) [] [] in
    let joined = declares code is (first_places z region) (low ∷ []) [] [] in
    let alls = declares code is (all_places z region) (low ∷ bare high ∷ []) [] [] in
    let whole = declares code is (all_places z region) (low ∷ high ∷ []) [] [] in
    let lower_known = point_known (state_after z 30) region (lower_point region) (first_places z region) few ring.lower_few ring.lower_other (stands_in (lower_place z region) (first_places z region) (lower_in_first z region)) in
    let lower_still = point_known (state_after z 30) region (lower_point region) (all_places z region) few ring.lower_few ring.lower_other (stands_in (lower_place z region) (all_places z region) (lower_in_all z region)) in
    let higher_known = point_known (state_after z 32) region (higher_point region) (all_places z region) few ring.higher_few ring.higher_other (stands_in (higher_place z region) (all_places z region) (higher_in_all z region)) in
    let second = takes_neighbours zone code is (first_places z region) (low ∷ []) [] (low ∷ []) refl (lower_known, tt) (tt, tt) in
    let fourth = takes_neighbours zone code is (all_places z region) (low ∷ high ∷ []) (low ∷ []) (high ∷ []) refl (lower_still, (higher_known, tt)) ((ring.rises, tt), (tt, tt)) in
    takes_more zone none alls whole Nothing Nothing Nothing (map place_line (first_places z region) ++ flat_map neighbour_lines (low ∷ []) ++ map place_line (higher_place z region ∷ [])) (flat_map neighbour_lines (high ∷ []))
    (takes_more zone none joined alls Nothing Nothing Nothing (map place_line (first_places z region) ++ flat_map neighbour_lines (low ∷ [])) (map place_line (higher_place z region ∷ []))
    (takes_more zone none firsts joined Nothing Nothing Nothing (map place_line (first_places z region)) (flat_map neighbour_lines (low ∷ [])) (first_rows zone is z region ring) second)
    (higher_row zone is z region ring))
    fourth
