-- The asks of a network are for trips between two different known stops.
use Rattle.std.proofs.Common.{◌≡◌, ◌≢◌, ℕ, ◌+◌, ◌*◌, ◌/◌, ◌<◌, true, List, [], ◌∷◌, sym, ◌∙◌, ap, subst, arith}
use Rattle.std.specs.Prelude.{Some, None, if◌then◌else◌}
use Rattle.std.proofs.lemmas.Bool.Decides.{nat_tests}
use Rattle.ojp_values.specs.Texts.{code_part, home, same}
use Rattle.ojp_values.proofs.ListFacts.{among_append_left, among_list_any}
use Rattle.ojp_timetable.specs.GatewayAnswers.{IsPlace, IsPlaceBy}
use Rattle.ojp_timetable.specs.Tables.{Place, Timetable, has}
use Rattle.ojp_timetable.proofs.TextFacts.{same_itself}
use Rattle.ojp_network.specs.Draws.{draw, state_after}
use Rattle.ojp_network.specs.Networks.{apart, load_ask, target_at}
use Rattle.ojp_network.specs.Regions.{digit, own_place, own_places, own_stop, region_code}
use Rattle.ojp_network_laws.specs.Laws.{AreTables, AsksAreGood, IsGood, all_places, drawn_table}
use Rattle.ojp_network_laws.proofs.Names.{own_stop_code, own_stop_shared, two_same}
use Rattle.ojp_network_laws.proofs.Numbered.{IsDrawn, at_number, numbered}
use Rattle.ojp_network_laws.proofs.Own.{among_below, each_below, length-below}
use Rattle.ojp_network_laws.proofs.PlaceRows.{higher_place, lower_place}

-- ---- an own stop is known

home_is : (region stop : ℕ) → home (own_stop region stop) ≡ Some (region_code region)
unfolding home
home_is region stop =
    ap (λ b. if b then None else Some (code_part (own_stop region stop))) (own_stop_shared region stop) ∙ ap Some (own_stop_code region stop)

has_own : (z region k : ℕ) (noons : List ℕ) → k < 30 → has (drawn_table z region noons) (own_stop region (k + 1)) ≡ true
unfolding has
has_own z region k noons small =
    among_list_any (λ (place : Place). same (own_stop region (k + 1)) place.stop) (own_place z region k) (all_places z region)
    (among_append_left (own_place z region k) (own_places z region) (lower_place z region ∷ higher_place z region ∷ []) (among_below (own_place z region) 30 k small)) (same_itself (own_stop region (k + 1)))

stop_known : (number : ℕ) (tables : List Timetable) → AreTables number tables → (r k : ℕ) → r < 12 → k < 30 → IsPlace tables (own_stop (r + 1) (k + 1))
stop_known number tables h r k few small =
    let n = numbered number tables h in
    let found = at_number (IsDrawn number) 0 tables n.0 r (omega arith) (omega (arith, few, n.1)) in
    subst (IsPlaceBy tables (own_stop (r + 1) (k + 1))) (sym (home_is (r + 1) (k + 1)))
    (found.0, found.1, ap (λ (t : Timetable). t.region) found.2, ap (λ (t : Timetable). has t (own_stop (r + 1) (k + 1))) found.2 ∙ has_own (state_after number (1954 * r)) (r + 1) k found.0.noons small)

-- ---- two stops differ

moved_apart : (from board to given : ℕ) → given < 30 → from ≡ to → board ≡ apart from board to given → ⊥
moved_apart from board to given small e f = grind (arith, nat_tests)

apart_small : (from board to given : ℕ) → given < 30 → apart from board to given < 30
apart_small from board to given small = grind (arith, nat_tests)

stops_differ : (from board to given : ℕ) → from < 12 → to < 12 → board < 30 → given < 30 → own_stop (from + 1) (board + 1) ≢ own_stop (to + 1) (apart from board to given + 1)
stops_differ from board to given a b d f e =
    let x = apart from board to given in
    let low = apart_small from board to given f in
    let tens_of : digit ((from + 1) / 10) ≡ digit ((to + 1) / 10) = cc in
    let ones_of : digit (from + 1) ≡ digit (to + 1) = cc in
    let tens_at : digit ((board + 1) / 10) ≡ digit ((x + 1) / 10) = cc in
    let ones_at : digit (board + 1) ≡ digit (x + 1) = cc in
    let region = two_same (from + 1) (to + 1) (omega (arith, a)) (omega (arith, b)) tens_of ones_of in
    let stop = two_same (board + 1) (x + 1) (omega (arith, d)) (omega (arith, low)) tens_at ones_at in
    moved_apart from board to given f (omega (arith, region)) (omega (arith, stop))

-- ---- the asks

draw_low : (z k m : ℕ) → 0 < m → draw z k m < m
draw_low z k m some = omega (arith, some)

good : (number : ℕ) (tables : List Timetable) → AreTables number tables → (z : ℕ) → IsGood tables (load_ask z)
unfolding load_ask
good number tables h z =
    let from = draw_low z 0 12 (omega arith) in
    let board = draw_low z 1 30 (omega arith) in
    let to = draw_low z 2 12 (omega arith) in
    let given = draw_low z 3 30 (omega arith) in
    let low = draw_low z 5 11 (omega arith) in
    record {
      low = omega (arith, low);
      ends = record {
        differ = stops_differ (draw z 0 12) (draw z 1 30) (draw z 2 12) (draw z 3 30) from to board given;
        origin = stop_known number tables h (draw z 0 12) (draw z 1 30) from board;
        target = stop_known number tables h (draw z 2 12) (target_at z) to (apart_small (draw z 0 12) (draw z 1 30) (draw z 2 12) (draw z 3 30) given);
      };
    }

pub asks_are_good : AsksAreGood
asks_are_good number tables h = (
  each_below (IsGood tables) (λ (k : ℕ). load_ask (state_after (state_after number 23_448) (6 * k))) 200 (λ k small. good number tables h (state_after (state_after number 23_448) (6 * k))),
  length-below (λ (k : ℕ). load_ask (state_after (state_after number 23_448) (6 * k))) 200,
)
