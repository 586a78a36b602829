-- The codes, stops, labels and names of a network are of their kinds.
use Rattle.std.proofs.Common.{◌≡◌, ◌≢◌, ℕ, ◌<◌, ◌/◌, true, false, not, ◌&&◌, length, get_or, nat_lt, List, [], ◌∷◌, refl, ap, arith}
use Rattle.std.proofs.lemmas.Grind.{common_steps}
use Rattle.std.proofs.lemmas.Bool.{and_from, ltb-true}
use Rattle.std.proofs.lemmas.Str.{IsUtf8-from_ascii, is_utf8-from_IsUtf8}
use Rattle.std.proofs.lemmas.Str.Ascii.{IsAscii-cons, IsAscii-nil}
use Rattle.ojp_values.proofs.Escapes.{and_true_left, and_true_right}
use Rattle.std.specs.List.{list_all}
use Rattle.std.specs.Str.{IsAscii}
use Rattle.ojp_values.specs.Texts.{code_part, has_noncharacter, is_between, is_code, is_exchange, is_label, is_name, is_name_byte, is_stop_ref}
use Rattle.ojp_network.specs.Regions.{digit, journey_label, line_label, own_name, own_stop, point_name, region_code, shared_stop}

pub own_stop_ref : (region stop : ℕ) → is_stop_ref (own_stop region stop) ≡ true
own_stop_ref region stop = grind (arith, common_steps)

pub own_stop_shared : (region stop : ℕ) → is_exchange (own_stop region stop) ≡ false
own_stop_shared region stop = grind (arith, common_steps)

pub own_stop_code : (region stop : ℕ) → code_part (own_stop region stop) ≡ region_code region
own_stop_code region stop = grind (arith, common_steps)

pub shared_stop_ref : (point : ℕ) → is_stop_ref (shared_stop point) ≡ true
shared_stop_ref point = grind (arith, common_steps)

pub shared_stop_shared : (point : ℕ) → is_exchange (shared_stop point) ≡ true
shared_stop_shared point = refl

pub region_is_code : (region : ℕ) → is_code (region_code region) ≡ true
region_is_code region = grind (arith, common_steps)

pub journey_is_label : (journey : ℕ) → is_label (journey_label journey) ≡ true
journey_is_label journey = grind (arith, common_steps)

pub line_is_label : (journey : ℕ) → is_label (line_label journey) ≡ true
line_is_label journey = grind (arith, common_steps)

name_of : (text : List ℕ) → IsAscii text → (is_between 1 100 (length text) && list_all is_name_byte text && not (has_noncharacter text)) ≡ true → is_name text ≡ true
name_of text ascii printing = and_from _ _ printing (is_utf8-from_IsUtf8 text (IsUtf8-from_ascii text ascii))

ascii_of : (text : List ℕ) → list_all (λ b. nat_lt b 128) text ≡ true → IsAscii text
ascii_of [] h = IsAscii-nil
ascii_of (b ∷ text) h = IsAscii-cons b text (ltb-true b 128 (and_true_left _ _ h)) (ascii_of text (and_true_right _ _ h))

own_low : (region stop : ℕ) → list_all (λ b. nat_lt b 128) (own_name region stop) ≡ true
own_low region stop = grind (arith, common_steps)

own_ascii : (region stop : ℕ) → IsAscii (own_name region stop)
own_ascii region stop = ascii_of (own_name region stop) (own_low region stop)

own_prints : (region stop : ℕ)
    → (is_between 1 100 (length (own_name region stop)) && list_all is_name_byte (own_name region stop) && not (has_noncharacter (own_name region stop))) ≡ true
own_prints region stop = grind (arith, common_steps)

pub own_is_name : (region stop : ℕ) → is_name (own_name region stop) ≡ true
own_is_name region stop = name_of (own_name region stop) (own_ascii region stop) (own_prints region stop)

point_ascii : (point : ℕ) → IsAscii (point_name point)
point_ascii point = grind (arith, common_steps)

point_prints : (point : ℕ) → (is_between 1 100 (length (point_name point)) && list_all is_name_byte (point_name point) && not (has_noncharacter (point_name point))) ≡ true
point_prints point = grind (arith, common_steps)

pub point_is_name : (point : ℕ) → is_name (point_name point) ≡ true
point_is_name point = name_of (point_name point) (point_ascii point) (point_prints point)

-- ---- which are the same

pub two_same : (i j : ℕ) → i < 100 → j < 100 → digit (i / 10) ≡ digit (j / 10) → digit i ≡ digit j → i ≡ j
two_same i j a b e f = omega (arith, a, b, e, f)

pub own_same : (region i j : ℕ) → i < 100 → j < 100 → own_stop region i ≡ own_stop region j → i ≡ j
own_same region i j a b e =
    let tens : digit (i / 10) ≡ digit (j / 10) = cc in
    let ones : digit i ≡ digit j = cc in
    two_same i j a b tens ones

pub shared_same : (i j : ℕ) → i < 100 → j < 100 → shared_stop i ≡ shared_stop j → i ≡ j
shared_same i j a b e =
    let tens : digit (i / 10) ≡ digit (j / 10) = cc in
    let ones : digit i ≡ digit j = cc in
    two_same i j a b tens ones

pub region_same : (i j : ℕ) → i < 100 → j < 100 → region_code i ≡ region_code j → i ≡ j
region_same i j a b e =
    let tens : digit (i / 10) ≡ digit (j / 10) = cc in
    let ones : digit i ≡ digit j = cc in
    two_same i j a b tens ones

pub own_apart : (region i j : ℕ) → own_stop region i ≢ shared_stop j
own_apart region i j e = absurd (omega (arith, ap (λ (t : List ℕ). get_or t 0 0) e))

pub journey_same : (i j : ℕ) → i < 1000 → j < 1000 → journey_label i ≡ journey_label j → i ≡ j
journey_same i j a b e =
    let hundreds : digit (i / 100) ≡ digit (j / 100) = cc in
    let tens : digit (i / 10) ≡ digit (j / 10) = cc in
    let ones : digit i ≡ digit j = cc in
    omega (arith, a, b, hundreds, tens, ones)
