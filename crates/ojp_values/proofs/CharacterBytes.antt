-- The tests on the bytes of a text, by its characters.
use Rattle.std.proofs.Common.{◌≡◌, ◌≢◌, ℕ, ◌+◌, ◌/◌, ◌%◌, ◌<◌, ◌≤◌, ◌==◌, ◌&&◌, ◌||◌, Bool, true, false, cond, true≢false, List, [], ◌∷◌, ◌++◌, nat_le, nat_lt, refl, sym, ap, ◌∙◌, arith}
use Rattle.std.specs.List.{list_all}
use Rattle.std.proofs.Math.Utf8.{encode, encodes}
use Rattle.std.proofs.lemmas.Bool.{ltb-true, ltb-false, leb-true, le-leb, eqb-true, eqb-false, and_from, false_from_ne_true}
use Rattle.std.proofs.lemmas.List.Folds.{list_all-append}
use Rattle.ojp_values.specs.Texts.{is_name_byte, has_noncharacter, begins_noncharacter}
use Rattle.ojp_values.specs.Characters.{is_noncharacter, ControlsAreBytes, NoncharactersAreBytes}
use Rattle.ojp_values.proofs.Escapes.{and_true_left, and_true_right}

-- the bytes of a character, by the tests for its length
abbrev bytes_of : Bool → Bool → Bool → ℕ → List ℕ
bytes_of one two three c =
    cond one (c ∷ [])
    (cond two ((192 + c / 64) ∷ (128 + c % 64) ∷ [])
    (cond three ((224 + c / 4096) ∷ (128 + c / 64 % 64) ∷ (128 + c % 64) ∷ [])
    ((240 + c / 262144) ∷ (128 + c / 4096 % 64) ∷ (128 + c / 64 % 64) ∷ (128 + c % 64) ∷ [])))

encode_is : (c : ℕ) → encode c ≡ bytes_of (nat_lt c 128) (nat_lt c 2048) (nat_lt c 65536) c
unfolding encode
encode_is c = refl

same_by : (x y : Bool) → (x ≡ true → y ≡ true) → (y ≡ true → x ≡ true) → x ≡ y
same_by true y to from = sym (to refl)
same_by false y to from = sym (false_from_ne_true y (λ e. true≢false (sym (from e))))

differs : (a b : ℕ) → a ≢ b → (a == b) ≡ false
differs a b other = false_from_ne_true (a == b) (λ e. other (eqb-true a b e))

-- ---- bytes below 32

and_true_last : (x : Bool) → (x && true) ≡ x
and_true_last true = refl
and_true_last false = refl

high : (b : ℕ) → 128 ≤ b → is_name_byte b ≡ true
high b h = le-leb 32 b (omega (arith, h))

controls : (one two three : Bool) (c : ℕ) → one ≡ nat_lt c 128 → list_all is_name_byte (bytes_of one two three c) ≡ nat_le 32 c
controls true two three c e = and_true_last (nat_le 32 c)
controls false true three c e =
    and_from _ _ (high (192 + c / 64) (omega arith)) (and_from _ _ (high (128 + c % 64) (omega arith)) refl)
    ∙ sym (high c (ltb-false c 128 (sym e)))
controls false false true c e =
    and_from _ _ (high (224 + c / 4096) (omega arith))
    (and_from _ _ (high (128 + c / 64 % 64) (omega arith)) (and_from _ _ (high (128 + c % 64) (omega arith)) refl))
    ∙ sym (high c (ltb-false c 128 (sym e)))
controls false false false c e =
    and_from _ _ (high (240 + c / 262144) (omega arith))
    (and_from _ _ (high (128 + c / 4096 % 64) (omega arith))
    (and_from _ _ (high (128 + c / 64 % 64) (omega arith)) (and_from _ _ (high (128 + c % 64) (omega arith)) refl)))
    ∙ sym (high c (ltb-false c 128 (sym e)))

pub controls_are_bytes : ControlsAreBytes
controls_are_bytes [] = refl
controls_are_bytes (c ∷ cs) =
    list_all-append is_name_byte (encode c) (encodes cs)
    ∙ ap (λ x. x && list_all is_name_byte (encodes cs)) (ap (list_all is_name_byte) (encode_is c) ∙ controls (nat_lt c 128) _ _ c refl)
    ∙ ap (λ x. nat_le 32 c && x) (controls_are_bytes cs)

-- ---- U+FFFE and U+FFFF

-- a byte other than 239 begins neither
skip : (b : ℕ) (rest : List ℕ) → b ≢ 239 → has_noncharacter (b ∷ rest) ≡ has_noncharacter rest
skip b rest other = rw (differs b 239 other) refl

two_are : (c : ℕ) → is_noncharacter c ≡ true → begins_noncharacter (bytes_of false false true c) ≡ true
two_are c e = by_first (c == 0xfffe) c refl e
  where
    by_first : (b : Bool) (c : ℕ) → b ≡ (c == 0xfffe) → (b || c == 0xffff) ≡ true → begins_noncharacter (bytes_of false false true c) ≡ true
    by_first true c e h = ap (λ x. begins_noncharacter (bytes_of false false true x)) (eqb-true c 0xfffe (sym e))
    by_first false c e h = ap (λ x. begins_noncharacter (bytes_of false false true x)) (eqb-true c 0xffff h)

are_two : (c : ℕ) → c < 65536 → begins_noncharacter (bytes_of false false true c) ≡ true → is_noncharacter c ≡ true
are_two c small h =
    let front = and_true_left (224 + c / 4096 == 239 && 128 + c / 64 % 64 == 191) (nat_le 190 (128 + c % 64)) h in
    let lead : 224 + c / 4096 ≡ 239 = eqb-true _ _ (and_true_left (224 + c / 4096 == 239) (128 + c / 64 % 64 == 191) front) in
    let middle : 128 + c / 64 % 64 ≡ 191 = eqb-true _ _ (and_true_right (224 + c / 4096 == 239) (128 + c / 64 % 64 == 191) front) in
    let last : 190 ≤ 128 + c % 64
    = leb-true _ _ (and_true_right (224 + c / 4096 == 239 && 128 + c / 64 % 64 == 191) (nat_le 190 (128 + c % 64)) h) in
    by_first (c == 0xfffe) refl lead middle last
  where
    by_first : (b : Bool) → b ≡ (c == 0xfffe) → 224 + c / 4096 ≡ 239 → 128 + c / 64 % 64 ≡ 191 → 190 ≤ 128 + c % 64 → (b || c == 0xffff) ≡ true
    by_first true e lead middle last = refl
    by_first false e lead middle last =
        let other = eqb-false c 0xfffe (sym e) in
        let same : c ≡ 0xffff = omega (arith, small, lead, middle, last, other) in
        ap (λ x. x == 0xffff) same

noncharacter : (one two three : Bool) (c : ℕ) (rest : List ℕ) → one ≡ nat_lt c 128 → two ≡ nat_lt c 2048 → three ≡ nat_lt c 65536
    → has_noncharacter (bytes_of one two three c ++ rest) ≡ (is_noncharacter c || has_noncharacter rest)
noncharacter true two three c rest a b d =
    let small = ltb-true c 128 (sym a) in
    skip c rest (λ e. omega (arith, e, small))
    ∙ sym (rw (differs c 0xfffe (λ e. omega (arith, e, small)), differs c 0xffff (λ e. omega (arith, e, small))) refl)
noncharacter false true three c rest a b d =
    let small = ltb-true c 2048 (sym b) in
    skip (192 + c / 64) ((128 + c % 64) ∷ rest) (λ e. omega (arith, e, small)) ∙ skip (128 + c % 64) rest (λ e. omega (arith, e))
    ∙ sym (rw (differs c 0xfffe (λ e. omega (arith, e, small)), differs c 0xffff (λ e. omega (arith, e, small))) refl)
noncharacter false false true c rest a b d =
    let small = ltb-true c 65536 (sym d) in
    ap (λ x. begins_noncharacter (bytes_of false false true c) || x)
    (skip (128 + c / 64 % 64) ((128 + c % 64) ∷ rest) (λ e. omega (arith, e)) ∙ skip (128 + c % 64) rest (λ e. omega (arith, e)))
    ∙ ap (λ x. x || has_noncharacter rest) (same_by _ _ (are_two c small) (two_are c))
noncharacter false false false c rest a b d =
    let large = ltb-false c 65536 (sym d) in
    skip (240 + c / 262144) ((128 + c / 4096 % 64) ∷ (128 + c / 64 % 64) ∷ (128 + c % 64) ∷ rest) (λ e. omega (arith, e)) ∙ skip (128 + c / 4096 % 64) ((128 + c / 64 % 64) ∷ (128 + c % 64) ∷ rest) (λ e. omega (arith, e))
    ∙ skip (128 + c / 64 % 64) ((128 + c % 64) ∷ rest) (λ e. omega (arith, e)) ∙ skip (128 + c % 64) rest (λ e. omega (arith, e))
    ∙ sym (rw (differs c 0xfffe (λ e. omega (arith, e, large)), differs c 0xffff (λ e. omega (arith, e, large))) refl)

pub noncharacters_are_bytes : NoncharactersAreBytes
noncharacters_are_bytes [] = refl
noncharacters_are_bytes (c ∷ cs) =
    ap (λ front. has_noncharacter (front ++ encodes cs)) (encode_is c)
    ∙ noncharacter (nat_lt c 128) (nat_lt c 2048) (nat_lt c 65536) c (encodes cs) refl refl refl
    ∙ ap (λ x. is_noncharacter c || x) (noncharacters_are_bytes cs)
