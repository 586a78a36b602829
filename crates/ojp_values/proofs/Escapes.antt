-- The spelling of a name is read back from its front.
use Rattle.std.proofs.Common.{◌≡◌, ℕ, suc, ◌+◌, ◌<◌, ◌≤◌, ◌==◌, ◌||◌, Bool, true, false, not, cond, List, [], ◌∷◌, ◌++◌, length, Option, Some, None, codes, nat_eq, take, drop, IsTrue, true≢false, IsSome, IfSome, ◌↔◌, ◌&&◌, lit≤, length-append, take-append-drop, refl, sym, ap, ◌∙◌, arith, subst}
use Rattle.std.proofs.lemmas.Bool.{eqb-true, leb-true}
use Rattle.std.proofs.lemmas.Slice.Eq.{bytes_eq-Decides}
use Rattle.std.proofs.lemmas.Grind.{flat_map-append}
use Rattle.std.proofs.lemmas.List.{append_assoc, append-nil}
use Rattle.std.specs.List.{starts_with, position_or_len}
use Rattle.ojp_values.specs.Texts.{Text, escaped_byte, escaped, is_name}
use Rattle.ojp_values.specs.Numbers.{Reads}
use Rattle.ojp_values.specs.Escapes.{first_byte, first_escape, is_escaped_byte}

-- by the tests for the three bytes that are escaped
spelled : (amp lt gt : Bool) (b : ℕ) (rest : List ℕ) → amp ≡ (b == 38) → lt ≡ (b == 60) → gt ≡ (b == 62)
    → first_byte ((cond amp (codes "&amp;") (cond lt (codes "&lt;") (cond gt (codes "&gt;") (b ∷ [])))) ++ rest) ≡ Some (b, rest)
spelled true lt gt b rest a l g = ap (λ x. Some (x, rest)) (sym (eqb-true b 38 (sym a)))
spelled false true gt b rest a l g = ap (λ x. Some (x, rest)) (sym (eqb-true b 60 (sym l)))
spelled false false true b rest a l g = ap (λ x. Some (x, rest)) (sym (eqb-true b 62 (sym g)))
spelled false false false b rest a l g = rw (sym a, sym l, sym g) refl

-- what begins with the spelling of a byte begins with that byte
pub first_byte-escaped : (b : ℕ) (rest : List ℕ) → first_byte (escaped_byte b ++ rest) ≡ Some (b, rest)
first_byte-escaped b rest = spelled (b == 38) (b == 60) (b == 62) b rest refl refl refl

abbrev byte_of : Option (ℕ × List ℕ) → ℕ
byte_of None = 0
byte_of (Some p) = p.0

abbrev rest_of : Option (ℕ × List ℕ) → List ℕ
rest_of None = []
rest_of (Some p) = p.1

escaped_some : (amp lt gt : Bool) (b : ℕ) → 1 ≤ length (cond amp (codes "&amp;") (cond lt (codes "&lt;") (cond gt (codes "&gt;") (b ∷ []))))
escaped_some true lt gt b = lit≤ tt
escaped_some false true gt b = lit≤ tt
escaped_some false false true b = lit≤ tt
escaped_some false false false b = lit≤ tt

pub escaped_byte_some : (b : ℕ) → 1 ≤ length (escaped_byte b)
escaped_byte_some b = escaped_some (b == 38) (b == 60) (b == 62) b

pub and_true_left : (x y : Bool) → (x && y) ≡ true → x ≡ true
and_true_left true y e = refl
and_true_left false y e = absurd (cc e)

pub and_true_right : (x y : Bool) → (x && y) ≡ true → y ≡ true
and_true_right true y e = e
and_true_right false y e = absurd (cc e)

-- where a text begins with the needle, the needle and the rest make it up
starts : (text needle : List ℕ) → starts_with nat_eq text needle ≡ true → needle ++ drop (length needle) text ≡ text
starts text needle e =
    ap (λ front. front ++ drop (length needle) text) ((bytes_eq-Decides needle (take (length needle) text)).0 e)
    ∙ take-append-drop (length needle) text

-- what is chosen by the three tests
abbrev chosen : Bool → Bool → Bool → List ℕ → Option (ℕ × List ℕ)
chosen amp lt gt rest =
    cond amp (Some (38, drop 4 rest)) (cond lt (Some (60, drop 3 rest)) (cond gt (Some (62, drop 3 rest)) None))

escape : (amp lt gt : Bool) (rest : List ℕ) (b : ℕ) (after : List ℕ) → amp ≡ starts_with nat_eq rest (codes "amp;")
    → lt ≡ starts_with nat_eq rest (codes "lt;") → gt ≡ starts_with nat_eq rest (codes "gt;")
    → chosen amp lt gt rest ≡ Some (b, after)
    → escaped_byte b ++ after ≡ 38 ∷ rest
escape true lt gt rest b after a l g e =
    ap (λ o. escaped_byte (byte_of o) ++ rest_of o) (sym e) ∙ ap (λ xs. 38 ∷ xs) (starts rest (codes "amp;") (sym a))
escape false true gt rest b after a l g e =
    ap (λ o. escaped_byte (byte_of o) ++ rest_of o) (sym e) ∙ ap (λ xs. 38 ∷ xs) (starts rest (codes "lt;") (sym l))
escape false false true rest b after a l g e =
    ap (λ o. escaped_byte (byte_of o) ++ rest_of o) (sym e) ∙ ap (λ xs. 38 ∷ xs) (starts rest (codes "gt;") (sym g))
escape false false false rest b after a l g e = absurd (cc e)

plain : (amp lt gt : Bool) (x : ℕ) (rest : List ℕ) (b : ℕ) (after : List ℕ) → amp ≡ (x == 38) → lt ≡ (x == 60) → gt ≡ (x == 62)
    → cond amp (first_escape rest) (cond (lt || gt) None (Some (x, rest))) ≡ Some (b, after) → escaped_byte b ++ after ≡ x ∷ rest
plain true lt gt x rest b after a l g e =
    escape _ _ _ rest b after refl refl refl e ∙ ap (λ y. y ∷ rest) (sym (eqb-true x 38 (sym a)))
plain false true gt x rest b after a l g e = absurd (cc e)
plain false false true x rest b after a l g e = absurd (cc e)
plain false false false x rest b after a l g e =
    ap (λ o. escaped_byte (byte_of o) ++ rest_of o) (sym e) ∙ rw (sym a, sym l, sym g) refl

-- the spelling of the byte that was read, and the rest, are the text
pub escaped-first_byte : (text : List ℕ) (b : ℕ) (rest : List ℕ) → first_byte text ≡ Some (b, rest) → escaped_byte b ++ rest ≡ text
escaped-first_byte [] b rest e = absurd (cc e)
escaped-first_byte (x ∷ text) b rest e = plain (x == 38) (x == 60) (x == 62) x text b rest refl refl refl e

-- two names whose spellings begin alike begin alike
pub front : (a rest v : List ℕ) → escaped a ++ rest ≡ escaped v → (w : List ℕ) × (v ≡ a ++ w) × (rest ≡ escaped w)
front [] rest v e = (v, refl, e)
front (x ∷ xs) rest [] e =
    absurd (cc (sym (first_byte-escaped x (escaped xs ++ rest)) ∙ ap first_byte (sym (append_assoc (escaped_byte x) (escaped xs) rest) ∙ e)))
front (x ∷ xs) rest (y ∷ ys) e =
    let same : Some (x, escaped xs ++ rest) ≡ Some (y, escaped ys)
    = sym (first_byte-escaped x (escaped xs ++ rest)) ∙ ap first_byte (sym (append_assoc (escaped_byte x) (escaped xs) rest) ∙ e)
    ∙ first_byte-escaped y (escaped ys) in
    let more = front xs rest ys (ap rest_of same) in
    (more.0, ap (λ zs. y ∷ zs) more.1 ∙ ap (λ z. z ∷ (xs ++ more.0)) (sym (ap byte_of same)), more.2)

-- one byte more is read
pub escaped_push : (a : List ℕ) (b : ℕ) (rest after text : List ℕ) → first_byte rest ≡ Some (b, after) → escaped a ++ rest ≡ text
    → escaped (a ++ b ∷ []) ++ after ≡ text
escaped_push a b rest after text read e =
    ap (λ front. front ++ after) (flat_map-append escaped_byte a (b ∷ []))
    ∙ append_assoc (escaped a) (escaped (b ∷ [])) after
    ∙ ap (λ more. escaped a ++ (more ++ after)) (append-nil (escaped_byte b))
    ∙ ap (λ more. escaped a ++ more) (escaped-first_byte rest b after read) ∙ e

-- what is left is shorter
pub first_byte_shorter : (text : List ℕ) (b : ℕ) (rest : List ℕ) → first_byte text ≡ Some (b, rest) → length rest < length text
first_byte_shorter text b rest e =
    omega (arith, ap length (sym (escaped-first_byte text b rest e)), length-append (escaped_byte b) rest, escaped_byte_some b)

-- a name is 1 to 100 bytes
pub name_bounds : (v : List ℕ) → IsTrue (is_name v) → (1 ≤ length v) × (length v ≤ 100)
name_bounds v e =
    let between = and_true_left _ _ (and_true_left _ _ (and_true_left _ _ e)) in
    (leb-true 1 (length v) (and_true_left _ _ between), leb-true (length v) 100 (and_true_right _ _ between))

-- with 100 bytes read and more to come, the text spells no name
pub no_room : (a rest text v : List ℕ) → escaped a ++ rest ≡ text → 100 ≤ length a → false ≡ (length rest == 0) → IsTrue (is_name v)
    → escaped v ≡ text → ⊥
no_room a rest text v e full more is spelled =
    let parts = front a rest v (e ∙ sym spelled) in
    no_room_by a rest v full (λ none. true≢false (sym (more ∙ ap (λ xs. length xs == 0) none))) is parts.0 parts.1 parts.2
  where
    no_room_by : (a rest v : List ℕ) → 100 ≤ length a → (rest ≡ [] → ⊥) → IsTrue (is_name v)
        → (w : List ℕ) → v ≡ a ++ w → rest ≡ escaped w → ⊥
    no_room_by a rest v full more is [] same rest_is = more rest_is
    no_room_by a rest v full more is (y ∷ w) same rest_is =
        omega (arith, full, (name_bounds v is).1, ap length same, length-append a (y ∷ w))

-- where no spelling of a byte begins what is left, the text spells no name
pub no_byte : (a rest text v : List ℕ) → escaped a ++ rest ≡ text → first_byte rest ≡ None → false ≡ (length rest == 0)
    → escaped v ≡ text → ⊥
no_byte a rest text v e none more spelled =
    let parts = front a rest v (e ∙ sym spelled) in
    no_byte_by rest none (λ nil. true≢false (sym (more ∙ ap (λ xs. length xs == 0) nil))) parts.0 parts.2
  where
    no_byte_by : (rest : List ℕ) → first_byte rest ≡ None → (rest ≡ [] → ⊥) → (w : List ℕ) → rest ≡ escaped w → ⊥
    no_byte_by rest none more [] rest_is = more rest_is
    no_byte_by rest none more (y ∷ w) rest_is =
        cc (sym none ∙ ap first_byte rest_is ∙ first_byte-escaped y (escaped w))

-- a spelling has one name
pub escaped_injective : (a v : List ℕ) → escaped a ≡ escaped v → a ≡ v
escaped_injective a v e = injective_by a v (front a [] v (append-nil (escaped a) ∙ e))
  where
    injective_by : (a v : List ℕ) → ((w : List ℕ) × (v ≡ a ++ w) × ([] ≡ escaped w)) → a ≡ v
    injective_by a v ([], same, none) = sym (same ∙ append-nil a)
    injective_by a v (y ∷ w, same, none) = absurd (cc (ap first_byte none ∙ first_byte-escaped y (escaped w)))

-- the bytes read so far are all, and the name of them is made where they are one
pub read_all : (a rest text : List ℕ) (found : Option Text) → escaped a ++ rest ≡ text → true ≡ (length rest == 0)
    → (IsSome found ↔ IsTrue (is_name a)) → IfSome found (λ name. name ≡ a) → Reads (λ name. IsTrue (is_name name)) escaped text found
read_all a [] text found e more exact value = read_by a text found (sym (append-nil (escaped a)) ∙ e) exact value
  where
    read_by : (a text : List ℕ) (found : Option Text) → escaped a ≡ text → (IsSome found ↔ IsTrue (is_name a))
        → IfSome found (λ name. name ≡ a) → Reads (λ name. IsTrue (is_name name)) escaped text found
    read_by a text (Some name) e exact value = (rw value (exact.0 refl), ap escaped value ∙ e)
    read_by a text None e exact value =
        λ v is spelling. cc (exact.1 (let P : List ℕ → Type 0 = λ x. IsTrue (is_name x) in subst P (escaped_injective v a (spelling ∙ sym e)) is))
read_all a (x ∷ rest) text found e more exact value =
    absurd (omega (arith, eqb-true (length (x ∷ rest)) 0 (sym more)))

-- ---- spelling from the front

plain_by : (amp lt gt : Bool) (b : ℕ) (xs : List ℕ) (k : ℕ) → amp ≡ (b == 38) → lt ≡ (b == 60) → gt ≡ (b == 62)
    → escaped xs ≡ take k xs ++ escaped (drop k xs)
    → escaped (b ∷ xs) ≡ take (cond (not (amp || lt || gt)) (1 + k) 0) (b ∷ xs) ++ escaped (drop (cond (not (amp || lt || gt)) (1 + k) 0) (b ∷ xs))
plain_by true lt gt b xs k a l g e = refl
plain_by false true gt b xs k a l g e = refl
plain_by false false true b xs k a l g e = refl
plain_by false false false b xs k a l g e =
    let next : 1 + k ≡ suc k = omega arith in rw (next, sym a, sym l, sym g) (ap (λ ys. b ∷ ys) e)

-- the bytes up to the first that is escaped are spelled as themselves
pub escaped_plain : (text : List ℕ) → escaped text ≡ take (position_or_len is_escaped_byte text) text ++ escaped (drop (position_or_len is_escaped_byte text) text)
escaped_plain [] = refl
escaped_plain (b ∷ xs) =
    plain_by (b == 38) (b == 60) (b == 62) b xs (position_or_len is_escaped_byte xs) refl refl refl (escaped_plain xs)

-- where the first byte is spelled as itself, less is left
pub plain_rest : (b : ℕ) (xs : List ℕ) → is_escaped_byte b ≡ false → 1 ≤ position_or_len is_escaped_byte (b ∷ xs)
plain_rest b xs e = rw e (omega arith)

-- a text in which no byte is escaped is spelled as itself
pub spelled_plain : (text : List ℕ) (len count : ℕ) → len ≡ position_or_len is_escaped_byte text → len ≡ count → count ≡ length text → escaped text ++ [] ≡ text
spelled_plain text len count plain all size =
    append-nil (escaped text)
    ∙ (escaped_plain text
    ∙ (ap (λ n. take n text ++ escaped (drop n text)) (sym plain ∙ (all ∙ size)) ∙ whole text))
  where
    whole : (text : List ℕ) → take (length text) text ++ escaped (drop (length text) text) ≡ text
    whole [] = refl
    whole (b ∷ xs) = ap (λ l. b ∷ l) (whole xs)
