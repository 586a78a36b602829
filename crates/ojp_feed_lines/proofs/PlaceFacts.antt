-- The place of a column in a head line.
use Rattle.std.proofs.Common.{◌≡◌, ◌≢◌, ℕ, zero, suc, ◌<◌, [], ◌∷◌, length, Some, true, false, refl, ap, arith, Decides, Bool}
use Rattle.std.specs.Str.{bytes_eq}
use Rattle.std.proofs.lemmas.Slice.Eq.{bytes_eq-Decides}
use Rattle.csv.specs.Records.{field_at}
use Rattle.ojp_values.specs.Texts.{Text}
use Rattle.ojp_feed_lines.specs.Causes.{LacksName}
use Rattle.ojp_feed_lines.specs.Rows.{Record, at_place, under}

-- no field before this place is the name
abbrev pub LacksBefore : Record → Text → ℕ → Type 0
LacksBefore head name place = (k : ℕ) → k < place → field_at head k ≢ Some name

is_same : (b : Bool) (x y : Text) → Decides b (x ≡ y) → x ≡ y → b ≡ true
is_same b x y d e = d.1 e

is_other : (b : Bool) (x y : Text) → Decides b (x ≡ y) → x ≢ y → b ≡ false
is_other true x y d n = absurd (n (d.0 refl))
is_other false x y d n = refl

-- the first field that is the name
pub under_first : (head : Record) (name : Text) (place : ℕ) → field_at head place ≡ Some name → LacksBefore head name place
    → (row : Record) → under head name row ≡ at_place row (Some place)
unfolding under field_at
under_first [] name place e n row = cc e
under_first (h ∷ hs) name place e n [] = refl
under_first (h ∷ hs) name zero e n (f ∷ fs) = rw (is_same (bytes_eq h name) h name (bytes_eq-Decides h name) (cc e)) refl
under_first (h ∷ hs) name (suc place) e n (f ∷ fs) =
    rw (is_other (bytes_eq h name) h name (bytes_eq-Decides h name) (λ s. n 0 (omega arith) (ap Some s)))
    (under_first hs name place e (λ k below same. n (suc k) (omega (arith, below)) same) fs)

-- no field is the name
pub under_none : (head : Record) (name : Text) → LacksBefore head name (length head) → (row : Record) → under head name row ≡ []
unfolding under field_at
under_none [] name n row = refl
under_none (h ∷ hs) name n [] = refl
under_none (h ∷ hs) name n (f ∷ fs) =
    rw (is_other (bytes_eq h name) h name (bytes_eq-Decides h name) (λ s. n 0 (omega arith) (ap Some s)))
    (under_none hs name (λ k below same. n (suc k) (omega (arith, below)) same) fs)

-- a place of a field is before the end
field_within : (head : Record) (k : ℕ) (field : Text) → field_at head k ≡ Some field → k < length head
unfolding field_at
field_within [] k field e = cc e
field_within (h ∷ hs) zero field e = omega arith
field_within (h ∷ hs) (suc k) field e = let within = field_within hs k field e in omega (arith, within)

-- no field at all is the name
pub lacks_name : (head : Record) (name : Text) → LacksBefore head name (length head) → LacksName head name
lacks_name head name n k is = n k (field_within head k name is) is
