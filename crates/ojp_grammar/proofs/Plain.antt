-- What plain shapes have.
use Rattle.std.proofs.Common.{◌≡◌, refl, ℕ, zero, suc, ◌-◌, ◌<◌, true, List, [], ◌∷◌, length, Some, None, inl, inr, sym, ap, subst, arith, lit≤, lit<}
use Rattle.std.specs.Prelude.{◌&&◌, ◌==◌, not, codes, IsTrue}
use Rattle.std.specs.Str.{is_utf8, chars}
use lib.Utf8.{encode}
use Rattle.ojp_values.specs.Texts.{is_name}
use Rattle.std.specs.List.{AllByRecursion}
use Rattle.std.proofs.lemmas.Bool.{eq-eqb, eqb-true}
use Rattle.ojp_values.specs.declared.kinds.Kind.{Kind}
use Rattle.ojp_values.specs.declared.kinds.Kind.TheVariants as kinds
use Rattle.ojp_values.specs.declared.kinds.EventKind.TheVariants.{Departure}
use Rattle.ojp_grammar.specs.Fields.{IsFieldValue}
use Rattle.ojp_grammar.specs.Items.{Item}
use Rattle.ojp_grammar.specs.Syntax.{Syntax, text, field, both, either, many, Says, put, Fits, FieldOf, value_of}
use Rattle.ojp_grammar.specs.Steps.{begins, enter, wants, leave, Accepts, IsPlain, ArePlain}
use Rattle.ojp_grammar.proofs.Tests.{either_way, or_left, or_right, or_cases, and_both, and_right, not_zero}
use Rattle.ojp_grammar.proofs.Words.{put_accepts}

-- ---- plain shapes stay plain

pub enter_plain : (s : Syntax) (n : ℕ) (k : List Syntax) → IsPlain s → ArePlain k → ArePlain (enter n s k)
enter_plain (text m) n k p q = q
enter_plain (field kind c) n k p q = q
enter_plain (both a b) n k p q = enter_plain a n (b ∷ k) p.0 (p.1, q)
enter_plain (either a b) n k p q =
    elim (either_way (begins n a)) [
      | inl here ↦ rw here (enter_plain a n k p.0 q)
      | inr absent ↦ rw absent (enter_plain b n k p.1 q)
    ]
enter_plain (many low high a b) n k p q =
    elim (either_way (begins n b)) [
      | inl here ↦ rw here (enter_plain b n k p.1 q)
      | inr absent ↦ rw absent (enter_plain a n (many (low - 1) (high - 1) a b ∷ k) p.0 ((p.0, p.1, p.2, p.3, p.4, omega (arith, p.5)), q))
    ]

-- behind a field its closing text is open
pub record Closes (k : List Syntax) : Type 0 where
  pub close : ℕ
  pub small : close < 99
  pub more : List Syntax
  pub plain : ArePlain more
  pub is : k ≡ text close ∷ more

pub leave_closes : (s : Syntax) (kind : Kind) (k : List Syntax) → IsPlain s → ArePlain k → wants s ≡ Some kind → Closes (leave s k)
leave_closes (text m) kind k p q e = absurd cc
leave_closes (field other c) kind k p q e = record { close = c; small = p; more = k; plain = q; is = refl }
leave_closes (both a b) kind k p q e = leave_closes a kind (b ∷ k) p.0 (p.1, q) e
leave_closes (either a b) kind k p q e = absurd cc
leave_closes (many low high a b) kind k p q e = absurd cc

pub leave_plain : (s : Syntax) (kind : Kind) (k : List Syntax) → IsPlain s → ArePlain k → wants s ≡ Some kind → ArePlain (leave s k)
leave_plain s kind k p q e =
    let c = leave_closes s kind k p q e in
    let P : List Syntax → Type 0 = ArePlain in
    subst P (sym c.is) (c.small, c.plain)

-- a shape that begins with a text begins with no field
pub begins_no_field : (s : Syntax) (n : ℕ) → begins n s ≡ true → wants s ≡ None
begins_no_field (text m) n h = refl
begins_no_field (field kind c) n h = absurd cc
begins_no_field (both a b) n h = begins_no_field a n h
begins_no_field (either a b) n h = refl
begins_no_field (many low high a b) n h = refl

pub begins_small : (s : Syntax) (n : ℕ) → IsPlain s → begins n s ≡ true → n < 99
begins_small (text m) n p h = let P : ℕ → Type 0 = λ x. x < 99 in subst P (eqb-true m n h) p
begins_small (field kind c) n p h = absurd cc
begins_small (both a b) n p h = begins_small a n p.0 h
begins_small (either a b) n p h =
    elim (or_cases (begins n a) (begins n b) h) [
      | inl left ↦ begins_small a n p.0 left
      | inr right ↦ begins_small b n p.1 right
    ]
begins_small (many low high a b) n p h =
    elim (or_cases (low == 0 && begins n b) (not (high == 0) && begins n a) h) [
      | inl end ↦ begins_small b n p.1 (and_right (low == 0) (begins n b) end)
      | inr more ↦ begins_small a n p.0 (and_right (not (high == 0)) (begins n a) more)
    ]

-- ---- plain shapes accept something

-- a shape that begins with no field begins with a text
pub first_text : (s : Syntax) → IsPlain s → wants s ≡ None → (n : ℕ) × (begins n s ≡ true)
first_text (text m) p e = (m, eq-eqb m m refl)
first_text (field kind c) p e = absurd cc
first_text (both a b) p e = first_text a p.0 e
first_text (either a b) p e =
    let first = first_text a p.0 p.2 in (first.0, or_left (begins first.0 a) (begins first.0 b) first.1)
first_text (many zero high a b) p e =
    let first = first_text b p.1 p.3 in
    (first.0, or_left (begins first.0 b) (not (high == 0) && begins first.0 a) first.1)
first_text (many (suc low) high a b) p e =
    let first = first_text a p.0 p.2 in (
      first.0,
      or_right (suc low == 0 && begins first.0 b) (not (high == 0) && begins first.0 a)
          (and_both (not (high == 0)) (begins first.0 a) (not_zero high (omega (arith, p.5))) first.1),
    )

some_name : IsTrue (is_name (codes "a"))
unfolding is_utf8 chars encode
some_name = refl

-- a value of the kind
pub some_value : (kind : Kind) → (x : FieldOf kind) × IsFieldValue (value_of kind x)
some_value kinds.StopRef = (codes "x:a", refl)
some_value kinds.Code = (codes "A", refl)
some_value kinds.Label = (codes "a", refl)
some_value kinds.Name = (codes "a", some_name)
some_value kinds.Moment = (0, lit≤ tt)
some_value kinds.Day = (2, (lit≤ tt, lit≤ tt))
some_value kinds.Seconds = (0, lit< tt)
some_value kinds.Change = (1, (lit≤ tt, lit≤ tt))
some_value kinds.Number = (1, (lit≤ tt, lit≤ tt))
some_value kinds.Count = (0, lit< tt)
some_value kinds.EventKind = (Departure, tt)

abbrev copies : {A : Type 0} → ℕ → A → List A
copies zero x = []
copies (suc n) x = x ∷ copies n x

length-copies : {A : Type 0} (n : ℕ) (x : A) → length (copies n x) ≡ n
length-copies zero x = refl
length-copies (suc n) x = ap suc (length-copies n x)

all-copies : {A : Type 0} (P : A → Type 0) (n : ℕ) (x : A) → P x → AllByRecursion P (copies n x)
all-copies P zero x p = tt
all-copies P (suc n) x p = (p, all-copies P n x p)

pub some_said : (s : Syntax) → IsPlain s → (v : Says s) × Fits s v
some_said (text m) p = (tt, tt)
some_said (field kind c) p = some_value kind
some_said (both a b) p = let x = some_said a p.0 in let y = some_said b p.1 in ((x.0, y.0), (x.1, y.1))
some_said (either a b) p = let x = some_said a p.0 in (inl x.0, x.1)
some_said (many low high a b) p =
    let x = some_said a p.0 in
    let y = some_said b p.1 in
    ((copies low x.0, y.0), (omega (arith, length-copies low x.0), omega (arith, length-copies low x.0, p.5), all-copies (Fits a) low x.0 x.1, y.1))

pub some_items : (k : List Syntax) → ArePlain k → (w : List Item) × Accepts w k
some_items [] p = ([], tt)
some_items (s ∷ k) p =
    let more = some_items k p.1 in
    let said = some_said s p.0 in
    (put s said.0 more.0, put_accepts s p.0 said.0 more.0 k said.1 more.1)
