-- Texts and fields at the front of bytes.
use Rattle.std.proofs.Common.{◌≡◌, ◌≢◌, refl, ℕ, zero, suc, ◌<◌, Bool, true, false, List, [], ◌∷◌, ◌++◌, length, get_or, Some, None, ◌⊎◌, inl, inr, sym, ◌∙◌, ap, subst, arith, append_assoc}
use Rattle.std.specs.Prelude.{◌==◌, not, nat_eq}
use Rattle.std.specs.List.{list_all, starts_with}
use Rattle.std.proofs.lemmas.List.Folds.{list_all_at}
use Rattle.std.proofs.lemmas.List.Elements.{recursion_from_All}
use Rattle.std.proofs.lemmas.List.{append-nil}
use Rattle.ojp_grammar.specs.declared.refusals.Reason.{Reason}
use Rattle.ojp_grammar.specs.declared.refusals.Reason.TheVariants as reasons
use Rattle.std.proofs.lemmas.List.{append_cancel_left}
use Rattle.std.proofs.lemmas.Bool.{eq-eqb, eqb-true}
use Rattle.ojp_tables.specs.Texts.{are_apart, is_prefix_free}
use Rattle.ojp_tables.specs.Markup.{MARKUP_TEXTS}
use Rattle.ojp_grammar.specs.declared.fields.FieldValue.{FieldValue}
use Rattle.ojp_grammar.specs.Fields.{kind_of, IsFieldValue, field_text}
use Rattle.ojp_grammar.specs.Items.{Item, tag, value, text}
use Rattle.ojp_grammar.specs.Syntax.{Syntax}
use Rattle.ojp_grammar.specs.Places.{Run, BeginsMarkup, IsProperPrefix, IsOpenRun}
use Rattle.ojp_grammar.specs.Steps.{Comes, Sticks, IsPlain}
use Rattle.ojp_grammar.proofs.Tests.{either_way, and_both, and_left, and_right}
use Rattle.ojp_grammar.proofs.Plain.{begins_no_field, begins_small}
use Rattle.ojp_grammar.proofs.FieldLaws.{bare, one_value}

-- ---- one text begins another

-- a text is at the front of itself with more behind
pub starts_with-append : (a b : List ℕ) → starts_with nat_eq (a ++ b) a ≡ true
starts_with-append [] b = refl
starts_with-append (x ∷ a) b = and_both (x == x) (starts_with nat_eq (a ++ b) a) (eq-eqb x x refl) (starts_with-append a b)

-- of two texts at the front of the same bytes one begins the other
one_begins : (a b x y : List ℕ) → a ++ x ≡ b ++ y → (starts_with nat_eq a b ≡ true) ⊎ (starts_with nat_eq b a ≡ true)
one_begins [] b x y e = inr refl
one_begins (c ∷ a) [] x y e = inl refl
one_begins (c ∷ a) (d ∷ b) x y e =
    let head : c ≡ d = cc in
    let rest : a ++ x ≡ b ++ y = cc in
    elim (one_begins a b x y rest) [
      | inl h ↦ inl (and_both (d == c) (starts_with nat_eq a b) (eq-eqb d c (sym head)) h)
      | inr h ↦ inr (and_both (c == d) (starts_with nat_eq b a) (eq-eqb c d head) h)
    ]

not_both : (b : Bool) → b ≡ true → not b ≡ true → ⊥
not_both true h i = cc
not_both false h i = cc

apart_differ : (a b x y : List ℕ) → are_apart a b ≡ true → a ++ x ≡ b ++ y → ⊥
apart_differ a b x y apart e =
    elim (one_begins a b x y e) [
      | inl h ↦ not_both (starts_with nat_eq a b) h (and_left (not (starts_with nat_eq a b)) (not (starts_with nat_eq b a)) apart)
      | inr h ↦ not_both (starts_with nat_eq b a) h (and_right (not (starts_with nat_eq a b)) (not (starts_with nat_eq b a)) apart)
    ]

-- what a list passes, each element passes
pub passes_at : {A : Type 0} (p : A → Bool) (xs : List A) (i : ℕ) (d : A) → list_all p xs ≡ true → i < length xs → p (get_or xs i d) ≡ true
passes_at p xs i d all h =
    elim (either_way (p (get_or xs i d))) [
      | inl good ↦ good
      | inr bad ↦ absurd (let e : list_all p xs ≡ false = list_all_at p xs i d h bad in cc)
    ]

distinct : (ts : List (List ℕ)) (i j : ℕ) (x y : List ℕ) → is_prefix_free ts ≡ true → i < length ts → j < length ts → get_or ts i [] ++ x ≡ get_or ts j [] ++ y → i ≡ j
distinct [] i j x y free h k e = absurd (omega arith)
distinct (t ∷ ts) zero zero x y free h k e = refl
distinct (t ∷ ts) zero (suc j) x y free h k e =
    absurd (apart_differ t (get_or ts j []) x y (passes_at (are_apart t) ts j [] (and_left (list_all (are_apart t) ts) (is_prefix_free ts) free) (omega arith)) e)
distinct (t ∷ ts) (suc i) zero x y free h k e =
    absurd (apart_differ t (get_or ts i []) y x (passes_at (are_apart t) ts i [] (and_left (list_all (are_apart t) ts) (is_prefix_free ts) free) (omega arith)) (sym e))
distinct (t ∷ ts) (suc i) (suc j) x y free h k e =
    ap suc (distinct ts i j x y (and_right (list_all (are_apart t) ts) (is_prefix_free ts) free) (omega arith) (omega arith) e)

-- ---- the markup texts

nothing_right : (a b : List ℕ) → a ++ b ≡ [] → b ≡ []
nothing_right [] b e = e
nothing_right (x ∷ a) b e = absurd cc

-- no markup text begins another
pub text_same : (n m : ℕ) (x y : List ℕ) → n < 99 → m < 99 → text n ++ x ≡ text m ++ y → n ≡ m
unfolding text
text_same n m x y h k e = distinct MARKUP_TEXTS n m x y refl h k e

abbrev opens : List ℕ → Bool
opens [] = false
opens (b ∷ more) = b == 60

opens_markup : (t : List ℕ) → opens t ≡ true → BeginsMarkup t
opens_markup [] h = absurd cc
opens_markup (b ∷ more) h = (more, ap (λ c. c ∷ more) (eqb-true b 60 h))

-- each markup text begins with an angle bracket
pub text_opens : (n : ℕ) → n < 99 → BeginsMarkup (text n)
unfolding text
text_opens n h = opens_markup (get_or MARKUP_TEXTS n []) (passes_at opens MARKUP_TEXTS n [] refl h)

pub opens_more : (a b : List ℕ) → BeginsMarkup a → BeginsMarkup (a ++ b)
opens_more a b h = (h.0 ++ b, ap (λ l. l ++ b) h.1)

-- ---- runs without an angle bracket

pub run_same : (a b x y : List ℕ) → Run a → Run b → BeginsMarkup x → BeginsMarkup y → a ++ x ≡ b ++ y → (a ≡ b) × (x ≡ y)
run_same [] [] x y r s m n e = (refl, e)
run_same [] (d ∷ b) x y r s m n e = absurd (s.0 (let f : 60 ∷ m.0 ≡ d ∷ (b ++ y) = sym m.1 ∙ e in cc))
run_same (c ∷ a) [] x y r s m n e = absurd (r.0 (let f : c ∷ (a ++ x) ≡ 60 ∷ n.0 = e ∙ n.1 in cc))
run_same (c ∷ a) (d ∷ b) x y r s m n e =
    let rest : a ++ x ≡ b ++ y = cc in
    let same = run_same a b x y r.1 s.1 m n rest in
    let head : c ≡ d = cc in
    (ap (λ h. h ∷ a) head ∙ ap (λ l. d ∷ l) same.0, same.1)

pub run_stops : (a x : List ℕ) → BeginsMarkup x → Run (a ++ x) → ⊥
run_stops [] x m r =
    let P : List ℕ → Type 0 = Run in
    let s : Run (60 ∷ m.0) = subst P m.1 r in s.0 refl
run_stops (c ∷ a) x m r = run_stops a x m r.1

-- a run that may go on has no markup behind it
pub open_run_stops : (bytes a x : List ℕ) → IsOpenRun bytes → bytes ≡ a ++ x → BeginsMarkup x → ⊥
open_run_stops bytes a x run e m =
    let P : List ℕ → Type 0 = Run in
    run_stops a x m (subst P e (recursion_from_All (λ b. b ≢ 60) bytes run.0))

pub field_runs : (v : FieldValue) → IsFieldValue v → Run (field_text v)
field_runs v f = (bare v f).run

-- a text that is cut short has no text at its front
cut_short : (n m : ℕ) (bytes x : List ℕ) → n < 99 → m < 99 → IsProperPrefix bytes (text n) → bytes ≡ text m ++ x → ⊥
cut_short n m bytes x h k cut e =
    let whole : text n ≡ text m ++ (x ++ cut.0) = cut.1 ∙ ap (λ l. l ++ cut.0) e ∙ append_assoc (text m) x cut.0 in
    let joined : text n ++ [] ≡ text m ++ (x ++ cut.0) = append-nil (text n) ∙ whole in
    let same : n ≡ m = text_same n m [] (x ++ cut.0) h k joined in
    let none : [] ≡ x ++ cut.0 = append_cancel_left (text m) [] (x ++ cut.0) (ap (λ i. text i ++ []) (sym same) ∙ joined) in
    cut.2 (nothing_right x cut.0 (sym none))

-- ---- one item comes

-- the item that comes next is the only one
pub record IsSame (i j : Item) (x y : List ℕ) : Type 0 where
  pub item : i ≡ j
  pub behind : x ≡ y

pub same_item : (s : Syntax) (bytes : List ℕ) (i j : Item) (x y : List ℕ) → IsPlain s → Comes s i bytes x → Comes s j bytes y → IsSame i j x y
same_item s bytes (tag n) (tag m) x y p a b =
    let both : text n ++ x ≡ text m ++ y = sym a.1 ∙ b.1 in
    let same : n ≡ m = text_same n m x y (begins_small s n p a.0) (begins_small s m p b.0) both in
    record { item = ap tag same; behind = append_cancel_left (text n) x y (both ∙ ap (λ k. text k ++ y) (sym same)) }
same_item s bytes (tag n) (value w) x y p a b =
    absurd (let e : None ≡ Some (kind_of w) = sym (begins_no_field s n a.0) ∙ b.0 in cc)
same_item s bytes (value v) (tag m) x y p a b =
    absurd (let e : None ≡ Some (kind_of v) = sym (begins_no_field s m b.0) ∙ a.0 in cc)
same_item s bytes (value v) (value w) x y p a b =
    let kinds : Some (kind_of v) ≡ Some (kind_of w) = sym a.0 ∙ b.0 in
    let kind : kind_of v ≡ kind_of w = cc in
    let same = run_same (field_text v) (field_text w) x y (field_runs v a.1) (field_runs w b.1) a.3 b.3 (sym a.2 ∙ b.2) in
    record { item = ap value (one_value v w kind a.1 b.1 same.0); behind = same.1 }

-- where none comes, none comes
pub sticks_alone : (s : Syntax) (bytes : List ℕ) (reason : Reason) (i : Item) (x : List ℕ) → IsPlain s → Sticks s bytes reason → Comes s i bytes x → ⊥
sticks_alone s bytes reasons.Trailing i x p a b = absurd a
sticks_alone s bytes reasons.Markup (tag n) x p a b = a.1 n b.0 x b.1
sticks_alone s bytes reasons.Markup (value v) x p a b = (let e : None ≡ Some (kind_of v) = sym a.0 ∙ b.0 in cc)
sticks_alone s bytes (reasons.Field kind) (tag n) x p a b = (let e : Some kind ≡ None = sym a.0 ∙ begins_no_field s n b.0 in cc)
sticks_alone s bytes (reasons.Field kind) (value v) x p a b =
    let kinds : Some kind ≡ Some (kind_of v) = sym a.0 ∙ b.0 in
    let same : kind_of v ≡ kind = cc in
    a.2 v x same b.1 b.2 b.3
sticks_alone s bytes reasons.Truncated (tag n) x p (inl a) b =
    cut_short a.0 n bytes x (begins_small s a.0 p a.1) (begins_small s n p b.0) a.2 b.1
sticks_alone s bytes reasons.Truncated (value v) x p (inl a) b = (let e : None ≡ Some (kind_of v) = sym (begins_no_field s a.0 a.1) ∙ b.0 in cc)
sticks_alone s bytes reasons.Truncated (tag n) x p (inr a) b = (let e : Some a.0 ≡ None = sym a.1 ∙ begins_no_field s n b.0 in cc)
sticks_alone s bytes reasons.Truncated (value v) x p (inr a) b = open_run_stops bytes (field_text v) x a.2 b.2 b.3
