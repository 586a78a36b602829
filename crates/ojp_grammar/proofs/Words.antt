-- What the shapes say, and the items that they accept.
use Rattle.std.proofs.Common.{◌≡◌, refl, ℕ, zero, suc, ◌-◌, ◌<◌, ◌≤◌, true, false, List, [], ◌∷◌, length, Some, None, inl, inr, sym, ◌∙◌, ap, subst, arith}
use Rattle.std.specs.Prelude.{◌&&◌, ◌==◌, not}
use Rattle.std.specs.List.{AllByRecursion}
use Rattle.std.proofs.lemmas.Bool.{eq-eqb, eqb-true}
use Rattle.ojp_values.specs.declared.kinds.Kind.{Kind}
use Rattle.ojp_values.specs.declared.kinds.Kind.TheVariants as kinds
use Rattle.ojp_grammar.specs.declared.fields.FieldValue.{FieldValue}
use Rattle.ojp_grammar.specs.declared.fields.FieldValue.TheVariants.{StopRef, Code, Label, Name, Moment, Day, Seconds, Change, Number, Count, EventKind}
use Rattle.ojp_grammar.specs.Fields.{kind_of, IsFieldValue}
use Rattle.ojp_grammar.specs.Items.{Item, tag, value}
use Rattle.ojp_grammar.specs.Syntax.{Syntax, text, field, both, either, many, Says, put, put_each, Fits, FieldOf, value_of}
use Rattle.ojp_grammar.specs.Steps.{begins, enter, wants, Accepts, IsPlain}
use Rattle.ojp_grammar.proofs.Tests.{either_way, false_of, or_left, or_right, or_cases, and_both, and_left, and_right, not_zero, zero_is, is_zero, is_above}

-- ---- fields

pub kind_of-value_of : (kind : Kind) (x : FieldOf kind) → kind_of (value_of kind x) ≡ kind
kind_of-value_of kinds.StopRef x = refl
kind_of-value_of kinds.Code x = refl
kind_of-value_of kinds.Label x = refl
kind_of-value_of kinds.Name x = refl
kind_of-value_of kinds.Moment x = refl
kind_of-value_of kinds.Day x = refl
kind_of-value_of kinds.Seconds x = refl
kind_of-value_of kinds.Change x = refl
kind_of-value_of kinds.Number x = refl
kind_of-value_of kinds.Count x = refl
kind_of-value_of kinds.EventKind x = refl

-- what a field of the kind holds that gives the value
abbrev pub Holds : FieldValue → Kind → Type 0
Holds v kind = (x : FieldOf kind) × (value_of kind x ≡ v)

holds_own : (v : FieldValue) → Holds v (kind_of v)
holds_own (StopRef s) = (s, refl)
holds_own (Code s) = (s, refl)
holds_own (Label s) = (s, refl)
holds_own (Name s) = (s, refl)
holds_own (Moment n) = (n, refl)
holds_own (Day n) = (n, refl)
holds_own (Seconds n) = (n, refl)
holds_own (Change n) = (n, refl)
holds_own (Number n) = (n, refl)
holds_own (Count n) = (n, refl)
holds_own (EventKind e) = (e, refl)

pub holds : (v : FieldValue) (kind : Kind) → Some kind ≡ Some (kind_of v) → Holds v kind
holds v kind e = let same : kind_of v ≡ kind = cc in subst (Holds v) same (holds_own v)

-- ---- what is said is accepted

pub both_accepts : (a b : Syntax) (w : List Item) (k : List Syntax) → Accepts w (a ∷ b ∷ k) → Accepts w (both a b ∷ k)
both_accepts a b [] k h = h
both_accepts a b (tag n ∷ w) k h = h
both_accepts a b (value v ∷ w) k h = h

pub accepts_both : (a b : Syntax) (w : List Item) (k : List Syntax) → Accepts w (both a b ∷ k) → Accepts w (a ∷ b ∷ k)
accepts_both a b [] k h = h
accepts_both a b (tag n ∷ w) k h = h
accepts_both a b (value v ∷ w) k h = h

pub left_accepts : (a b : Syntax) (w : List Item) (k : List Syntax) → wants a ≡ None → Accepts w (a ∷ k) → Accepts w (either a b ∷ k)
left_accepts a b [] k none h = h
left_accepts a b (tag n ∷ w) k none h = (or_left (begins n a) (begins n b) h.0, rw h.0 h.1)
left_accepts a b (value v ∷ w) k none h = absurd (let e : Some (kind_of v) ≡ None = sym h.0 ∙ none in cc)

abbrev pub AreApart : Syntax → Syntax → Type 0
AreApart a b = (n : ℕ) → begins n a ≡ true → begins n b ≡ true → ⊥

pub right_accepts : (a b : Syntax) (w : List Item) (k : List Syntax) → wants b ≡ None → AreApart a b → Accepts w (b ∷ k) → Accepts w (either a b ∷ k)
right_accepts a b [] k none apart h = h
right_accepts a b (tag n ∷ w) k none apart h =
    let other : begins n a ≡ false = false_of (begins n a) (λ g. apart n g h.0) in
    (or_right (begins n a) (begins n b) h.0, rw other h.1)
right_accepts a b (value v ∷ w) k none apart h = absurd (let e : Some (kind_of v) ≡ None = sym h.0 ∙ none in cc)

-- one more of a list
pub more_accepts : (low high : ℕ) (a b : Syntax) (w : List Item) (k : List Syntax) → 0 < high → wants a ≡ None → AreApart a b → Accepts w (a ∷ many (low - 1) (high - 1) a b ∷ k) → Accepts w (many low high a b ∷ k)
more_accepts low high a b [] k room none apart h = h
more_accepts low high a b (tag n ∷ w) k room none apart h =
    let other : begins n b ≡ false = false_of (begins n b) (λ g. apart n h.0 g) in (
      or_right (low == 0 && begins n b) (not (high == 0) && begins n a) (and_both (not (high == 0)) (begins n a) (not_zero high room) h.0),
      rw other h.1,
    )
more_accepts low high a b (value v ∷ w) k room none apart h = absurd (let e : Some (kind_of v) ≡ None = sym h.0 ∙ none in cc)

-- the end of a list
pub end_accepts : (low high : ℕ) (a b : Syntax) (w : List Item) (k : List Syntax) → low ≡ 0 → wants b ≡ None → Accepts w (b ∷ k) → Accepts w (many low high a b ∷ k)
end_accepts low high a b [] k enough none h = h
end_accepts low high a b (tag n ∷ w) k enough none h = (
  or_left (low == 0 && begins n b) (not (high == 0) && begins n a) (and_both (low == 0) (begins n b) (zero_is low enough) h.0),
  rw h.0 h.1,
)
end_accepts low high a b (value v ∷ w) k enough none h = absurd (let e : Some (kind_of v) ≡ None = sym h.0 ∙ none in cc)

abbrev Puts : Syntax → Type 0
Puts s = (v : Says s) (rest : List Item) (k : List Syntax) → Fits s v → Accepts rest k → Accepts (put s v rest) (s ∷ k)

many_puts : (a b : Syntax) → wants a ≡ None → wants b ≡ None → AreApart a b → Puts a → Puts b → (vs : List (Says a)) (low high : ℕ) (v : Says b) (rest : List Item) (k : List Syntax) → low ≤ length vs → length vs ≤ high → AllByRecursion (Fits a) vs → Fits b v → Accepts rest k → Accepts (put_each (put a) vs (put b v rest)) (many low high a b ∷ k)
many_puts a b none_a none_b apart puts_a puts_b [] low high v rest k at_least at_most each fits h =
    end_accepts low high a b (put b v rest) k (omega arith) none_b (puts_b v rest k fits h)
many_puts a b none_a none_b apart puts_a puts_b (x ∷ xs) low high v rest k at_least at_most each fits h =
    more_accepts low high a b (put a x (put_each (put a) xs (put b v rest))) k (omega arith) none_a apart
    (puts_a x (put_each (put a) xs (put b v rest)) (many (low - 1) (high - 1) a b ∷ k) each.0
    (many_puts a b none_a none_b apart puts_a puts_b xs (low - 1) (high - 1) v rest k (omega arith) (omega arith) each.1 fits h))

pub put_accepts : (s : Syntax) → IsPlain s → (v : Says s) (rest : List Item) (k : List Syntax) → Fits s v → Accepts rest k → Accepts (put s v rest) (s ∷ k)
put_accepts (text n) p v rest k f h = (eq-eqb n n refl, h)
put_accepts (field kind c) p v rest k f h = (ap Some (sym (kind_of-value_of kind v)), (f, (eq-eqb c c refl, h)))
put_accepts (both a b) p v rest k f h =
    both_accepts a b (put a v.0 (put b v.1 rest)) k
    (put_accepts a p.0 v.0 (put b v.1 rest) (b ∷ k) f.0 (put_accepts b p.1 v.1 rest k f.1 h))
put_accepts (either a b) p (inl v) rest k f h =
    left_accepts a b (put a v rest) k p.2 (put_accepts a p.0 v rest k f h)
put_accepts (either a b) p (inr v) rest k f h =
    right_accepts a b (put b v rest) k p.3 p.4 (put_accepts b p.1 v rest k f h)
put_accepts (many low high a b) p v rest k f h =
    many_puts a b p.2 p.3 p.4 (put_accepts a p.0) (put_accepts b p.1) v.0 low high v.1 rest k f.0 f.1 f.2 f.3 h

-- ---- what is accepted is said

-- the items say something of the shape, and the rest is accepted
pub record Said (s : Syntax) (w : List Item) (k : List Syntax) : Type 0 where
  pub says : Says s
  pub rest : List Item
  pub fits : Fits s says
  pub parts : w ≡ put s says rest
  pub behind : Accepts rest k

abbrev Reads : Syntax → Type 0
Reads s = (w : List Item) (k : List Syntax) → Accepts w (s ∷ k) → Said s w k

reads_text : (n : ℕ) → Reads (text n)
reads_text n [] k h = absurd h
reads_text n (tag m ∷ w) k h =
    record { says = tt; rest = w; fits = tt; parts = ap (λ i. tag i ∷ w) (sym (eqb-true n m h.0)); behind = h.1 }
reads_text n (value v ∷ w) k h = absurd (let e : None ≡ Some (kind_of v) = h.0 in cc)

reads_field : (kind : Kind) (c : ℕ) → Reads (field kind c)
reads_field kind c [] k h = absurd h
reads_field kind c (tag m ∷ w) k h = absurd (let e : false ≡ true = h.0 in cc)
reads_field kind c (value v ∷ w) k h =
    let close = reads_text c w k h.1.1 in
    let held = holds v kind h.0 in
    record {
      says = held.0;
      rest = close.rest;
      fits = subst IsFieldValue (sym held.1) h.1.0;
      parts = ap (λ x. value x ∷ w) (sym held.1) ∙ ap (λ x. value (value_of kind held.0) ∷ x) close.parts;
      behind = close.behind;
    }

reads_both : (a b : Syntax) → Reads a → Reads b → Reads (both a b)
reads_both a b read_a read_b w k h =
    let first = read_a w (b ∷ k) (accepts_both a b w k h) in
    let next = read_b first.rest k first.behind in
    record {
      says = (first.says, next.says);
      rest = next.rest;
      fits = (first.fits, next.fits);
      parts = first.parts ∙ ap (put a first.says) next.parts;
      behind = next.behind;
    }

reads_either : (a b : Syntax) → Reads a → Reads b → Reads (either a b)
reads_either a b read_a read_b [] k h = absurd h
reads_either a b read_a read_b (value v ∷ w) k h = absurd (let e : None ≡ Some (kind_of v) = h.0 in cc)
reads_either a b read_a read_b (tag n ∷ w) k h =
    elim (either_way (begins n a)) [
      | inl here ↦
          let said = read_a (tag n ∷ w) k (here, rw here at h.1) in
          record { says = inl said.says; rest = said.rest; fits = said.fits; parts = said.parts; behind = said.behind }
      | inr absent ↦
          let said = read_b (tag n ∷ w) k (rw absent at h.0, rw absent at h.1) in
          record { says = inr said.says; rest = said.rest; fits = said.fits; parts = said.parts; behind = said.behind }
    ]

-- the text ends the list
ends : (n low high : ℕ) (a b : Syntax) → AreApart a b → begins n (many low high a b) ≡ true → begins n b ≡ true → low ≡ 0
ends n low high a b apart h here =
    elim (or_cases (low == 0 && begins n b) (not (high == 0) && begins n a) h) [
      | inl end ↦ is_zero low (and_left (low == 0) (begins n b) end)
      | inr more ↦ absurd (apart n (and_right (not (high == 0)) (begins n a) more) here)
    ]

-- the text begins one more of the list
goes_on : (n low high : ℕ) (a b : Syntax) → begins n (many low high a b) ≡ true → begins n b ≡ false → (0 < high) × (begins n a ≡ true)
goes_on n low high a b h absent =
    elim (or_cases (low == 0 && begins n b) (not (high == 0) && begins n a) h) [
      | inl end ↦ absurd (let here : begins n b ≡ true = and_right (low == 0) (begins n b) end in cc)
      | inr more ↦ (is_above high (and_left (not (high == 0)) (begins n a) more), and_right (not (high == 0)) (begins n a) more)
    ]

said_end : (low high : ℕ) (a b : Syntax) (w : List Item) (k : List Syntax) → low ≡ 0 → Said b w k → Said (many low high a b) w k
said_end low high a b w k enough said =
    record {
      says = ([], said.says);
      rest = said.rest;
      fits = (omega arith, omega arith, tt, said.fits);
      parts = said.parts;
      behind = said.behind;
    }

said_more : (low high : ℕ) (a b : Syntax) (w : List Item) (k : List Syntax) → (first : Said a w (many (low - 1) high a b ∷ k)) → Said (many (low - 1) high a b) first.rest k → Said (many low (suc high) a b) w k
said_more low high a b w k first next =
    record {
      says = (first.says ∷ next.says.0, next.says.1);
      rest = next.rest;
      fits = (omega (arith, next.fits.0), omega (arith, next.fits.1), (first.fits, next.fits.2), next.fits.3);
      parts = first.parts ∙ ap (put a first.says) next.parts;
      behind = next.behind;
    }

reads_many : (a b : Syntax) → AreApart a b → Reads a → Reads b → (high low : ℕ) → Reads (many low high a b)
reads_many a b apart read_a read_b high low [] k h = absurd h
reads_many a b apart read_a read_b high low (value v ∷ w) k h = absurd (let e : None ≡ Some (kind_of v) = h.0 in cc)
reads_many a b apart read_a read_b zero low (tag n ∷ w) k h =
    elim (either_way (begins n b)) [
      | inl here ↦ said_end low zero a b (tag n ∷ w) k (ends n low zero a b apart h.0 here) (read_b (tag n ∷ w) k (here, rw here at h.1))
      | inr absent ↦ absurd (omega (arith, (goes_on n low zero a b h.0 absent).0))
    ]
reads_many a b apart read_a read_b (suc high) low (tag n ∷ w) k h =
    elim (either_way (begins n b)) [
      | inl here ↦ said_end low (suc high) a b (tag n ∷ w) k (ends n low (suc high) a b apart h.0 here) (read_b (tag n ∷ w) k (here, rw here at h.1))
      | inr absent ↦
          let less : suc high - 1 ≡ high = omega arith in
          let entered : Accepts w (enter n a (many (low - 1) high a b ∷ k)) = rw less at (rw absent at h.1) in
          let first = read_a (tag n ∷ w) (many (low - 1) high a b ∷ k) ((goes_on n low (suc high) a b h.0 absent).1, entered) in
          said_more low high a b (tag n ∷ w) k first (reads_many a b apart read_a read_b high (low - 1) first.rest k first.behind)
    ]

pub accepts_put : (s : Syntax) → IsPlain s → (w : List Item) (k : List Syntax) → Accepts w (s ∷ k) → Said s w k
accepts_put (text n) p = reads_text n
accepts_put (field kind c) p = reads_field kind c
accepts_put (both a b) p = reads_both a b (accepts_put a p.0) (accepts_put b p.1)
accepts_put (either a b) p = reads_either a b (accepts_put a p.0) (accepts_put b p.1)
accepts_put (many low high a b) p = reads_many a b p.4 (accepts_put a p.0) (accepts_put b p.1) high low
