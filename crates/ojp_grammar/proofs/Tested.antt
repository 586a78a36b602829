-- The test that a shape is plain.
use Rattle.std.proofs.Common.{◌≡◌, refl, ℕ, Bool, true, false, List, [], ◌∷◌, ◌++◌, Some, None, Option, inl, inr, ◌∙◌, ap}
use Rattle.std.specs.Prelude.{◌||◌, ◌&&◌, ◌==◌, not, nat_lt, nat_le, is_none}
use Rattle.std.proofs.lemmas.Bool.{eqb-true, ltb-true, leb-true}
use Rattle.ojp_grammar.specs.Syntax.{Syntax, text, field, both, either, many}
use Rattle.ojp_grammar.specs.Steps.{begins, wants, IsPlain}
use Rattle.ojp_grammar.proofs.Tests.{or_left, or_right, or_cases, and_left, and_right}

-- every text that the shape may begin with
abbrev pub firsts : Syntax → List ℕ
firsts (text m) = m ∷ []
firsts (field kind close) = []
firsts (both a b) = firsts a
firsts (either a b) = firsts a ++ firsts b
firsts (many low high a b) = firsts b ++ firsts a

abbrev pub is_among : ℕ → List ℕ → Bool
is_among n [] = false
is_among n (m ∷ ms) = m == n || is_among n ms

abbrev pub shares_none : List ℕ → List ℕ → Bool
shares_none [] ms = true
shares_none (n ∷ ns) ms = not (is_among n ms) && shares_none ns ms

abbrev pub is_plain : Syntax → Bool
is_plain (text n) = nat_lt n 99
is_plain (field kind close) = nat_lt close 99
is_plain (both a b) = is_plain a && is_plain b
is_plain (either a b) =
    is_plain a && (is_plain b && (is_none (wants a) && (is_none (wants b) && shares_none (firsts a) (firsts b))))
is_plain (many low high a b) =
    is_plain a && (is_plain b && (is_none (wants a) && (is_none (wants b) && (shares_none (firsts a) (firsts b) && nat_le low high))))

among_left : (n : ℕ) (ms ns : List ℕ) → is_among n ms ≡ true → is_among n (ms ++ ns) ≡ true
among_left n [] ns h = absurd cc
among_left n (m ∷ ms) ns h =
    elim (or_cases (m == n) (is_among n ms) h) [
      | inl here ↦ or_left (m == n) (is_among n (ms ++ ns)) here
      | inr there ↦ or_right (m == n) (is_among n (ms ++ ns)) (among_left n ms ns there)
    ]

among_right : (n : ℕ) (ms ns : List ℕ) → is_among n ns ≡ true → is_among n (ms ++ ns) ≡ true
among_right n [] ns h = h
among_right n (m ∷ ms) ns h = or_right (m == n) (is_among n (ms ++ ns)) (among_right n ms ns h)

begins_among : (s : Syntax) (n : ℕ) → begins n s ≡ true → is_among n (firsts s) ≡ true
begins_among (text m) n h = or_left (m == n) false h
begins_among (field kind close) n h = h
begins_among (both a b) n h = begins_among a n h
begins_among (either a b) n h =
    elim (or_cases (begins n a) (begins n b) h) [
      | inl left ↦ among_left n (firsts a) (firsts b) (begins_among a n left)
      | inr right ↦ among_right n (firsts a) (firsts b) (begins_among b n right)
    ]
begins_among (many low high a b) n h =
    elim (or_cases (low == 0 && begins n b) (not (high == 0) && begins n a) h) [
      | inl end ↦ among_left n (firsts b) (firsts a) (begins_among b n (and_right (low == 0) (begins n b) end))
      | inr more ↦ among_right n (firsts b) (firsts a) (begins_among a n (and_right (not (high == 0)) (begins n a) more))
    ]

not_both : (b : Bool) → not b ≡ true → b ≡ true → ⊥
not_both true h i = cc
not_both false h i = cc

apart_of : (ns ms : List ℕ) (n : ℕ) → shares_none ns ms ≡ true → is_among n ns ≡ true → is_among n ms ≡ true → ⊥
apart_of [] ms n h i j = cc
apart_of (m ∷ ns) ms n h i j =
    elim (or_cases (m == n) (is_among n ns) i) [
      | inl here ↦ not_both (is_among m ms) (and_left (not (is_among m ms)) (shares_none ns ms) h)
          (ap (λ x. is_among x ms) (eqb-true m n here) ∙ j)
      | inr there ↦ apart_of ns ms n (and_right (not (is_among m ms)) (shares_none ns ms) h) there j
    ]

none_of : {A : Type 0} (o : Option A) → is_none o ≡ true → o ≡ None
none_of None h = refl
none_of (Some x) h = absurd cc

-- what passes the test is plain
pub plain_of : (s : Syntax) → is_plain s ≡ true → IsPlain s
plain_of (text n) h = ltb-true n 99 h
plain_of (field kind close) h = ltb-true close 99 h
plain_of (both a b) h = (plain_of a (and_left (is_plain a) (is_plain b) h), plain_of b (and_right (is_plain a) (is_plain b) h))
plain_of (either a b) h =
    let h1 = and_right (is_plain a) (is_plain b && (is_none (wants a) && (is_none (wants b) && shares_none (firsts a) (firsts b)))) h in
    let h2 = and_right (is_plain b) (is_none (wants a) && (is_none (wants b) && shares_none (firsts a) (firsts b))) h1 in
    let h3 = and_right (is_none (wants a)) (is_none (wants b) && shares_none (firsts a) (firsts b)) h2 in
    let h4 = and_right (is_none (wants b)) (shares_none (firsts a) (firsts b)) h3 in (
      plain_of a (and_left (is_plain a) (is_plain b && (is_none (wants a) && (is_none (wants b) && shares_none (firsts a) (firsts b)))) h),
      plain_of b (and_left (is_plain b) (is_none (wants a) && (is_none (wants b) && shares_none (firsts a) (firsts b))) h1),
      none_of (wants a) (and_left (is_none (wants a)) (is_none (wants b) && shares_none (firsts a) (firsts b)) h2),
      none_of (wants b) (and_left (is_none (wants b)) (shares_none (firsts a) (firsts b)) h3),
      λ n i j. apart_of (firsts a) (firsts b) n h4 (begins_among a n i) (begins_among b n j),
    )
plain_of (many low high a b) h =
    let h1 = and_right (is_plain a) (is_plain b && (is_none (wants a) && (is_none (wants b) && (shares_none (firsts a) (firsts b) && nat_le low high)))) h in
    let h2 = and_right (is_plain b) (is_none (wants a) && (is_none (wants b) && (shares_none (firsts a) (firsts b) && nat_le low high))) h1 in
    let h3 = and_right (is_none (wants a)) (is_none (wants b) && (shares_none (firsts a) (firsts b) && nat_le low high)) h2 in
    let h4 = and_right (is_none (wants b)) (shares_none (firsts a) (firsts b) && nat_le low high) h3 in (
      plain_of a (and_left (is_plain a) (is_plain b && (is_none (wants a) && (is_none (wants b) && (shares_none (firsts a) (firsts b) && nat_le low high)))) h),
      plain_of b (and_left (is_plain b) (is_none (wants a) && (is_none (wants b) && (shares_none (firsts a) (firsts b) && nat_le low high))) h1),
      none_of (wants a) (and_left (is_none (wants a)) (is_none (wants b) && (shares_none (firsts a) (firsts b) && nat_le low high)) h2),
      none_of (wants b) (and_left (is_none (wants b)) (shares_none (firsts a) (firsts b) && nat_le low high) h3),
      (λ n i j. apart_of (firsts a) (firsts b) n (and_left (shares_none (firsts a) (firsts b)) (nat_le low high) h4) (begins_among a n i) (begins_among b n j)),
      leb-true low high (and_right (shares_none (firsts a) (firsts b)) (nat_le low high) h4),
    )
