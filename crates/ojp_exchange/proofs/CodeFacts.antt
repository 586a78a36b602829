-- Codes that were sorted: the least that stands twice.
use Rattle.std.proofs.Common.{◌≡◌, ℕ, zero, suc, ◌-◌, ◌≤◌, Bool, true, false, cond, List, [], ◌∷◌, drop, length, refl, sym, ◌∙◌, ap, subst, arith, slice_get, inl, inr, true≢false}
use Rattle.std.specs.Prelude.{Option, Some, None}
use Rattle.std.specs.List.{count_by}
use Rattle.std.proofs.lemmas.Bool.{cases_Bool}
use Rattle.std.proofs.lemmas.Option.{none-some, same_Some}
use Rattle.ojp_values.proofs.ListFacts.{each_at}
use Rattle.ojp_values.proofs.EachFacts.{each_of}
use Rattle.ojp_values.specs.Lists.{Among, Each, IsRising}
use Rattle.ojp_values.specs.Texts.{Text, same, text_lt}
use Rattle.ojp_timetable.proofs.Orders.{not_before_itself}
use Rattle.ojp_timetable.proofs.PointOrder.{lt_carried, lt_other}
use Rattle.ojp_timetable.proofs.TextFacts.{same_is, same_itself}
use Rattle.ojp_exchange.specs.Joins.{first_twice}
use Rattle.ojp_exchange.proofs.SortFacts.{NoneBehind, count_more, count_no, count_yes, counted_is}

twice_case : (b : Bool) (x : Text) (found : Option Text) (c : Option Text) → b ≡ false → cond b (Some x) found ≡ c → found ≡ c
twice_case true x found c e h = absurd (true≢false e)
twice_case false x found c e h = h

never_twice : (b : Bool) (x : Text) (found : Option Text) → cond b (Some x) found ≡ None → b ≡ false
never_twice true x found h = absurd (none-some x (sym h))
never_twice false x found h = refl

here_twice : (b : Bool) (x c : Text) (found : Option Text) → b ≡ true → cond b (Some x) found ≡ Some c → x ≡ c
here_twice true x c found e h = same_Some x c h
here_twice false x c found e h = absurd (true≢false (sym e))

pub rises : (codes : List Text) → NoneBehind text_lt codes → first_twice codes ≡ None → IsRising text_lt codes
rises [] h e = tt
rises (x ∷ []) h e = (tt, tt)
rises (x ∷ y ∷ more) h e =
    let apart = never_twice (same x y) x (first_twice (y ∷ more)) e in
    let rest = rises (y ∷ more) h.1 (twice_case (same x y) x (first_twice (y ∷ more)) None apart e) in
    let first : text_lt x y ≡ true = lt_other y x (not_same y x apart) h.0.0 in
    ((first, each_of (λ (z : Text). text_lt x z ≡ true) more (λ z a. lt_carried x y z first (each_at (λ (w : Text). text_lt y w ≡ true) z more rest.0 a))), rest)
  where
    not_same : (y x : Text) → same x y ≡ false → same y x ≡ false
    not_same y x h = elim (cases_Bool (same y x)) [ inl t ↦ absurd (true≢false (sym (subst (λ (w : Text). same x w ≡ true) (sym (same_is y x t)) (same_itself x)) ∙ h)) | inr t ↦ t ]

-- an element of sorted texts is not before the first
first_least : (x : Text) (xs : List Text) (e : Text) → Each (λ (y : Text). text_lt y x ≡ false) xs → Among e (x ∷ xs) → text_lt e x ≡ false
first_least x xs e h a = elim a [
  | inl i ↦ subst (λ (t : Text). text_lt t x ≡ false) (sym i) (not_before_itself x)
  | inr t ↦ each_at (λ (y : Text). text_lt y x ≡ false) e xs h t
]

pub twice : (codes : List Text) (c : Text) → NoneBehind text_lt codes → first_twice codes ≡ Some c
    → (2 ≤ count_by (same c) codes) × ((o : Text) → 2 ≤ count_by (same o) codes → text_lt o c ≡ false)
twice [] c h e = absurd (none-some c e)
twice (x ∷ []) c h e = absurd (none-some c e)
twice (x ∷ y ∷ more) c h e = elim (cases_Bool (same x y)) [
  | inl t ↦
      let is = here_twice (same x y) x c (first_twice (y ∷ more)) t e in
      let xy = same_is x y t in
      let yes : same c x ≡ true = subst (λ (w : Text). same w x ≡ true) is (same_itself x) in
      let yes_y : same c y ≡ true = subst (λ (w : Text). same c w ≡ true) xy yes in (
        omega (arith, count_yes (same c) x (y ∷ more) yes, count_yes (same c) y more yes_y),
        (λ o two.
            let found = counted_is (same o) (x ∷ y ∷ more) (omega (arith, two)) in
            let at : o ≡ found.0 = same_is o found.0 found.2 in
            subst (λ (w : Text). text_lt o w ≡ false) is (subst (λ (w : Text). text_lt w x ≡ false) (sym at) (first_least x (y ∷ more) found.0 h.0 found.1))),
      )
  | inr t ↦
      let rest = twice (y ∷ more) c h.1 (twice_case (same x y) x (first_twice (y ∷ more)) (Some c) t e) in (
        omega (arith, rest.0, count_more (same c) x (y ∷ more)),
        (λ o two. elim (cases_Bool (same o x)) [
          | inl s ↦
              let found = counted_is (same o) (y ∷ more) (omega (arith, two, count_yes (same o) x (y ∷ more) s)) in
              let ox : o ≡ x = same_is o x s in
              let at : o ≡ found.0 = same_is o found.0 found.2 in
              let x_is : x ≡ found.0 = sym ox ∙ at in
              let before : text_lt x y ≡ true = lt_other y x (not_same y x t) h.0.0 in
              let late : text_lt x y ≡ false = subst (λ (w : Text). text_lt w y ≡ false) (sym x_is) (first_least y more found.0 h.1.0 found.1) in
              absurd (true≢false (sym before ∙ late))
          | inr s ↦ rest.1 o (omega (arith, two, count_no (same o) x (y ∷ more) s))
        ]),
      )
]
  where
    not_same : (y x : Text) → same x y ≡ false → same y x ≡ false
    not_same y x h = elim (cases_Bool (same y x)) [ inl t ↦ absurd (true≢false (sym (subst (λ (w : Text). same x w ≡ true) (sym (same_is y x t)) (same_itself x)) ∙ h)) | inr t ↦ t ]

-- ---- going over the codes

pub next_two : {X : Type 0} (xs : List X) (k : ℕ) (x y : X) → slice_get xs k ≡ Some x → slice_get xs (suc k) ≡ Some y → (drop k xs ≡ x ∷ drop (suc k) xs) × (drop (suc k) xs ≡ y ∷ drop (suc (suc k)) xs)
next_two [] k x y a b = absurd (none-some x a)
next_two (z ∷ []) zero x y a b = absurd (none-some y b)
next_two (z ∷ w ∷ more) zero x y a b = (ap (λ (v : _). v ∷ w ∷ more) (same_Some z x a), ap (λ (v : _). v ∷ more) (same_Some w y b))
next_two (z ∷ zs) (suc k) x y a b = next_two zs k x y a b

pub go_on : (codes : List Text) (k : ℕ) (x y : Text) → slice_get codes k ≡ Some x → slice_get codes (suc k) ≡ Some y → same x y ≡ false → first_twice (drop k codes) ≡ first_twice (drop (suc k) codes)
go_on codes k x y a b e =
    let two = next_two codes k x y a b in
    ap first_twice (two.0 ∙ ap (λ (v : List Text). x ∷ v) two.1) ∙ (ap (λ (c : Bool). cond c (Some x) (first_twice (y ∷ drop (suc (suc k)) codes))) e ∙ ap first_twice (sym two.1))

pub stop_here : (codes : List Text) (k : ℕ) (x y : Text) → slice_get codes k ≡ Some x → slice_get codes (suc k) ≡ Some y → same x y ≡ true → first_twice (drop k codes) ≡ Some y
stop_here codes k x y a b e =
    let two = next_two codes k x y a b in
    ap first_twice (two.0 ∙ ap (λ (v : List Text). x ∷ v) two.1) ∙ (ap (λ (c : Bool). cond c (Some x) (first_twice (y ∷ drop (suc (suc k)) codes))) e ∙ ap Some (same_is x y e))

pub none_left : (codes : List Text) (k : ℕ) → length codes ≤ suc k → first_twice (drop k codes) ≡ None
none_left [] zero h = refl
none_left [] (suc k) h = refl
none_left (x ∷ []) zero h = refl
none_left (x ∷ y ∷ more) zero h = absurd (omega (arith, h))
none_left (x ∷ xs) (suc k) h = none_left xs k (omega (arith, h))

pub found_twice : (codes : List Text) (i : ℕ) (x y : Text) → 1 ≤ i → slice_get codes (i - 1) ≡ Some x → slice_get codes i ≡ Some y → same x y ≡ true → first_twice (drop (i - 1) codes) ≡ first_twice codes
    → Some y ≡ first_twice codes
found_twice codes zero x y low a b e h = absurd (omega (arith, low))
found_twice codes (suc k) x y low a b e h =
    let i : suc k - 1 ≡ k = omega arith in
    sym (stop_here codes k x y (subst (λ (n : ℕ). slice_get codes n ≡ Some x) i a) b e) ∙ subst (λ (n : ℕ). first_twice (drop n codes) ≡ first_twice codes) i h

pub none_twice : (codes : List Text) (i : ℕ) → 1 ≤ i → length codes ≤ i → first_twice (drop (i - 1) codes) ≡ first_twice codes → None ≡ first_twice codes
none_twice codes zero low all h = absurd (omega (arith, low))
none_twice codes (suc k) low all h =
    let i : suc k - 1 ≡ k = omega arith in
    sym (none_left codes k all) ∙ subst (λ (n : ℕ). first_twice (drop n codes) ≡ first_twice codes) i h
