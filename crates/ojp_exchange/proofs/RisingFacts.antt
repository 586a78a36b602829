-- Lists that rise, read by number.
use Rattle.std.proofs.Common.{◌≡◌, ℕ, zero, suc, ◌<◌, Bool, true, false, cond, List, [], ◌∷◌, Option, Some, None, ap, ◌∙◌, refl, sym, subst, arith, slice_get, inl, inr}
use Rattle.std.proofs.lemmas.Bool.{cases_Bool, cases_lt}
use Rattle.std.proofs.lemmas.Option.{none-some, same_Some}
use Rattle.std.proofs.Math.Nat.{eq-or-lt_of_le}
use Rattle.std.specs.List.{filter, find}
use Rattle.std.specs.Option.{option_to_list}
use Rattle.ojp_values.proofs.EachFacts.{each_read}
use Rattle.ojp_values.specs.Lists.{Among, Each, IsRising}
use Rattle.ojp_values.specs.Texts.{Text, same, text_lt}
use Rattle.ojp_values.specs.declared.trips.Point.{Point}
use Rattle.ojp_timetable.proofs.Orders.{IsOrder, text_order, then_order}
use Rattle.ojp_timetable.proofs.ReadFacts.{at_among, read_once}
use Rattle.ojp_timetable.proofs.TextFacts.{is_same, same_is}
use Rattle.ojp_timetable.specs.Points.{point_lt}
use Rattle.ojp_timetable.specs.Tables.{Timetable, point_of}
use Rattle.ojp_exchange.specs.Kept.{entry_lt, entry_same, points_at, points_listed}

pub entry_order : IsOrder entry_lt entry_same
entry_order =
    then_order (λ (x : Point) (y : Point). text_lt x.stop y.stop) (λ (x : Point) (y : Point). same x.stop y.stop) _ _ (text_order (λ (x : Point). x.stop))
    (text_order (λ (x : Point). x.region))

module _ {X : Type 0} where
  -- of two elements the earlier is before the later
  pub rising_at : (lt : X → X → Bool) (xs : List X) (i k : ℕ) (x y : X) → IsRising lt xs → slice_get xs i ≡ Some x → slice_get xs k ≡ Some y → i < k → lt x y ≡ true
  rising_at lt [] i k x y h a b l = absurd (none-some x a)
  rising_at lt (z ∷ zs) i zero x y h a b l = absurd (omega (arith, l))
  rising_at lt (z ∷ zs) zero (suc k) x y h a b l =
      subst (λ (w : X). lt w y ≡ true) (same_Some z x a) (each_read (λ (w : X). lt z w ≡ true) zs k y h.0 b)
  rising_at lt (z ∷ zs) (suc i) (suc k) x y h a b l = rising_at lt zs i k x y h.1 a b (omega (arith, l))

text_stop : IsOrder point_lt (λ (x : Point) (y : Point). same x.stop y.stop)
text_stop = text_order (λ (x : Point). x.stop)

-- of elements that rise, those that tie stand at one place
pub rising_place : {X : Type 0} (lt tie : X → X → Bool) (order : IsOrder lt tie) (xs : List X) (i k : ℕ) (x y : X) → IsRising lt xs → slice_get xs i ≡ Some x → slice_get xs k ≡ Some y → tie x y ≡ true → i ≡ k
rising_place lt tie order xs i k x y rise a b t =
    elim (cases_lt i k) [
      | inl l ↦ absurd (order.apart x y (rising_at lt xs i k x y rise a b l) t)
      | inr g ↦ elim (eq-or-lt_of_le g) [
        | inl e ↦ sym e
        | inr m ↦ absurd (order.apart y x (rising_at lt xs k i y x rise b a m) (order.back x y t))
      ]
    ]

-- so they are one
pub rising_once : {X : Type 0} (lt tie : X → X → Bool) (order : IsOrder lt tie) (xs : List X) (x y : X) → IsRising lt xs → Among x xs → Among y xs → tie x y ≡ true → x ≡ y
rising_once lt tie order xs x y rise a b t =
    let i = at_among xs x a in
    let k = at_among xs y b in
    read_once xs i.0 k.0 x y (rising_place lt tie order xs i.0 k.0 x y rise i.1 k.1 t) i.1 k.1

-- at most one of the points that rise by reference is at the stop
one_listed : (stop : Text) (points : List Point) → IsRising point_lt points → filter (λ (point : Point). same stop point.stop) points ≡ option_to_list (find (λ (point : Point). same stop point.stop) points)
one_listed stop [] rise = refl
one_listed stop (x ∷ xs) rise = pick (same stop x.stop) refl (one_listed stop xs rise.1)
  where
    apart : (y : Point) → text_lt x.stop y.stop ≡ true → same stop x.stop ≡ true → same stop y.stop ≡ false
    apart y later e = elim (cases_Bool (same stop y.stop)) [
      | inl t ↦ absurd (text_stop.apart x y later (is_same x.stop y.stop (sym (same_is stop x.stop e) ∙ same_is stop y.stop t)))
      | inr t ↦ t
    ]

    none : (ys : List Point) → Each (λ (y : Point). text_lt x.stop y.stop ≡ true) ys → same stop x.stop ≡ true → filter (λ (point : Point). same stop point.stop) ys ≡ []
    none [] later e = refl
    none (y ∷ ys) later e = ap (λ (b : Bool). cond b (y ∷ filter (λ (point : Point). same stop point.stop) ys) (filter (λ (point : Point). same stop point.stop) ys)) (apart y later.0 e) ∙ none ys later.1 e

    pick : (b : Bool) → same stop x.stop ≡ b → filter (λ (point : Point). same stop point.stop) xs ≡ option_to_list (find (λ (point : Point). same stop point.stop) xs)
        → cond b (x ∷ filter (λ (point : Point). same stop point.stop) xs) (filter (λ (point : Point). same stop point.stop) xs) ≡ option_to_list (cond b (Some x) (find (λ (point : Point). same stop point.stop) xs))
    pick true e rest = ap (λ (ys : List Point). x ∷ ys) (none xs rise.0 e)
    pick false e rest = rest

-- what a region lists at the place is what is at the place among its points
pub listed_is : (table : Timetable) (place : Option Text) → IsRising point_lt table.points → points_at place table.points ≡ points_listed table place
unfolding point_of
listed_is table None rise = refl
listed_is table (Some stop) rise = one_listed stop table.points rise
