-- Lists that grow by one: what they hold, and what is counted.
use Rattle.std.proofs.Common.{◌≡◌, ℕ, zero, suc, ◌+◌, ◌<◌, ◌≤◌, List, [], ◌∷◌, ◌++◌, length, take, get_or, refl, sym, ◌∙◌, ap, subst, arith}
use Rattle.std.specs.Prelude.{IfSome, Option, Some, None}
use Rattle.ojp_values.specs.Lists.{Each, Pairwise}
use Rattle.ojp_timetable.specs.Tables.{Timetable}
use Rattle.ojp_network.specs.declared.shapes.LoadAsk.{LoadAsk}
use Rattle.ojp_load.specs.Asking.{Counts, IsToldOf}
use Rattle.ojp_load.specs.Loads.{IsTold, seconds_of, trips_of}

pub pairwise_more : {X Y : Type 0} (R : X → Y → Type 0) (xs : List X) (ys : List Y) (x : X) (y : Y) → Pairwise R xs ys → R x y → Pairwise R (xs ++ x ∷ []) (ys ++ y ∷ [])
pairwise_more R [] [] x y h r = (r, tt)
pairwise_more R [] (z ∷ ys) x y h r = absurd h
pairwise_more R (z ∷ xs) [] x y h r = absurd h
pairwise_more R (z ∷ xs) (w ∷ ys) x y h r = (h.0, pairwise_more R xs ys x y h.1 r)

-- one element more of the front
pub take_one : {X : Type 0} (xs : List X) (i : ℕ) (x : X) → i < length xs → x ≡ get_or xs i x → take (i + 1) xs ≡ take i xs ++ x ∷ []
take_one [] i x small is = absurd (omega (arith, small))
take_one (y ∷ xs) zero x small is = let e : x ≡ y = is in ap (λ z. z ∷ []) (sym e)
take_one (y ∷ xs) (suc i) x small is =
    let more : suc i + 1 ≡ suc (i + 1) = omega arith in
    ap (λ n. take n (y ∷ xs)) more ∙ ap (λ zs. y ∷ zs) (take_one xs i x (omega (arith, small)) is)

pub each_at_index : {X : Type 0} (P : X → Type 0) (xs : List X) (i : ℕ) (x : X) → i < length xs → x ≡ get_or xs i x → Each P xs → P x
each_at_index P [] i x small is h = absurd (omega (arith, small))
each_at_index P (y ∷ xs) zero x small is h = let e : x ≡ y = is in subst P (sym e) h.0
each_at_index P (y ∷ xs) (suc i) x small is h = each_at_index P xs i x (omega (arith, small)) is h.1

pub take_whole : {X : Type 0} (xs : List X) (i : ℕ) → length xs ≤ i → take i xs ≡ xs
take_whole [] zero h = refl
take_whole [] (suc i) h = refl
take_whole (x ∷ xs) zero h = absurd (omega (arith, h))
take_whole (x ∷ xs) (suc i) h = ap (λ zs. x ∷ zs) (take_whole xs i (omega (arith, h)))

-- ---- the counts

trips_more : (told : List (Option ℕ)) (t : Option ℕ) → trips_of (told ++ t ∷ []) ≡ trips_of told + trips_of (t ∷ [])
trips_more [] t = omega arith
trips_more (None ∷ told) t = trips_more told t
trips_more (Some n ∷ told) t = omega (arith, trips_more told t)

seconds_more : (told : List (Option ℕ)) (t : Option ℕ) → seconds_of (told ++ t ∷ []) ≡ seconds_of told + seconds_of (t ∷ [])
seconds_more [] t = omega arith
seconds_more (None ∷ told) t = seconds_more told t
seconds_more (Some n ∷ told) t = omega (arith, seconds_more told t)

pub counts_none : (tables : List Timetable) → Counts tables [] 0 0
counts_none tables = record { told = []; told_of = tt; trips_are = refl; seconds_are = refl }

pub counts_more : (tables : List Timetable) (asks : List LoadAsk) (load : LoadAsk) (t : Option ℕ) (trips seconds : ℕ) → Counts tables asks trips seconds → IsToldOf tables load.ask t
    → Counts tables (asks ++ load ∷ []) (trips + trips_of (t ∷ [])) (seconds + seconds_of (t ∷ []))
counts_more tables asks load t trips seconds h is = record {
  told = h.told ++ t ∷ [];
  told_of = pairwise_more (λ (l : LoadAsk) (told : Option ℕ). IsTold tables l.ask told) asks h.told load t h.told_of is.told_of;
  trips_are = ap (λ (n : ℕ). n + trips_of (t ∷ [])) h.trips_are ∙ sym (trips_more h.told t);
  seconds_are = ap (λ (n : ℕ). n + seconds_of (t ∷ [])) h.seconds_are ∙ sym (seconds_more h.told t);
}

pub one_trip : (t : Option ℕ) → trips_of (t ∷ []) ≤ 1
one_trip None = omega arith
one_trip (Some n) = omega arith

pub one_day : (t : Option ℕ) → IfSome t (λ n. n ≤ 86400) → seconds_of (t ∷ []) ≤ 86400
one_day None h = omega arith
one_day (Some n) h = omega (arith, h)
