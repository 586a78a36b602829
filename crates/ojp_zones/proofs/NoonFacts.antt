-- The noons of a zone by its years.
use Rattle.std.proofs.Common.{◌≡◌, ℕ, zero, suc, ◌+◌, ◌-◌, ◌≤◌, ◌<◌, inl, inr, List, [], ◌∷◌, ◌++◌, length, get_or, refl, arith, subst, sym, ap, ◌∙◌, length-append, pos, ◌*◌, ◌-ℤ◌, true, false}
use Rattle.std.proofs.Math.Nat.{eq-or-lt_of_le}
use Rattle.std.proofs.Math.ListN.{get_or-append}
use Rattle.std.proofs.Math.Seq.{get_or-append_seam}
use Rattle.std.proofs.Math.Dec.{leb}
use Rattle.std.proofs.lemmas.Bool.{leb-true, leb-false}
use Rattle.std.proofs.lemmas.Int.{ints}
use Rattle.std.specs.Prelude.{Option, Some, None, IfSome, cond, Bool, ℤ, negsuc, unsigned_abs, ◌≤ℤ◌, ◌⊎◌}
use Rattle.std.specs.List.Sorted.{IsNonDecreasingBy, IsPartitionPoint}
use Rattle.jiff_core.proofs.SignedLemmas.{signed_arith}
use Rattle.ojp_values.specs.Dates.{date_of, operating_days}
use Rattle.ojp_values.specs.declared.moments.TheConstants.{FIRST_DAY, LAST_DAY}
use Rattle.ojp_zones.specs.Days.{day_number}
use Rattle.ojp_zones.specs.Noons.{AreNear, AreNoons, AreYears, AreAllYears, IsNoon, IsOffset, IsSummer, IsYear, IsZone, HoldsDay, change_day, east_by, east_on, is_second, noon_of, noons_from, noons_of}
use Rattle.ojp_zones.specs.declared.year.Year.{Year}
use Rattle.ojp_zones.specs.declared.zone.Summer.{Summer}
use Rattle.ojp_zones.specs.declared.zone.Zone.{Zone}
use Rattle.ojp_zones.proofs.DayFacts.{day_number-end, day_number-epoch, in_its_year, years_rise}

-- ---- near UTC

between_near : (b : Bool) (x y : ℤ) → IsOffset x → IsOffset y → IsOffset (cond b x y)
between_near true x y h k = h
between_near false x y h k = k

by_near : (east : ℤ) (summer : Option Summer) (year day : ℕ) → IsOffset east → IfSome summer IsSummer → IsOffset (east_by east summer year day)
by_near east None year day h k = h
by_near east (Some summer) year day h k = between_near (is_second (change_day year summer.from) (change_day year summer.to) day) summer.east east k.0 h

east_near : (zone : Zone) (year day : ℕ) → IsZone zone → IsOffset (east_on zone year day)
east_near zone year day h = by_near zone.east zone.summer year day h.0 h.1

-- ---- the list of noons

-- a number that is not negative
abs_of : (z : ℤ) → pos 0 ≤ℤ z → pos (unsigned_abs z) ≡ z
abs_of (pos n) h = refl
abs_of (negsuc n) h = absurd (omega (arith, signed_arith, h))

-- the moment of a noon is that of its day
is_noon_of : (zone : Zone) (day : ℕ) → IsZone zone → FIRST_DAY ≤ day → pos (noon_of zone day) ≡ pos (86400 * day + 43200) -ℤ east_on zone (date_of day).year day
unfolding noon_of
is_noon_of zone day h low =
    let near = east_near zone (date_of day).year day h in
    abs_of (pos (86400 * day + 43200) -ℤ east_on zone (date_of day).year day) (omega (arith, signed_arith, near, low))

noon_is : (zone : Zone) (day : ℕ) → IsZone zone → FIRST_DAY ≤ day → day ≤ 84_005 → IsNoon zone day (noon_of zone day)
noon_is zone day h low high =
    let year = in_its_year day high in
    record { year = (date_of day).year; begun = year.0; unended = year.1; is = is_noon_of zone day h low }

length-noons_from : (zone : Zone) (first days : ℕ) → length (noons_from zone first days) ≡ days
unfolding noons_from
length-noons_from zone first zero = refl
length-noons_from zone first (suc days) = omega (arith, length-noons_from zone (first + 1) days)

noons_from-at : (zone : Zone) (first days i : ℕ) → i < days → get_or (noons_from zone first days) i 0 ≡ noon_of zone (first + i)
unfolding noons_from
noons_from-at zone first zero i h = absurd (omega (arith, h))
noons_from-at zone first (suc days) zero h = ap (noon_of zone) (omega arith)
noons_from-at zone first (suc days) (suc i) h = noons_from-at zone (first + 1) days i (omega (arith, h)) ∙ ap (noon_of zone) (omega arith)

pub length-noons_of : (zone : Zone) → length (noons_of zone) ≡ operating_days
unfolding noons_of
length-noons_of zone = length-noons_from zone FIRST_DAY operating_days

noons_of-at : (zone : Zone) (day : ℕ) → FIRST_DAY ≤ day → day ≤ LAST_DAY → get_or (noons_of zone) (day - FIRST_DAY) 0 ≡ noon_of zone day
unfolding noons_of
noons_of-at zone day low high = noons_from-at zone FIRST_DAY operating_days (day - FIRST_DAY) (omega (arith, low, high)) ∙ ap (noon_of zone) (omega (arith, low))

pub noons_are : (zone : Zone) → IsZone zone → AreNoons zone (noons_of zone)
noons_are zone h = record {
  noon = λ day low high.
      let last : day ≤ LAST_DAY = omega (arith, high, length-noons_of zone) in
      subst (IsNoon zone day) (sym (noons_of-at zone day low last)) (noon_is zone day h low (omega (arith, last)));
}

-- the noons of a zone in range are near those of UTC
pub are_near : (zone : Zone) (noons : List ℕ) → IsZone zone → AreNoons zone noons → AreNear noons
are_near zone noons h all = record {
  low = λ day from to. let n = all.noon day from to in omega (arith, signed_arith, n.is, east_near zone n.year day h);
  high = λ day from to. let n = all.noon day from to in omega (arith, signed_arith, n.is, east_near zone n.year day h);
}

-- ---- one noon

no_earlier : (zone : Zone) (day m n : ℕ) (first : IsNoon zone day m) (second : IsNoon zone day n) → first.year < second.year → ⊥
no_earlier zone day m n first second h =
    omega (arith, first.unended, second.begun, years_rise (first.year + 1) second.year (omega (arith, h)))

one_year : (zone : Zone) (day m n : ℕ) (first : IsNoon zone day m) (second : IsNoon zone day n) → first.year ≡ second.year
one_year zone day m n first second =
    let least : first.year ≤ second.year = not_less second.year first.year (no_earlier zone day n m second first) in
    let most : second.year ≤ first.year = not_less first.year second.year (no_earlier zone day m n first second) in
    omega (arith, least, most)
  where
    not_less : (x y : ℕ) → (x < y → ⊥) → y ≤ x
    not_less x y h = grind (arith, h)

-- a day has one noon in a zone
pub one_noon : (zone : Zone) (day m n : ℕ) → IsNoon zone day m → IsNoon zone day n → m ≡ n
one_noon zone day m n first second =
    let east = ap (λ (y : ℕ). east_on zone y day) (one_year zone day m n first second) in
    omega (arith, ints, first.is, second.is, east)

-- ---- the years

pub AreYears-none : (zone : Zone) → AreYears zone []
AreYears-none zone = record { each = λ i d h. absurd (omega (arith, h)) }

pub AreYears-push : (zone : Zone) (years : List Year) (year : Year) → AreYears zone years → IsYear zone year → year.number ≡ 1970 + length years → AreYears zone (years ++ year ∷ [])
AreYears-push zone years year all is number = record {
  each = λ i d h.
      let n = length-append years (year ∷ []) in
      let le : i ≤ length years = omega (arith, h, n) in
      let P : Year → Type 0 = λ y. IsYear zone y × (y.number ≡ 1970 + i) in
      elim (eq-or-lt_of_le le) [
        | inl e ↦
            let at : get_or (years ++ year ∷ []) i d ≡ year = ap (λ (k : ℕ). get_or (years ++ year ∷ []) k d) e ∙ get_or-append_seam years year [] d in
            subst P (sym at) (is, omega (arith, number, e))
        | inr l ↦ subst P (sym (get_or-append years (year ∷ []) d i l)) (all.each i d l)
      ];
}

-- where a year of the zone ends
ends : (zone : Zone) (years : List Year) → AreYears zone years → (i : ℕ) (d : Year) → i < length years → (get_or years i d).next ≡ day_number (1971 + i) 1 1
ends zone years all i d h =
    let it = all.each i d h in
    it.0.next ∙ ap (λ (y : ℕ). day_number y 1 1) (omega (arith, it.1))

pub years_in_order : (zone : Zone) (years : List Year) → AreYears zone years → IsNonDecreasingBy (λ (year : Year). year.next) years
years_in_order zone years all i j d le h =
    omega (arith, ends zone years all i d (omega (arith, le, h)), ends zone years all j d h, years_rise (1971 + i) (1971 + j) (omega (arith, le)))

abbrev pub EndsBy : ℕ → Year → Bool
EndsBy day year = leb year.next day

-- the first year that ends behind the day holds it
pub found : (zone : Zone) (years : List Year) (day i : ℕ) → AreAllYears zone years → day ≤ LAST_DAY → i ≤ length years
    → IsPartitionPoint (λ y. EndsBy day y ≡ true) (λ y. EndsBy day y ≡ false) years i → HoldsDay zone years day i
found zone years day i all high within point =
    let inside : i < length years = some_left (eq-or-lt_of_le within) in record {
      inside = inside;
      is = λ d. (all.each_year.each i d inside).0;
      begun = λ d. begun d i inside (all.each_year.each i d inside).1 point;
      unended = λ d. omega (arith, leb-false _ _ (point.1 i d (omega arith) inside), (all.each_year.each i d inside).0.next);
    }
  where
    some_left : (i ≡ length years) ⊎ (i < length years) → i < length years
    some_left (inr l) = l
    some_left (inl e) =
        let d : Year = record { number = 0; next = 0; season = None } in
        let last : 229 < length years = omega (arith, all.count) in
        let told = leb-true _ _ (point.0 229 d (omega arith) (omega (arith, e, last))) in
        absurd (omega (arith, told, high, ends zone years all.each_year 229 d last, day_number-end))

    begun : (d : Year) (i : ℕ) → i < length years → (get_or years i d).number ≡ 1970 + i → IsPartitionPoint (λ y. EndsBy day y ≡ true) (λ y. EndsBy day y ≡ false) years i → day_number (get_or years i d).number 1 1 ≤ day
    begun d zero h number point = omega (arith, day_number-epoch, ap (λ (y : ℕ). day_number y 1 1) number)
    begun d (suc k) h number point =
        let before = ends zone years all.each_year k d (omega (arith, h)) in
        let told = leb-true _ _ (point.0 k d (omega arith) (omega arith)) in
        let same : day_number (get_or years (suc k) d).number 1 1 ≡ day_number (1971 + k) 1 1 = ap (λ (y : ℕ). day_number y 1 1) (omega (arith, number)) in
        omega (arith, before, told, same)

-- the noon that such a year gives is that of the list
pub noon_found : (zone : Zone) (day moment : ℕ) (year : Year) → IsZone zone → FIRST_DAY ≤ day → day ≤ LAST_DAY
    → day_number year.number 1 1 ≤ day → day < day_number (year.number + 1) 1 1
    → pos moment ≡ pos (86400 * day + 43200) -ℤ east_on zone year.number day → moment ≡ get_or (noons_of zone) (day - FIRST_DAY) 0
noon_found zone day moment year h low high begun unended e =
    one_noon zone day moment _ (record { year = year.number; begun = begun; unended = unended; is = e })
    ((noons_are zone h).noon day low (omega (arith, high, length-noons_of zone)))
