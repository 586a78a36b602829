-- Rules of the changes of a window.
use Rattle.std.proofs.Common.{◌≡◌, ℕ, ℤ, ◌+◌, ◌<◌, ◌≤◌, List, sym, ◌∙◌, ap, subst, inl, inr, ◌⊎◌, arith}
use Rattle.std.specs.Prelude.{Contains, Err, IfNone, IfOk, None, Ok, Option, Result, Some}
use Rattle.std.proofs.lemmas.Bool.{cases_eq, cases_lt}
use Rattle.jiff_tz.specs.declared.tzif.Tzif.{Tzif}
use Rattle.ojp_zones.specs.declared.zone.DateRule.{DateRule}
use Rattle.ojp_calendars.specs.Noons.{Fits, east_at}
use Rattle.ojp_calendars.specs.Rules.{HasDates, HasMarks, IsChange, IsDateOf, IsFirstChange, IsMark, NoChangeFits, NoPairFits, last_date, nth_date}
use Rattle.ojp_calendars.specs.Texts.{rule_text}

module _ (table : Tzif) (first last : ℕ) where
  -- two first changes are one
  pub one_change : (a b : ℕ) → IsFirstChange table first last a → IsFirstChange table first last b → a ≡ b
  one_change a b h k = elim (cases_eq a b) [
    | inl e ↦ e
    | inr other ↦ elim (cases_lt a b) [
      | inl low ↦ absurd (h.other (k.before a (omega (arith, h.from)) low))
      | inr high ↦ absurd (k.other (h.before b (omega (arith, k.from)) (omega (arith, high, other))))
    ]
  ]

  has_date : (dates : List DateRule) (day : ℕ) (date : DateRule) → HasMarks table first last dates → IsMark table first last day → IsDateOf day date → Contains dates date
  has_date dates day date has mark (inl e) = subst (λ (d : DateRule). Contains dates d) (sym e) (has day mark).0
  has_date dates day date has mark (inr e) = subst (λ (d : DateRule). Contains dates d) (sym e) (has day mark).1

  pub none_change : (dates : List DateRule) (change : ℕ) (east second : ℤ) → IsFirstChange table first last change → HasMarks table first last dates
      → east ≡ east_at table first → second ≡ east_at table change → NoPairFits table first last east second dates → NoChangeFits table first last
  none_change dates change east second is has e s none = λ other from_day to_day from to it m n d f.
      let same : second ≡ east_at table other = s ∙ ap (λ (x : ℕ). east_at table x) (one_change change other is it) in
      subst (λ (y : ℤ). ¬ Fits table first last (rule_text y (east_at table other) from to)) e
      (subst (λ (y : ℤ). ¬ Fits table first last (rule_text east y from to)) same
      (none from (has_date dates from_day from has m d) to (has_date dates to_day to has n f)))

  -- ---- dates of the window

  abbrev HasBelow : List DateRule → ℕ → Type 0
  HasBelow dates day = (d : ℕ) → first ≤ d → d < day → (d ≡ first) ⊎ IsChange table d → HasDates dates d

  pub has_more : (old new : List DateRule) (day : ℕ) → first < day → ((d : DateRule) → Contains old d → Contains new d)
      → (IsChange table day → HasDates new day) → HasBelow old day → HasBelow new (day + 1)
  has_more old new day after grows added has d low high mark = elim (cases_eq d day) [
    | inl e ↦ elim mark [
      | inl f ↦ absurd (omega (arith, e, f, after))
      | inr change ↦ subst (λ (x : ℕ). HasDates new x) (sym e) (added (subst (λ (x : ℕ). IsChange table x) e change))
    ]
    | inr other ↦ let old_has = has d low (omega (arith, high, other)) mark in (grows (nth_date d) old_has.0, grows (last_date d) old_has.1)
  ]

-- ---- what is known where nothing is given

pub none_map : {A E : Type 0} (r : Result (Option A) E) (P Q : Type 0) → (P → Q) → IfOk r (λ found. IfNone found P) → IfOk r (λ found. IfNone found Q)
none_map (Ok None) P Q f h = f h
none_map (Ok (Some x)) P Q f h = h
none_map (Err e) P Q f h = h
