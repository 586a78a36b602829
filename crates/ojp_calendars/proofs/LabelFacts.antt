-- Labels of services are labels.
use Rattle.std.proofs.Common.{◌≡◌, ℕ, ◌+◌, ◌/◌, ◌%◌, ◌<◌, ◌≤◌, ◌&&◌, ◌++◌, Bool, true, false, List, ◌∷◌, get_or, refl, ◌∙◌, ap, arith}
use Rattle.std.specs.List.{list_all}
use Rattle.std.proofs.lemmas.List.Folds.{list_all-append}
use Rattle.std.proofs.lemmas.Bool.Decides.{nat_tests}
use Rattle.ojp_values.specs.Dates.{IsWritable, date_of, four, two}
use Rattle.ojp_values.specs.Texts.{Text, is_label, is_local_byte}
use Rattle.ojp_values.specs.declared.dates.CalendarDate.{CalendarDate}
use Rattle.ojp_values.proofs.Calendar.{date_is_writable, days_have_dates}
use Rattle.ojp_calendars.specs.Labels.{compact, label_text, letter, letters}
use Rattle.ojp_calendars.specs.declared.day_box.DayBox.{DayBox}

abbrev AreLocal : Text → Type 0
AreLocal text = list_all is_local_byte text ≡ true

both : (a b : Bool) → a ≡ true → b ≡ true → (a && b) ≡ true
both a b h k = ap (λ (x : Bool). x && b) h ∙ k

digit : (d : ℕ) → d ≤ 9 → is_local_byte (48 + d) ≡ true
digit d h = grind (arith, nat_tests)

two_local : (n : ℕ) → n < 100 → AreLocal (two n)
two_local n h = both _ _ (digit (n / 10) (omega (arith, h))) (both _ _ (digit (n % 10) (omega arith)) refl)

joined : (xs ys : Text) → AreLocal xs → AreLocal ys → AreLocal (xs ++ ys)
joined xs ys h k = list_all-append is_local_byte xs ys ∙ both _ _ h k

four_local : (n : ℕ) → n < 10_000 → AreLocal (four n)
four_local n h = joined (two (n / 100)) (two (n % 100)) (two_local (n / 100) (omega (arith, h))) (two_local (n % 100) (omega arith))

date_local : (date : CalendarDate) → IsWritable date → AreLocal (compact date)
date_local date h =
    joined (four date.year) (two date.month ++ two date.day) (four_local date.year h.year)
    (joined (two date.month) (two date.day) (two_local date.month h.month) (two_local date.day h.day))

letter_local : (b : Bool) (sign : ℕ) → is_local_byte sign ≡ true → is_local_byte (letter b sign) ≡ true
letter_local true sign h = h
letter_local false sign h = refl

letters_local : (weekdays : List Bool) → AreLocal (letters weekdays)
letters_local weekdays =
    both _ _ (letter_local (get_or weekdays 0 false) 77 refl) (both _ _ (letter_local (get_or weekdays 1 false) 84 refl) (both _ _ (letter_local (get_or weekdays 2 false) 87 refl)
    (both _ _ (letter_local (get_or weekdays 3 false) 84 refl) (both _ _ (letter_local (get_or weekdays 4 false) 70 refl) (both _ _ (letter_local (get_or weekdays 5 false) 83 refl)
    (both _ _ (letter_local (get_or weekdays 6 false) 83 refl) refl))))))

day_local : (day : ℕ) → day ≤ 84_005 → AreLocal (compact (date_of day))
day_local day h = date_local (date_of day) (date_is_writable (date_of day) (days_have_dates day h).0)

pub label_is_label : (days : DayBox) → days.first ≤ 84_002 → days.last ≤ 84_002 → is_label (label_text days) ≡ true
unfolding label_text
label_is_label days h k =
    joined (compact (date_of days.first)) (45 ∷ compact (date_of days.last) ++ 45 ∷ letters days.weekdays) (day_local days.first (omega (arith, h)))
    (joined (compact (date_of days.last)) (45 ∷ letters days.weekdays) (day_local days.last (omega (arith, k))) (letters_local days.weekdays))
