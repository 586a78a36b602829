-- Days of services, and the boxes over them.
use Rattle.std.proofs.Common.{◌≡◌, ℕ, ◌+◌, ◌-◌, ◌<◌, ◌≤◌, ◌&&◌, Bool, false, cond, List, [], ◌∷◌, ◌++◌, length, get_or, map, take, sym, ◌∙◌, ap, subst, arith, leb, inl, inr}
use Rattle.std.proofs.lemmas.Bool.{and_left, and_right, and_from, cases_lt, le-leb, lt-leb}
use Rattle.std.proofs.lemmas.List.{get_or_append_left, get_or_past, get_or_push, length_push, map_push, take_all, take_more}
use Rattle.std.proofs.lemmas.List.Sums.{fold_more}
use Rattle.std.specs.List.{AllZip, fold}
use Rattle.ojp_calendars.specs.Days.{AreExact, boxes_over, has_day}
use Rattle.ojp_calendars.specs.declared.day_box.DayBox.{DayBox}
use Rattle.ojp_feed_rows.specs.declared.services.Exception.{Exception}
use Rattle.ojp_feed_rows.specs.declared.services.Service.{Service}
use Rattle.ojp_feed_rows.specs.declared.settings.Window.{Window}
use Rattle.ojp_feed_plans.specs.Days.{AreBoxes, AreDays, excepted, first_of, is_within, last_of, runs, runs_weekly}

-- the marks of so many days by the row of `calendar.txt` alone, and one more
pub weekly_more : (service : Service) (first day : ℕ) (days new : List Bool) (on : Bool) → length days ≡ day - first → first ≤ day
    → ((k : ℕ) → k < length days → get_or days k false ≡ runs_weekly service.weekly (first + k)) → new ≡ days ++ on ∷ [] → on ≡ runs_weekly service.weekly day
    → (k : ℕ) → k < length new → get_or new k false ≡ runs_weekly service.weekly (first + k)
weekly_more service first day days new on long above before step is k h =
    let more : length new ≡ length days + 1 = ap length step ∙ length_push days on in
    elim (cases_lt k (length days)) [
      | inl l ↦ ap (λ (xs : List Bool). get_or xs k false) step ∙ (get_or_append_left days (on ∷ []) false k l ∙ before k l)
      | inr g ↦
          let at : length days ≡ k = omega arith in
          let same : day ≡ first + k = omega arith in
          ap (λ (xs : List Bool). get_or xs k false) step ∙ (get_or_push days on false k at ∙ (is ∙ ap (runs_weekly service.weekly) same))
    ]

-- the marks behind the first i exceptions, and behind one more
pub excepted_more : (service : Service) (first i : ℕ) (days new : List Bool) (exception : Exception) → length new ≡ length days → i < length service.exceptions.items
    → exception ≡ get_or service.exceptions.items i exception
    → ((k : ℕ) → k < length days → get_or days k false ≡ fold (excepted (first + k)) (runs_weekly service.weekly (first + k)) (take i service.exceptions.items))
    → ((k : ℕ) → k < length days → get_or new k false ≡ excepted (first + k) (get_or days k false) exception)
    → (k : ℕ) → k < length new → get_or new k false ≡ fold (excepted (first + k)) (runs_weekly service.weekly (first + k)) (take (i + 1) service.exceptions.items)
excepted_more service first i days new exception long here is before step k h =
    let l : k < length days = omega arith in
    step k l
    ∙ (ap (λ (b : Bool). excepted (first + k) b exception) (before k l)
    ∙ (ap (λ (e : Exception). excepted (first + k) (fold (excepted (first + k)) (runs_weekly service.weekly (first + k)) (take i service.exceptions.items)) e) is
    ∙ sym (fold_more (excepted (first + k)) (runs_weekly service.weekly (first + k)) service.exceptions.items i exception here)))

-- behind all exceptions
pub days_are : (service : Service) (first last i : ℕ) (days : List Bool) → length service.exceptions.items ≤ i → length days ≡ (last + 1) - first
    → ((k : ℕ) → k < length days → get_or days k false ≡ fold (excepted (first + k)) (runs_weekly service.weekly (first + k)) (take i service.exceptions.items))
    → AreDays service first last days
unfolding runs
days_are service first last i days behind long each = record {
  long = long;
  each = λ k h. each k h ∙ ap (fold (excepted (first + k)) (runs_weekly service.weekly (first + k))) (take_all i service.exceptions.items behind);
}

-- the set of marked days has a day where it is in the window and the service runs on it
pub has_is : (service : Service) (window : Window) (days : List Bool) → AreDays service (first_of window) (last_of window) days → (day : ℕ)
    → has_day (first_of window) days day ≡ (is_within window day && runs service day)
unfolding has_day
has_is service window days are day =
    let first = first_of window in
    let last = last_of window in
    elim (cases_lt day first) [
      | inl below ↦
          let no = lt-leb first day below in
          and_left (leb first day) (get_or days (day - first) false) no
          ∙ sym (and_left (is_within window day) (runs service day) (and_left (leb first day) (leb day last) no))
      | inr above ↦
          let yes = le-leb first day above in
          let front : (leb first day && get_or days (day - first) false) ≡ get_or days (day - first) false = ap (λ (b : Bool). b && get_or days (day - first) false) yes in
          elim (cases_lt last day) [
            | inl past ↦
                let no = lt-leb day last past in
                let long : length days ≤ day - first = omega (arith, are.long) in
                front ∙ (get_or_past days (day - first) false long
                ∙ sym (and_left (is_within window day) (runs service day) (and_right (leb first day) (leb day last) no)))
            | inr within ↦
                let in_it = le-leb day last within in
                let small : day - first < length days = omega (arith, are.long) in
                let same : first + (day - first) ≡ day = omega arith in
                front ∙ (are.each (day - first) small
                ∙ (ap (runs service) same
                ∙ sym (ap (λ (b : Bool). b && runs service day) (and_from (leb first day) (leb day last) yes in_it))))
          ]
    ]

pub boxes_are : (service : Service) (window : Window) (days : List Bool) (boxes : List DayBox) → AreDays service (first_of window) (last_of window) days → AreExact (first_of window) days boxes
    → AreBoxes service window boxes
unfolding AreBoxes
boxes_are service window days boxes are exact = λ day. exact day ∙ ap (λ (b : Bool). cond b 1 0) (has_is service window days are day)

-- a window that begins behind the last operating day has no days
pub no_boxes : (service : Service) (window : Window) → 84002 < first_of window → AreBoxes service window []
unfolding AreBoxes boxes_over
no_boxes service window h = λ day.
    let no : is_within window day ≡ false =
    elim (cases_lt day (first_of window)) [
      | inl below ↦ and_left (leb (first_of window) day) (leb day (last_of window)) (lt-leb (first_of window) day below)
      | inr above ↦ and_right (leb (first_of window) day) (leb day (last_of window)) (lt-leb day (last_of window) (omega arith))
    ] in
    sym (ap (λ (b : Bool). cond (b && runs service day) 1 0) no)

all_zip_push : {A B : Type 0} (R : A → B → Type 0) (xs : List A) (ys : List B) (x : A) (y : B) → AllZip R xs ys → R x y → AllZip R (xs ++ x ∷ []) (ys ++ y ∷ [])
all_zip_push R [] [] x y all is = (is, tt)
all_zip_push R [] (w ∷ ys) x y all is = absurd all
all_zip_push R (v ∷ xs) [] x y all is = absurd all
all_zip_push R (v ∷ xs) (w ∷ ys) x y all is = (all.0, all_zip_push R xs ys x y all.1 is)

-- the boxes of one service more
pub boxes_more : {V : Type 0} (items : V → List DayBox) (window : Window) (services : List Service) (i : ℕ) (service : Service) (all new : List V) (v : V) → i < length services → service ≡ get_or services i service
    → AllZip (λ service boxes. AreBoxes service window boxes) (take i services) (map items all) → AreBoxes service window (items v) → new ≡ all ++ v ∷ []
    → AllZip (λ service boxes. AreBoxes service window boxes) (take (i + 1) services) (map items new)
boxes_more {V} items window services i service all new v h is before are step =
    let R : Service → List DayBox → Type 0 = λ service boxes. AreBoxes service window boxes in
    let both : AllZip R (take i services ++ service ∷ []) (map items all ++ items v ∷ []) = all_zip_push R (take i services) (map items all) service (items v) before are in
    let front : take (i + 1) services ≡ take i services ++ service ∷ [] = take_more services i service h ∙ ap (λ (s : Service). take i services ++ s ∷ []) (sym is) in
    let back : map items new ≡ map items all ++ items v ∷ [] = ap (map items) step ∙ map_push items all v in
    subst (λ (xs : List Service). AllZip R xs (map items new)) (sym front) (subst (λ (ys : List (List DayBox)). AllZip R (take i services ++ service ∷ []) ys) (sym back) both)
