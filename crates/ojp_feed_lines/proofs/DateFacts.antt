-- The dates that were kept stand in the rows above.
use Rattle.std.proofs.Common.{◌≡◌, ◌⊎◌, ◌<◌, ◌+◌, ◌||◌, ◌&&◌, ℕ, Bool, true, false, not, cond, List, [], ◌∷◌, ◌++◌, length, length-append, get_or, Some, Result, Ok, Err, OnOk, refl, sym, ap, ◌∙◌, subst, inl, inr, nat_eq, arith}
use Rattle.std.specs.Prelude.{Contains}
use Rattle.std.specs.List.{list_any}
use Rattle.std.proofs.lemmas.Bool.{false≢true}
use Rattle.std.proofs.lemmas.Bool.Decides.{Decides-eqb}
use Rattle.std.proofs.lemmas.List.{get_or_append_left}
use Rattle.std.proofs.lemmas.List.Elements.{Contains-append_cases, Contains-append_left, Contains-append_right}
use Rattle.ojp_values.specs.Texts.{Text}
use Rattle.ojp_feed_lines.specs.Causes.{AreSame}
use Rattle.ojp_feed_lines.specs.Columns.{column_name}
use Rattle.ojp_feed_lines.specs.Lines.{IsIdOf}
use Rattle.ojp_feed_lines.specs.RowPlaces.{DatedPlaces}
use Rattle.ojp_feed_lines.specs.Rows.{Record, at_place}
use Rattle.ojp_feed_lines.specs.ServiceDates.{HoldDates, IsDateOf}
use Rattle.ojp_feed_lines.specs.declared.columns.Column.TheVariants as columns
use Rattle.ojp_feed_lines.specs.declared.services.Dated.{Dated}
use Rattle.ojp_feed_lines.specs.declared.services.DatedColumns.{DatedColumns}

-- no date was kept yet
pub no_dates : (ids : List Text) (dates : List Dated) (c : DatedColumns) → length dates ≡ 0 → HoldDates ids dates c []
no_dates ids dates c none dated (k, below, at) = absurd (omega (arith, below, none))

-- ids that stand before others keep their numbers
pub number_kept : (ids more : List Text) (number : ℕ) (id : Text) → IsIdOf ids number id → IsIdOf (ids ++ more) number id
number_kept ids more number id (below, at) = (omega (arith, below, length-append ids more), get_or_append_left ids more [] number below ∙ at)

-- two dates are one by their service and their day
abbrev pub dated_eq : Dated → Dated → Bool
dated_eq x y = nat_eq x.service y.service && nat_eq x.day y.day

both : (a b : Bool) → (a && b) ≡ true → (a ≡ true) × (b ≡ true)
both true b e = (refl, e)
both false b e = absurd (false≢true e)

pub dated_decides : (x y : Dated) → dated_eq x y ≡ true → x ≡ y
dated_decides x y e =
    let (service, day) = both (nat_eq x.service y.service) (nat_eq x.day y.day) e in
    let s : x.service ≡ y.service = (Decides-eqb x.service y.service).0 service in
    let d : x.day ≡ y.day = (Decides-eqb x.day y.day).0 day in
    λ i. record { service = s i; day = d i }

-- a date that a test finds is there
pub any_date : (eq : Dated → Dated → Bool) → ((x y : Dated) → eq x y ≡ true → x ≡ y) → (ks : List Dated) (dated : Dated) → list_any (eq dated) ks ≡ true → Contains ks dated
any_date eq decides [] dated e = absurd (false≢true e)
any_date eq decides (k ∷ ks) dated e = by (eq dated k) (any_date eq decides ks dated) refl e
  where
    by : (b : Bool) → (list_any (eq dated) ks ≡ true → Contains ks dated) → b ≡ eq dated k → (b || list_any (eq dated) ks) ≡ true → Contains (k ∷ ks) dated
    by true more same e = (0, omega arith, sym (decides dated k (sym same)))
    by false more same e = Contains-append_right (k ∷ []) ks dated (more e)

was_there : (any added : Bool) → added ≡ false → added ≡ not any → any ≡ true
was_there true added is e = refl
was_there false added is e = absurd (false≢true (sym is ∙ e))

pub date_there : (eq : Dated → Dated → Bool) → ((x y : Dated) → eq x y ≡ true → x ≡ y) → (ks : List Dated) (dated : Dated) (added : Bool)
    → added ≡ false → added ≡ not (list_any (eq dated) ks) → Contains ks dated
date_there eq decides ks dated added is e = any_date eq decides ks dated (was_there (list_any (eq dated) ks) added is e)

goes_last : (any added : Bool) (ks new : List Dated) (dated : Dated) → added ≡ true → added ≡ not any → new ≡ cond any ks (ks ++ dated ∷ []) → new ≡ ks ++ dated ∷ []
goes_last true added ks new dated is e n = absurd (false≢true (sym e ∙ is))
goes_last false added ks new dated is e n = n

pub date_last : (eq : Dated → Dated → Bool) (ks new : List Dated) (dated : Dated) (added : Bool)
    → added ≡ true → added ≡ not (list_any (eq dated) ks) → new ≡ cond (list_any (eq dated) ks) ks (ks ++ dated ∷ []) → new ≡ ks ++ dated ∷ []
date_last eq ks new dated added is e n = goes_last (list_any (eq dated) ks) added ks new dated is e n

-- what holds always holds at success
pub holds_on : {A E P : Type 0} (r : Result A E) → P → OnOk r P
holds_on (Ok x) p = p
holds_on (Err e) p = tt

-- one row more
module _ (ids new_ids : List Text) (dates new_dates : List Dated) (c : DatedColumns) (rows : List Record) (row : Record) (dated : Dated)
    (kept : (number : ℕ) (id : Text) → IsIdOf ids number id → IsIdOf new_ids number id) where
  still : (other : Record) (one : Dated) → IsDateOf ids c other one → IsDateOf new_ids c other one
  still other one is = record { service = kept one.service (at_place other (Some c.id)) is.service; day = is.day }

  pub dates_more : new_dates ≡ dates ++ dated ∷ [] → IsDateOf new_ids c row dated → HoldDates ids dates c rows → HoldDates new_ids new_dates c (rows ++ row ∷ [])
  dates_more grown is held one there = by (Contains-append_cases dates (dated ∷ []) one (subst (λ (ds : List Dated). Contains ds one) grown there))
    where
      by : Contains dates one ⊎ Contains (dated ∷ []) one → (other : Record) × Contains (rows ++ row ∷ []) other × IsDateOf new_ids c other one
      by (inl old) =
          let (other, among, stands) = held one old in
          (other, Contains-append_left rows (row ∷ []) other among, still other one stands)
      by (inr (k, below, at)) =
          let zero : k ≡ 0 = omega (arith, below) in
          let same : dated ≡ one = subst (λ (n : ℕ). get_or (dated ∷ []) n one ≡ one) zero at in
          (row, Contains-append_right rows (row ∷ []) row (0, omega arith, refl), subst (λ (d : Dated). IsDateOf new_ids c row d) same is)

-- a date that was kept stands in a row above, of the same service
pub dated_above : (ids new_ids : List Text) (dates : List Dated) (c : DatedColumns) (head : Record) (above : List Record) (row : Record) (dated : Dated)
    → ((number : ℕ) (id : Text) → IsIdOf ids number id → IsIdOf new_ids number id) → DatedPlaces c head
    → HoldDates ids dates c above → IsDateOf new_ids c row dated → Contains dates dated
    → (other : Record) × Contains above other × AreSame columns.Date head other row × AreSame columns.ServiceId head other row
dated_above ids new_ids dates c head above row dated kept placed held is there =
    let (other, among, stands) = held dated there in
    let id = kept dated.service (at_place other (Some c.id)) stands.service in (
      other,
      among,
      placed.date other ∙ (stands.day ∙ sym is.day) ∙ sym (placed.date row),
      placed.id other ∙ (sym id.1 ∙ is.service.1) ∙ sym (placed.id row),
    )
