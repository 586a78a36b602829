-- Journeys that are read by their numbers, and when a moment of an operating day may be.
use Rattle.std.proofs.Common.{◌≡◌, ℕ, suc, zero, ◌+◌, ◌*◌, ◌≤◌, List, [], ◌∷◌, length, Some, None, sym, ◌∙◌, ap, arith, slice_get}
use Rattle.std.specs.Prelude.{Option, option_map, unwrap_or}
use Rattle.std.proofs.lemmas.List.Sums.{sum_by-cons}
use Rattle.std.proofs.lemmas.Option.{none-some, same_Some}
pub use Rattle.ojp_values.proofs.EachFacts.{among_at, at_among, read_at, read_once}
use Rattle.ojp_values.proofs.EachFacts.{each_read}
use Rattle.ojp_values.specs.declared.moments.TheConstants.{FIRST_DAY, LAST_DAY}
use Rattle.ojp_timetable.specs.Tables.{Journey, Timetable}
use Rattle.ojp_timetable.specs.Runs.{HaveOwnLabels, IsWell, calls_of, moment}
use Rattle.ojp_timetable.specs.Views.{calls_at, view_of}
use Rattle.ojp_timetable.specs.declared.kept.JourneyView.{JourneyView}

-- journeys of one label have one number
pub one_number : (journeys : List Journey) (i k : ℕ) (x y : Journey) → HaveOwnLabels journeys → slice_get journeys i ≡ Some x → slice_get journeys k ≡ Some y → x.id ≡ y.id → i ≡ k
one_number [] i k x y h a b e = absurd (none-some x a)
one_number (j ∷ js) zero zero x y h a b e = omega arith
one_number (j ∷ js) zero (suc k) x y h a b e =
    absurd (each_read (λ (other : Journey). j.id ≡ other.id → ⊥) js k y h.0 b (ap (λ (o : Journey). o.id) (same_Some j x a) ∙ e))
one_number (j ∷ js) (suc i) zero x y h a b e =
    absurd (each_read (λ (other : Journey). j.id ≡ other.id → ⊥) js i x h.0 a (ap (λ (o : Journey). o.id) (same_Some j y b) ∙ sym e))
one_number (j ∷ js) (suc i) (suc k) x y h a b e = ap (λ (n : ℕ). suc n) (one_number js i k x y h.1 a b e)

-- a journey tells how many calls it has
pub calls_told : (journeys : List Journey) (i : ℕ) (view : JourneyView) → Some view ≡ option_map view_of (slice_get journeys i) → view.calls ≡ length (calls_at journeys i)
unfolding calls_at
calls_told journeys i view e = of_journey (slice_get journeys i) e
  where
    of_journey : (o : Option Journey) → Some view ≡ option_map view_of o → view.calls ≡ length (unwrap_or (option_map (λ (journey : Journey). journey.calls) o) [])
    of_journey None e = absurd (none-some view (sym e))
    of_journey (Some journey) e = ap (λ (v : JourneyView). v.calls) (same_Some view (view_of journey) e)

-- the calls of a journey are not more than those of all journeys
pub calls_among : (journeys : List Journey) (i : ℕ) (of : Journey) → slice_get journeys i ≡ Some of → length of.calls ≤ calls_of journeys
calls_among [] i of e = absurd (none-some of e)
calls_among (j ∷ js) zero of e =
    let same : length j.calls ≡ length of.calls = ap (λ (k : Journey). length k.calls) (same_Some j of e) in
    omega (arith, same, sum_by-cons (λ (k : Journey). length k.calls) j js)
calls_among (j ∷ js) (suc i) of e = omega (arith, calls_among js i of e, sum_by-cons (λ (k : Journey). length k.calls) j js)

-- the journey of a number, as it is seen
pub view_is : (journeys : List Journey) (i : ℕ) (of : Journey) (view : JourneyView) → slice_get journeys i ≡ Some of → Some view ≡ option_map view_of (slice_get journeys i) → view ≡ view_of of
view_is journeys i of view at e = same_Some view (view_of of) (e ∙ ap (option_map view_of) at)

pub calls_are : (journeys : List Journey) (i : ℕ) (of : Journey) → slice_get journeys i ≡ Some of → calls_at journeys i ≡ of.calls
unfolding calls_at
calls_are journeys i of at = ap (λ (o : Option Journey). unwrap_or (option_map (λ (j : Journey). j.calls) o) []) at

-- a moment is not long before its day begins, nor long after its offset
pub moment_low : (table : Timetable) → IsWell table → (day u : ℕ) → FIRST_DAY ≤ day → day ≤ LAST_DAY → 86400 * day + u ≤ moment table day u + 57540
unfolding moment
moment_low table well day u low high =
    let n = well.noons_low day low high in omega arith

pub moment_high : (table : Timetable) → IsWell table → (day u : ℕ) → FIRST_DAY ≤ day → day ≤ LAST_DAY → moment table day u ≤ 86400 * day + u + 57540
unfolding moment
moment_high table well day u low high =
    let n = well.noons_high day low high in omega arith
