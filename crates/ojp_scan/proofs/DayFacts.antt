-- Four days have every run of a window.
use Rattle.std.proofs.Common.{◌≡◌, ℕ, ◌+◌, ◌*◌, ◌/◌, ◌%◌, ◌<◌, ◌≤◌, ◌^◌, ◌↔◌, true, false, length, ap, subst, inl, inr, arith, slice_index, ◌∙◌}
use Rattle.std.specs.Prelude.{slice_index_or}
use Rattle.std.proofs.lemmas.Bool.{cases_lt}
use Rattle.std.proofs.lemmas.List.{get_or_past}
use Rattle.ojp_values.specs.declared.moments.TheConstants.{FIRST_DAY, LAST_DAY}
use Rattle.ojp_timetable.specs.Tables.{Timetable}
use Rattle.ojp_timetable.specs.Runs.{IsWell, RunsOn, moment}
use Rattle.ojp_sweep.specs.declared.connections.Days.{Days}
use Rattle.ojp_scan.specs.Days.{CoverWindow, AreDaysFrom}
use Rattle.ojp_timetable.proofs.ReadFacts.{moment_high, moment_low}

-- a run that is left from the start on, and that is at an end within a day, is of one of the four days
pub on-four-days : (table : Timetable) → IsWell table → (first start day u v : ℕ) → CoverWindow first start → FIRST_DAY ≤ day → day ≤ LAST_DAY → u ≤ 129600 → start ≤ moment table day u → moment table day v ≤ start + 86400
    → (first ≤ day) × (day < first + 4)
on-four-days table well first start day u v window low high offset late early =
    let above = moment_high table well day u low high in
    let below = moment_low table well day v low high in
    window day (omega arith) (omega arith)

-- a moment is that of the day's base
pub moment-base : (table : Timetable) (day offset : ℕ) → moment table day 0 + offset ≡ moment table day offset
unfolding moment
moment-base table day offset = omega arith

module _ (days : Days) (table : Timetable) (first : ℕ) (are : AreDaysFrom days table first) where
  pub base-low : (day : ℕ) → slice_index days.bases.items day ≤ 2 ^ 40
  base-low day =
      elim (cases_lt day 4) [
        | inl lt ↦ (are.bases.is day lt).low
        | inr ge ↦ let past = get_or_past days.bases.items day 0 (omega (arith, are.bases.length_is)) in omega arith
      ]

  pub moment-is : (day offset : ℕ) → day < 4 → FIRST_DAY ≤ first + day → first + day ≤ LAST_DAY → slice_index days.bases.items day + offset ≡ moment table (first + day) offset
  moment-is day offset h low high = ap (λ n. n + offset) ((are.bases.is day h).is low high) ∙ moment-base table (first + day) offset

  pub marks-tell : (service day : ℕ) → day < 4 → service < length table.services → (slice_index_or days.running.items (4 * service + day) false ≡ true) ↔ RunsOn table service (first + day)
  marks-tell service day h within =
      let quotient : (4 * service + day) / 4 ≡ service = omega arith in
      let rest : (4 * service + day) % 4 ≡ day = omega arith in
      subst (λ q. (slice_index_or days.running.items (4 * service + day) false ≡ true) ↔ RunsOn table q (first + day)) quotient
      (subst (λ r. (slice_index_or days.running.items (4 * service + day) false ≡ true) ↔ RunsOn table ((4 * service + day) / 4) (first + r)) rest
      (are.running.is (4 * service + day) (omega arith)))
