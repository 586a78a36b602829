use Rattle.std.proofs.Common.{ℕ, ◌+◌, ◌-◌, ◌<◌, ◌≤◌, length, arith, refl, sym, ◌∙◌, subst, inl, inr, true≢false}
use Rattle.std.specs.Prelude.{slice_index}
use Rattle.std.proofs.lemmas.Bool.{cases_eq}
use Rattle.ojp_values.specs.declared.moments.TheConstants.{FIRST_DAY}
use Rattle.ojp_calendars.specs.Noons.{ShowsNoon}
use Rattle.ojp_calendars.proofs.noons.have_noons.Goals as goal

pub shows_noon-requires-clause-moment : goal.shows_noon-requires-clause-moment
shows_noon-requires-clause-moment c =
    let day = c.loop-day.day in
    let low : FIRST_DAY ≤ day = omega (arith, c.args.window.now.from) in
    let high : day < FIRST_DAY + length c.args.noons.now = omega (arith, c.args.window.now.to, c.requires.days) in
    omega (arith, c.at.ensures, c.requires.near.high day low high, c.args.window.now.to)

pub loop-day-preserved : goal.loop-day-preserved
loop-day-preserved c d low high =
    let table = c.args.window.now.table.now in
    let noons = c.args.noons.now in
    let shown : ShowsNoon table c.loop-day.day c.at.result = c.shows_noon.ensures.0 c.if-not-shows_noon.false in
    let here : ShowsNoon table c.loop-day.day (slice_index noons (c.loop-day.day - FIRST_DAY)) = subst (λ (m : ℕ). ShowsNoon table c.loop-day.day m) c.at.ensures shown in
    elim (cases_eq d c.loop-day.day) [
      | inl e ↦ subst (λ (x : ℕ). ShowsNoon table x (slice_index noons (x - FIRST_DAY))) (sym e) here
      | inr other ↦ c.loop-day.invariant d low (omega (arith, high, other))
    ]

pub returns-then-not-shows_noon : goal.returns-then-not-shows_noon
returns-then-not-shows_noon c =
    let table = c.args.window.now.table.now in (
      λ e. absurd (true≢false (sym e)),
      λ all.
          let shown : ShowsNoon table c.loop-day.day c.at.result =
          subst (λ (m : ℕ). ShowsNoon table c.loop-day.day m) (sym c.at.ensures) (all c.loop-day.day (omega arith) (omega arith)) in
          absurd (true≢false (sym (c.shows_noon.ensures.1 shown) ∙ c.if-not-shows_noon.true)),
    )

pub returns : goal.returns
returns c = (λ e d low high. c.loop-day.invariant d low (omega (arith, high)), λ all. refl)
