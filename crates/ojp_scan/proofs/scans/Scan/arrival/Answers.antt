use Rattle.std.proofs.Common.{◌≡◌, ◌∙◌, ℕ, sym, ap, subst, Option, Some, Result, Ok, Err, IsOk, IfOk, true≢false}
use Rattle.std.specs.Prelude.{MatchOption}
use Rattle.std.specs.Result.{result_ok}
use Rattle.ojp_values.specs.Lists.{Earliest}
use Rattle.ojp_timetable.specs.Journeys.{ArrivesWithin}
use Rattle.ojp_timetable.specs.Answers.{HasNoTrip}
use Rattle.ojp_scan.proofs.ScanFacts.{no-number-no-trip, origin-no-trip, never-no-trip, first-earliest, first-bound}
use Rattle.ojp_scan.proofs.scans.Scan.arrival.Goals as goal

-- what is told of an instant in range
told : {E : Type 0} (r : Result ℕ E) (o : Option ℕ) (v : ℕ) → o ≡ result_ok r → IsOk r → IfOk r (λ i. i ≡ v) → o ≡ Some v
told (Ok i) o v e ok value = e ∙ ap Some value
told (Err x) o v e ok value = absurd (true≢false (sym ok))

pub returns-in_err-place : goal.returns-in_err-place
returns-in_err-place c table origin start found =
    let stop = c.args.stop in
    subst (λ r. MatchOption r (HasNoTrip table origin start stop) (λ moment. Earliest (ArrivesWithin table origin start stop) moment)) (sym c.from_residual.ensures)
    (no-number-no-trip c.args.self.now table origin start found stop (sym (c.in_err-place.ensures table found.made)))

pub returns-then-place-self : goal.returns-then-place-self
returns-then-place-self c table origin start found =
    origin-no-trip c.args.self.now table origin start found c.args.stop c.in_ok-place.place (sym (c.in_ok-place.ensures table found.made)) c.if-place-self.true

pub returns-in_err-arrives : goal.returns-in_err-arrives
returns-in_err-arrives c table origin start found =
    let s = c.args.self.now in
    let stop = c.args.stop in
    subst (λ r. MatchOption r (HasNoTrip table origin start stop) (λ moment. Earliest (ArrivesWithin table origin start stop) moment)) (sym c.from_residual-in_err-arrives.ensures)
    (never-no-trip s table origin start found stop c.in_ok-place.place (sym (c.in_ok-place.ensures table found.made)) (c.in_err-arrives.ensures.whole s.days s.asked found.found))

pub returns : goal.returns
returns c table origin start found =
    let s = c.args.self.now in
    let stop = c.args.stop in
    let number = sym (c.in_ok-place.ensures table found.made) in
    let first = c.in_ok-arrives.ensures.whole s.days s.asked found.found in
    let bound = first-bound s table origin start found stop c.in_ok-place.place number c.in_ok-arrives.arrives first in
    let gave = told c.new.result c.ok.result c.in_ok-arrives.arrives c.ok.ensures.value (c.new.ensures.exact.1 bound) c.new.ensures.value in
    subst (λ r. MatchOption r (HasNoTrip table origin start stop) (λ moment. Earliest (ArrivesWithin table origin start stop) moment)) (sym gave)
    (first-earliest s table origin start found stop c.in_ok-place.place number c.in_ok-arrives.arrives c.if-place-self.false first)
