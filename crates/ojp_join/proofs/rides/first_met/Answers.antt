use Rattle.std.proofs.Common.{◌≡◌, ℕ, List, Some, length, slice_get, refl, subst, arith, inl, inr}
use Rattle.std.proofs.Math.Nat.{eq-or-lt_of_le}
use Rattle.std.proofs.lemmas.Option.{slice_get_read, slice_get_within}
use Rattle.ojp_values.proofs.EachFacts.{up_to}
use Rattle.ojp_values.specs.Texts.{Text}
use Rattle.ojp_values.specs.declared.replies.TripResult.{TripResult}
use Rattle.ojp_values.specs.declared.replies.TripResult.TheVariants as results
use Rattle.ojp_timetable.proofs.ReadFacts.{at_among, read_once}
use Rattle.ojp_exchange.specs.Book.{Book}
use Rattle.ojp_join.specs.declared.rides.Need.{Need}
use Rattle.ojp_join.specs.Rides.{IsFound, IsMet}
use Rattle.ojp_join.proofs.rides.first_met.Goals as goal

found_met : (book : Book) (need : Need) (region : Text) (found : List TripResult) (number : ℕ) (result : TripResult) → slice_get found number ≡ Some result → IsMet book need region result → IsFound book need region found number
found_met book need region found number (results.Trip trip) at met = (trip, at, met)
found_met book need region found number (results.NoTrip stop) at met = absurd met

pub returns-then-is_met : goal.returns-then-is_met
returns-then-is_met c =
    let found = c.args.found.now in
    let here = slice_get_read found (length found) c.found.number c.index-found-number.result refl c.found-test.true c.index-found-number.is in
    found_met c.args.book.now c.args.need.now c.args.region found c.found.number c.index-found-number.result here c.if-is_met.ensures

pub found-preserved : goal.found-preserved
found-preserved c k result at less =
    let found = c.args.found.now in
    let here = slice_get_read found (length found) c.found.number c.index-found-number.result refl c.found-test.true c.index-found-number.is in
    elim (eq-or-lt_of_le (up_to k c.found.number less)) [
      | inl e ↦ λ met. c.if-is_met.ensures (subst (IsMet c.args.book.now c.args.need.now c.args.region) (read_once found k c.found.number result c.index-found-number.result e at here) met)
      | inr m ↦ c.found.invariant k result at m
    ]

pub returns : goal.returns
returns c result a =
    let at = at_among c.args.found.now result a in
    let within = slice_get_within c.args.found.now at.0 result at.1 in
    c.found.invariant at.0 result at.1 (omega (arith, within, c.found-test.false))
