use Rattle.std.proofs.Common.{sym, subst, arith, inl, inr}
use Rattle.std.proofs.Math.Nat.{eq-or-lt_of_le}
use Rattle.ojp_values.proofs.EachFacts.{up_to}
use Rattle.ojp_join.specs.Rides.{HasNoRide}
use Rattle.ojp_join.proofs.rides.ride_for.Goals as goal

pub returns-in-Some : goal.returns-in-Some
returns-in-Some c = (omega (arith, c.in-Some.ensures.0, c.entries-test.true), c.in-Some.ensures.1, c.in-Some.ensures.2, c.in-Some.ensures.3)

pub entries-preserved : goal.entries-preserved
entries-preserved c k less =
    elim (eq-or-lt_of_le (up_to k c.entries.entry less)) [
      | inl e ↦ subst (HasNoRide c.args.book.now c.args.need.now c.args.told.now) (sym e) c.in_default.ensures
      | inr m ↦ c.entries.invariant k m
    ]

pub returns : goal.returns
returns c k less = c.entries.invariant k (omega (arith, less, c.entries-test.false))
