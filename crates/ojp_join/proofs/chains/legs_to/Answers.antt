use Rattle.std.proofs.Common.{◌≡◌, ◌++◌, Bool, Some, None, List, reverse, refl, ◌∙◌, ap, subst}
use Rattle.std.specs.Prelude.{MatchBool}
use Rattle.ojp_values.specs.declared.trips.Leg.{Leg}
use Rattle.ojp_join.proofs.BackFacts.{added_before, added_last, all_joined, before_is_there, last_is_there}
use Rattle.ojp_join.proofs.chains.legs_to.Goals as goal

pub unreachable-requires : goal.unreachable-requires
unreachable-requires c =
    last_is_there c.args.book.now c.args.ask.now c.args.told.now c.args.end (record { stop = c.args.ask.now.target; moment = c.args.end; next = None }) c.requires.record c.requires.best refl refl refl
    (λ k less. c.in_default.ensures k less)

pub rides-init : goal.rides-init
rides-init c =
    let found = c.in-Some.ensures in
    let legs = c.in_ok-add_ride.ensures found.1 found.2 in
    added_last c.args.book.now c.args.ask.now c.args.told.now c.args.end (record { stop = c.args.ask.now.target; moment = c.args.end; next = None }) c.in-Some.ride found.1 _ c.requires.record found.2 found.3 refl refl refl
    (legs ∙ ap (λ (back : List Leg). found.1.legs ++ reverse back) c.new-back.ensures.items)

pub unreachable-requires-in_default-ride_for : goal.unreachable-requires-in_default-ride_for
unreachable-requires-in_default-ride_for c =
    let ride = c.rides.ride in
    let ask = c.args.ask.now in
    let other = subst (λ (b : Bool). MatchBool b ((ride.stop ≡ ask.origin) × (ride.start ≡ ask.start)) ((ride.stop ≡ ask.origin) × (ride.start ≡ ask.start) → ⊥)) c.rides-test.true c.is_first.ensures in
    before_is_there c.args.book.now ask c.args.told.now ride c.rides.invariant.trip (record { stop = ride.stop; moment = ride.start; next = Some ride.region }) c.requires.record c.rides.invariant.now other refl refl refl
    (λ k less. c.in_default-ride_for.ensures k less)

pub rides-preserved : goal.rides-preserved
rides-preserved c =
    let ride = c.rides.ride in
    let found = c.in-Some-ride_for.ensures in
    added_before c.args.book.now c.args.ask.now c.args.told.now c.args.end (record { stop = ride.stop; moment = ride.start; next = Some ride.region }) ride c.in-Some-ride_for.before found.1 c.rides.back.items _ c.is_well.ensures
    c.requires.record c.rides.invariant found.2 found.3 refl refl refl (c.in_ok-add_ride-2.ensures found.1 found.2)

pub returns : goal.returns
returns c =
    let ride = c.rides.ride in
    let ask = c.args.ask.now in
    let first = subst (λ (b : Bool). MatchBool b ((ride.stop ≡ ask.origin) × (ride.start ≡ ask.start)) ((ride.stop ≡ ask.origin) × (ride.start ≡ ask.start) → ⊥)) c.rides-test.false c.is_first.ensures in
    all_joined c.args.book.now ask c.args.told.now c.args.end ride c.rides.back.items _ c.requires.record c.requires.best c.rides.invariant first c.reverse.ensures.items
