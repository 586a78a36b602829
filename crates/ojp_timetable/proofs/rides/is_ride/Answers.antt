use Rattle.std.proofs.Common.{◌≡◌, ◌<◌, ℕ, List, false, true≢false, length, arith, refl, sym, ◌∙◌, ap, subst}
use Rattle.std.specs.Prelude.{IsTrue, MatchBool}
use Rattle.std.proofs.lemmas.Option.{slice_get_within}
use Rattle.ojp_timetable.specs.declared.calls.Call.{Call}
use Rattle.ojp_timetable.specs.declared.kept.JourneyView.{JourneyView}
use Rattle.ojp_timetable.specs.Tables.{Journey}
use Rattle.ojp_timetable.specs.Views.{calls_at}
use Rattle.ojp_timetable.specs.Runs.{IsLeg, RunsOn}
use Rattle.ojp_values.specs.declared.trips.Leg.{Leg}
use Rattle.ojp_timetable.specs.Legal.{AlightsBehind, AreOffsets, BoardsNowhere, IsFirstBoard}
use Rattle.ojp_timetable.proofs.LegalFacts.{alights_there, boards_there, first_low, found_at, has_names, its_journey, makes_leg, no_journey_of, offsets, ride_case}
use Rattle.ojp_timetable.proofs.ReadFacts.{among_at, calls_are, view_is}
use Rattle.ojp_timetable.proofs.rides.is_ride.Goals as goal

pub returns-in_default : goal.returns-in_default
returns-in_default c = no_journey_of c.args.table.now c.args.leg.now (sym c.journey_of.ensures ∙ c.in_default.is)

pub returns-then-not-is_same_label : goal.returns-then-not-is_same_label
returns-then-not-is_same_label c is =
    let table = c.args.table.now in
    let leg = c.args.leg.now in
    let n = c.in-Some.number in
    let e = sym c.journey_of.ensures ∙ c.in-Some.is in
    let found = found_at table.journeys leg.journey n e in
    let of = found.0 in
    let at = found.1 in
    let view = view_is table.journeys n of c.journey-journey.result at c.journey-journey.ensures in
    let journey = its_journey table leg n of c.requires e at is in
    c.if-not-is_same_label.ensures (ap (λ (l : Leg). l.line) is.is ∙ (ap (λ (j : Journey). j.line) journey ∙ sym (ap (λ (v : JourneyView). v.line) view)))

pub runs_on-requires : goal.runs_on-requires
runs_on-requires c =
    let table = c.args.table.now in
    let leg = c.args.leg.now in
    let n = c.in-Some.number in
    let e = sym c.journey_of.ensures ∙ c.in-Some.is in
    let found = found_at table.journeys leg.journey n e in
    let of = found.0 in
    let at = found.1 in
    let view = view_is table.journeys n of c.journey-journey.result at c.journey-journey.ensures in
    subst (λ (v : JourneyView). v.service < length table.services) (sym view) (c.requires.services of (among_at table.journeys n of at))

pub returns-then-not-runs_on : goal.returns-then-not-runs_on
returns-then-not-runs_on c is =
    let table = c.args.table.now in
    let leg = c.args.leg.now in
    let n = c.in-Some.number in
    let e = sym c.journey_of.ensures ∙ c.in-Some.is in
    let found = found_at table.journeys leg.journey n e in
    let of = found.0 in
    let at = found.1 in
    let view = view_is table.journeys n of c.journey-journey.result at c.journey-journey.ensures in
    let journey = its_journey table leg n of c.requires e at is in
    let runs = subst (λ (j : Journey). RunsOn table j.service is.day) journey is.runs in
    let today = subst (λ (d : ℕ). RunsOn table of.service d) (sym (ap (λ (l : Leg). l.day) is.is)) runs in
    let told : (IsTrue false → RunsOn table c.journey-journey.result.service leg.day) × (RunsOn table c.journey-journey.result.service leg.day → IsTrue false) = c.if-not-runs_on.ensures in
    true≢false (sym (told.1 (subst (λ (v : JourneyView). RunsOn table v.service leg.day) (sym view) today)))

pub returns-then-not-has_name : goal.returns-then-not-has_name
returns-then-not-has_name c is = c.if-not-has_name.ensures (has_names c.args.table.now c.args.leg.now c.requires is).0

pub returns-then-not-has_name-2 : goal.returns-then-not-has_name-2
returns-then-not-has_name-2 c is = c.if-not-has_name-2.ensures (has_names c.args.table.now c.args.leg.now c.requires is).1

pub first_board-requires-clause-range : goal.first_board-requires-clause-range
first_board-requires-clause-range c =
    let table = c.args.table.now in
    let leg = c.args.leg.now in
    let n = c.in-Some.number in
    let e = sym c.journey_of.ensures ∙ c.in-Some.is in
    let found = found_at table.journeys leg.journey n e in
    let of = found.0 in
    let at = found.1 in
    let view = view_is table.journeys n of c.journey-journey.result at c.journey-journey.ensures in
    let calls : calls_at table.journeys n ≡ of.calls = calls_are table.journeys n of at in
    subst AreOffsets (sym calls) (offsets table of c.requires (among_at table.journeys n of at))

pub alights_behind-requires-clause-range : goal.alights_behind-requires-clause-range
alights_behind-requires-clause-range c =
    let table = c.args.table.now in
    let leg = c.args.leg.now in
    let n = c.in-Some.number in
    let e = sym c.journey_of.ensures ∙ c.in-Some.is in
    let found = found_at table.journeys leg.journey n e in
    let of = found.0 in
    let at = found.1 in
    let view = view_is table.journeys n of c.journey-journey.result at c.journey-journey.ensures in
    let calls : calls_at table.journeys n ≡ of.calls = calls_are table.journeys n of at in
    subst AreOffsets (sym calls) (offsets table of c.requires (among_at table.journeys n of at))

pub first_board-requires-clause-all : goal.first_board-requires-clause-all
first_board-requires-clause-all c =
    let table = c.args.table.now in
    let n = c.in-Some.number in
    let found = found_at table.journeys c.args.leg.now.journey n (sym c.journey_of.ensures ∙ c.in-Some.is) in
    let view = view_is table.journeys n found.0 c.journey-journey.result found.1 c.journey-journey.ensures in
    ap (λ (v : JourneyView). v.calls) view ∙ sym (ap (λ (cs : List Call). length cs) (calls_are table.journeys n found.0 found.1))

pub alights_behind-requires-clause-all : goal.alights_behind-requires-clause-all
alights_behind-requires-clause-all c =
    let table = c.args.table.now in
    let n = c.in-Some.number in
    let found = found_at table.journeys c.args.leg.now.journey n (sym c.journey_of.ensures ∙ c.in-Some.is) in
    let view = view_is table.journeys n found.0 c.journey-journey.result found.1 c.journey-journey.ensures in
    ap (λ (v : JourneyView). v.calls) view ∙ sym (ap (λ (cs : List Call). length cs) (calls_are table.journeys n found.0 found.1))

pub alights_behind-requires-clause-from : goal.alights_behind-requires-clause-from
alights_behind-requires-clause-from c =
    let table = c.args.table.now in
    let n = c.in-Some.number in
    let found = found_at table.journeys c.args.leg.now.journey n (sym c.journey_of.ensures ∙ c.in-Some.is) in
    let view = view_is table.journeys n found.0 c.journey-journey.result found.1 c.journey-journey.ensures in
    let all = ap (λ (v : JourneyView). v.calls) view ∙ sym (ap (λ (cs : List Call). length cs) (calls_are table.journeys n found.0 found.1)) in
    let first = c.in-Some-first_board.ensures in
    let within = slice_get_within (calls_at table.journeys n) c.in-Some-first_board.from first.call first.at in
    omega (arith, within, all)

pub returns-in-None : goal.returns-in-None
returns-in-None c is =
    let table = c.args.table.now in
    let leg = c.args.leg.now in
    let n = c.in-Some.number in
    let e = sym c.journey_of.ensures ∙ c.in-Some.is in
    let found = found_at table.journeys leg.journey n e in
    let of = found.0 in
    let at = found.1 in
    let view = view_is table.journeys n of c.journey-journey.result at c.journey-journey.ensures in
    let calls : calls_at table.journeys n ≡ of.calls = calls_are table.journeys n of at in
    let journey = its_journey table leg n of c.requires e at is in
    let there = boards_there table leg of is journey in
    let none = subst (λ (cs : List Call). BoardsNowhere table leg cs) calls c.in-None.ensures in
    none there.0 there.1 there.2 there.3

pub returns-in-Some-first_board : goal.returns-in-Some-first_board
returns-in-Some-first_board c =
    let table = c.args.table.now in
    let leg = c.args.leg.now in
    let n = c.in-Some.number in
    let e = sym c.journey_of.ensures ∙ c.in-Some.is in
    let found = found_at table.journeys leg.journey n e in
    let of = found.0 in
    let at = found.1 in
    let view = view_is table.journeys n of c.journey-journey.result at c.journey-journey.ensures in
    let calls : calls_at table.journeys n ≡ of.calls = calls_are table.journeys n of at in
    let from = c.in-Some-first_board.from in
    let first = subst (λ (cs : List Call). IsFirstBoard table leg cs from) calls c.in-Some-first_board.ensures in
    let behind = subst (λ (cs : List Call). MatchBool c.alights_behind.result (AlightsBehind table leg cs from) (AlightsBehind table leg cs from → ⊥)) calls c.alights_behind.ensures in
    let line = c.if-not-is_same_label.ensures ∙ ap (λ (v : JourneyView). v.line) view in
    let region = c.if-not-is_same_code.ensures ∙ c.region.ensures in
    let runs = subst (λ (v : JourneyView). RunsOn table v.service leg.day) view (c.if-not-runs_on.ensures.0 refl) in
    ride_case c.alights_behind.result (AlightsBehind table leg of.calls from) (IsLeg table leg)
    (makes_leg table leg of n from e at region line runs (c.if-not-has_name.ensures, c.if-not-has_name-2.ensures) first)
    (λ is.
    let journey = its_journey table leg n of c.requires e at is in
    let there = boards_there table leg of is journey in
    alights_there table leg of from is journey (omega (arith, first_low table leg of.calls from there.0 there.1 first there.2 there.3, there.4)))
    behind
