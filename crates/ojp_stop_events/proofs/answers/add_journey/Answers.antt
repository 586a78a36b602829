use Rattle.std.proofs.Common.{◌≡◌, ◌≤◌, ◌+◌, Some, Vec, Global, length, arith, sym, subst, slice_get}
use Rattle.ojp_values.specs.declared.trips.Event.{Event}
use Rattle.ojp_timetable.specs.Views.{calls_at}
use Rattle.ojp_stop_events.specs.Found.{AreFirst}
use Rattle.ojp_timetable.proofs.ReadFacts.{calls_told}
use Rattle.ojp_stop_events.proofs.EventFacts.{call_here, called, elsewhere, no_more_calls, to_next_call}
use Rattle.ojp_stop_events.proofs.answers.add_journey.Goals as goal
use Rattle.ojp_stop_events.proofs.answers.add_journey.Goals.{then-is_at_stop+in_ok-add_call, else-is_at_stop}

pub call-call-requires : goal.call-call-requires
call-call-requires c = omega (arith, c.calls-test.true, calls_told c.args.table.now.journeys c.args.journey c.journey-calls.result c.journey-calls.ensures)

pub add_call-requires-clause-call : goal.add_call-requires-clause-call
add_call-requires-clause-call c = called c.args.table.now c.args.journey c.calls.position c.call-call.result c.requires.within c.call-call.ensures

pub calls-preserved : goal.calls-preserved
calls-preserved c =
    let table = c.args.table.now in
    let ask = c.args.ask.now in
    let j = c.args.journey in
    let p = c.calls.position in
    let rest : Vec Event Global → Type 0 = λ first. AreFirst table ask j (p + 1) 0 first.items in
    let call = c.call-call.result in
    let here : slice_get (calls_at table.journeys j) p ≡ Some call = c.call-call.ensures in
    elim c.if-is_at_stop.branch [
      | then-is_at_stop+in_ok-add_call w ↦ subst rest (sym w.first-is) w.in_ok-add_call.ensures
      | else-is_at_stop w ↦
          let k = called table j p call c.requires.within here in
          subst rest (sym w.first-is)
          (to_next_call table ask j p 0 c.calls.first.items
          (λ day past. elsewhere table ask j p k.of call k.at (call_here table j p k call here) w.if-is_at_stop.ensures day) c.calls.invariant)
    ]

pub returns : goal.returns
returns c =
    let told = calls_told c.args.table.now.journeys c.args.journey c.journey-calls.result c.journey-calls.ensures in
    let all : length (calls_at c.args.table.now.journeys c.args.journey) ≤ c.calls.position = omega (arith, told, c.calls-test.false) in
    no_more_calls c.args.table.now c.args.ask.now c.args.journey c.calls.position c.calls.first.items c.requires.within all c.calls.invariant
