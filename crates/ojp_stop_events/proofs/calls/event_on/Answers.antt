use Rattle.std.proofs.Common.{◌<◌, ◌≤◌, ◌+◌, ℕ, List, length, arith, refl, sym, ◌∙◌, subst, false, true≢false}
use Rattle.std.specs.Prelude.{IsTrue, MatchOption, Option}
use Rattle.std.proofs.lemmas.Option.{slice_get_within}
use Rattle.ojp_values.specs.declared.trips.Event.{Event}
use Rattle.ojp_timetable.specs.declared.calls.Call.{Call}
use Rattle.ojp_timetable.specs.declared.kept.JourneyView.{JourneyView}
use Rattle.ojp_timetable.specs.Runs.{RunsOn, day_long}
use Rattle.ojp_timetable.proofs.ReadFacts.{among_at, calls_among, calls_are, view_is}
use Rattle.ojp_stop_events.specs.Found.{HasNoEvent, IsEventOf}
use Rattle.ojp_stop_events.proofs.EventFacts.{call_here, elsewhere, no_moment, no_offset, no_run, offset_within}
use Rattle.ojp_stop_events.proofs.calls.event_on.Goals as goal

pub call-call-requires : goal.call-call-requires
call-call-requires c =
    let k = c.requires.call in
    subst (λ (cs : List Call). c.args.position < length cs) (sym (calls_are c.args.table.now.journeys c.args.journey k.of k.at)) (slice_get_within k.of.calls c.args.position k.call k.call_at)

pub returns-then-not-is_at_stop : goal.returns-then-not-is_at_stop
returns-then-not-is_at_stop c =
    let k = c.requires.call in
    elsewhere c.args.table.now c.args.ask.now c.args.journey c.args.position k.of c.call-call.result k.at
    (call_here c.args.table.now c.args.journey c.args.position k c.call-call.result c.call-call.ensures) c.if-not-is_at_stop.ensures c.args.day

pub returns-in_err-offset : goal.returns-in_err-offset
returns-in_err-offset c =
    let k = c.requires.call in
    subst (λ (found : Option Event). MatchOption found (HasNoEvent c.args.table.now c.args.ask.now c.args.journey c.args.position c.args.day)
    (λ (event : Event). IsEventOf c.args.table.now c.args.ask.now event (record { journey = c.args.journey; position = c.args.position; day = c.args.day })))
    (sym c.from_residual.ensures)
    (no_offset c.args.table.now c.args.ask.now c.args.journey c.args.position k.of c.call-call.result k.at
    (call_here c.args.table.now c.args.journey c.args.position k c.call-call.result c.call-call.ensures) (sym c.offset_of.ensures ∙ c.in_err-offset.was) c.args.day)

pub journey-view-requires : goal.journey-view-requires
journey-view-requires c =
    let k = c.requires.call in
    slice_get_within c.args.table.now.journeys c.args.journey k.of k.at

pub runs_on-requires : goal.runs_on-requires
runs_on-requires c =
    let k = c.requires.call in
    let view = view_is c.args.table.now.journeys c.args.journey k.of c.journey-view.result k.at c.journey-view.ensures in
    subst (λ (v : JourneyView). v.service < length c.args.table.now.services) (sym view)
    (c.requires.well.services k.of (among_at c.args.table.now.journeys c.args.journey k.of k.at))

pub returns-then-not-runs_on : goal.returns-then-not-runs_on
returns-then-not-runs_on c =
    let k = c.requires.call in
    let view = view_is c.args.table.now.journeys c.args.journey k.of c.journey-view.result k.at c.journey-view.ensures in
    let told : (IsTrue false → RunsOn c.args.table.now c.journey-view.result.service c.args.day) × (RunsOn c.args.table.now c.journey-view.result.service c.args.day → IsTrue false) = c.if-not-runs_on.ensures in
    let idle : RunsOn c.args.table.now c.journey-view.result.service c.args.day → ⊥ = λ r. true≢false (sym (told.1 r)) in
    no_run c.args.table.now c.args.ask.now c.args.journey c.args.position c.args.day k.of k.at
    (subst (λ (v : JourneyView). RunsOn c.args.table.now v.service c.args.day → ⊥) view idle)

pub moment-moment-requires : goal.moment-moment-requires
moment-moment-requires c =
    let k = c.requires.call in
    offset_within c.args.table.now c.args.ask.now c.args.journey c.args.position c.in_ok-offset.offset k.of c.call-call.result c.requires.well k.at
    (call_here c.args.table.now c.args.journey c.args.position k c.call-call.result c.call-call.ensures) (sym c.offset_of.ensures ∙ c.in_ok-offset.was)

pub returns-then-not-is_in_day : goal.returns-then-not-is_in_day
returns-then-not-is_in_day c =
    let k = c.requires.call in
    let never = c.if-not-is_in_day.ensures in
    no_moment c.args.table.now c.args.ask.now c.args.journey c.args.position c.args.day c.in_ok-offset.offset k.of c.call-call.result k.at
    (call_here c.args.table.now c.args.journey c.args.position k c.call-call.result c.call-call.ensures) (sym c.offset_of.ensures ∙ c.in_ok-offset.was)
    (subst (λ (m : ℕ). (c.args.ask.now.start ≤ m) × (m ≤ c.args.ask.now.start + day_long) → ⊥) c.moment-moment.ensures never)

pub overflow_cast-result : goal.overflow_cast-result
overflow_cast-result c =
    let k = c.requires.call in
    let within = slice_get_within k.of.calls c.args.position k.call k.call_at in
    let few = calls_among c.args.table.now.journeys c.args.journey k.of k.at in
    let all = c.requires.well.few.calls_few in
    omega (arith, within, few, all)

pub overflow_add-result : goal.overflow_add-result
overflow_add-result c =
    let k = c.requires.call in
    let within = slice_get_within k.of.calls c.args.position k.call k.call_at in
    let few = calls_among c.args.table.now.journeys c.args.journey k.of k.at in
    let all = c.requires.well.few.calls_few in
    omega (arith, within, few, all)

pub returns : goal.returns
returns c =
    let k = c.requires.call in
    let table = c.args.table.now in
    let view = view_is table.journeys c.args.journey k.of c.journey-view.result k.at c.journey-view.ensures in
    let day = c.if-not-is_in_day.ensures in
    let m = c.moment-moment.ensures in
    record {
      journey = k.of;
      call = c.call-call.result;
      offset = c.in_ok-offset.offset;
      read = k.at;
      runs = subst (λ (v : JourneyView). RunsOn table v.service c.args.day) view (c.if-not-runs_on.ensures.0 refl);
      call_at = call_here table c.args.journey c.args.position k c.call-call.result c.call-call.ensures;
      stop = c.if-not-is_at_stop.ensures;
      is_offset = sym c.offset_of.ensures ∙ c.in_ok-offset.was;
      from = subst (λ (n : ℕ). c.args.ask.now.start ≤ n) m day.0;
      to = subst (λ (n : ℕ). n ≤ c.args.ask.now.start + day_long) m day.1;
      is = λ i. record {
        region = c.region.ensures i;
        journey = (view i).id;
        line = (view i).line;
        day = c.args.day;
        stop = c.args.ask.now.stop;
        order = c.args.position + 1;
        moment = m i;
      };
    }
