use Rattle.std.proofs.Common.{◌+◌, List, sym, subst}
use Rattle.ojp_values.specs.declared.trips.Event.{Event}
use Rattle.ojp_stop_events.specs.Found.{AreFirst}
use Rattle.ojp_stop_events.proofs.EventFacts.{none_more, ok_then, one_more}
use Rattle.ojp_stop_events.proofs.answers.add_run.Goals as goal

pub returns-in-None : goal.returns-in-None
returns-in-None c = none_more c.args.table.now c.args.ask.now c.args.journey c.args.position c.args.day c.args.first.now.items c.requires.before c.in-None.ensures

pub returns-in-Some : goal.returns-in-Some
returns-in-Some c =
    let more = one_more c.args.table.now c.args.ask.now c.args.journey c.args.position c.args.day c.args.first.now.items c.in-Some.event c.requires.well c.requires.before c.in-Some.ensures in
    ok_then c.add_event.result _ _
    (λ e. subst (λ (events : List Event). AreFirst c.args.table.now c.args.ask.now c.args.journey c.args.position (c.args.day + 1) events) (sym e) more) c.add_event.ensures
