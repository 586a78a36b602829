use Rattle.std.proofs.Common.{◌≡◌, ◌<◌, List, Some, length, sym, subst, slice_get}
use Rattle.ojp_timetable.specs.declared.calls.Call.{Call}
use Rattle.ojp_timetable.proofs.ReadFacts.{calls_are}
use Rattle.ojp_scan.proofs.views.call_at.Goals as goal

pub call-requires : goal.call-requires
call-requires c =
    let r = c.requires in
    subst (λ (cs : List Call). c.args.position < length cs) (sym (calls_are c.args.table.now.journeys c.args.i r.journey r.at)) r.within

pub returns : goal.returns
returns c =
    let r = c.requires in
    record {
      journey = r.journey;
      at = r.at;
      call_at = subst (λ (cs : List Call). slice_get cs c.args.position ≡ Some c.call.result) (calls_are c.args.table.now.journeys c.args.i r.journey r.at) c.call.ensures;
    }
