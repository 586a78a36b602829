use Rattle.std.proofs.Common.{refl, sym}
use Rattle.ojp_timetable.specs.declared.kept.KeptCall.{KeptCall}
use Rattle.ojp_timetable.proofs.CallFacts.{kept_is, kept_number}
use Rattle.ojp_timetable.proofs.draft.Draft.kept.Goals as goal

pub returns-clause-place : goal.returns-clause-place
returns-clause-place c =
    let call = c.args.call.now in
    let kept : KeptCall = record { place = c.in-Some.place; arrives = call.arrives; departs = call.departs } in
    kept_number c.args.self.now.places call.stop kept (sym c.in-Some.ensures.first)

pub returns-clause-call : goal.returns-clause-call
returns-clause-call c =
    let call = c.args.call.now in
    let kept : KeptCall = record { place = c.in-Some.place; arrives = call.arrives; departs = call.departs } in
    kept_is c.args.self.now.places call kept (sym c.in-Some.ensures.first) refl refl
