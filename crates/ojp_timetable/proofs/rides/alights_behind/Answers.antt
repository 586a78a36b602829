use Rattle.std.proofs.Common.{arith}
use Rattle.std.proofs.lemmas.Option.{slice_get_within}
use Rattle.ojp_timetable.specs.Legal.{Alights}
use Rattle.ojp_timetable.specs.Views.{calls_at}
use Rattle.ojp_timetable.proofs.LegalFacts.{looked}
use Rattle.ojp_timetable.proofs.rides.alights_behind.Goals as goal

pub alights-requires : goal.alights-requires
alights-requires c = (c.requires.range c.calls.i c.call-call.result c.call-call.ensures).0

pub returns-then-alights : goal.returns-then-alights
returns-then-alights c = record { number = c.calls.i; behind = omega arith; call = c.call-call.result; at = c.call-call.ensures; alights = c.if-alights.ensures }

pub calls-preserved : goal.calls-preserved
calls-preserved c k other a from l =
    looked (λ call. Alights c.args.table.now c.args.leg.now call) (calls_at c.args.table.now.journeys c.args.number) c.calls.i c.call-call.result c.call-call.ensures c.if-alights.ensures k other a l
    (λ m. c.calls.invariant k other a from m)

pub returns : goal.returns
returns c behind =
    let within = slice_get_within (calls_at c.args.table.now.journeys c.args.number) behind.number behind.call behind.at in
    c.calls.invariant behind.number behind.call behind.at behind.behind (omega (arith, within, c.requires.all, c.calls-test.false)) behind.alights
