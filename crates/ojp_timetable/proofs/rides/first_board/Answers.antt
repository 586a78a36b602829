use Rattle.std.proofs.Common.{arith}
use Rattle.std.proofs.lemmas.Option.{slice_get_within}
use Rattle.ojp_timetable.specs.Legal.{Boards}
use Rattle.ojp_timetable.specs.Views.{calls_at}
use Rattle.ojp_timetable.proofs.LegalFacts.{looked}
use Rattle.ojp_timetable.proofs.rides.first_board.Goals as goal

pub boards-requires : goal.boards-requires
boards-requires c = (c.requires.range c.calls.i c.call-call.result c.call-call.ensures).1

pub returns-then-boards : goal.returns-then-boards
returns-then-boards c = record { call = c.call-call.result; at = c.call-call.ensures; boards = c.if-boards.ensures; before = c.calls.invariant }

pub calls-preserved : goal.calls-preserved
calls-preserved c k other a l =
    looked (λ call. Boards c.args.table.now c.args.leg.now call) (calls_at c.args.table.now.journeys c.args.number) c.calls.i c.call-call.result c.call-call.ensures c.if-boards.ensures k other a l
    (λ m. c.calls.invariant k other a m)

pub returns : goal.returns
returns c k call at =
    let within = slice_get_within (calls_at c.args.table.now.journeys c.args.number) k call at in
    c.calls.invariant k call at (omega (arith, within, c.requires.all, c.calls-test.false))
