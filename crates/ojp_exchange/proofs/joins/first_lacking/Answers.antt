use Rattle.std.proofs.Common.{◌≤◌, List, length, arith, subst}
use Rattle.std.proofs.lemmas.Option.{slice_get_within}
use Rattle.ojp_values.specs.declared.trips.Neighbour.{Neighbour}
use Rattle.ojp_timetable.proofs.ReadFacts.{at_among}
use Rattle.ojp_exchange.proofs.joins.first_lacking.Goals as goal

pub returns : goal.returns
returns c neighbour a =
    let at = at_among c.args.point.now.neighbours neighbour a in
    let within = slice_get_within c.args.point.now.neighbours at.0 neighbour at.1 in
    let done : length c.args.point.now.neighbours ≤ c.neighbours.neighbour-index =
    subst (λ (ns : List Neighbour). length ns ≤ c.neighbours.neighbour-index) c.as_slice-neighbours.ensures c.neighbours-test.false in
    c.neighbours.invariant at.0 neighbour at.1 (omega (arith, within, done))
