use Rattle.std.proofs.Common.{◌≡◌, sym, ◌∙◌, ap, set, get_or, List}
use Rattle.ojp_values.specs.declared.trips.Neighbour.{Neighbour}
use Rattle.ojp_values.specs.declared.trips.Point.{Point}
use Rattle.ojp_timetable.specs.Contents.{point_with, with_neighbour}
use Rattle.ojp_timetable.proofs.PointFacts.{points_with-at, points_with-none}
use Rattle.ojp_timetable.proofs.point_lists.insert_neighbour_at.Goals as goal

pub returns-in_default : goal.returns-in_default
returns-in_default c =
    let e = rw c.as_slice.ensures.value at (sym c.point_number.ensures ∙ c.in_default.is) in
    sym (points_with-none c.args.stop.now c.args.neighbour.now c.args.points.now.items e)

pub returns : goal.returns
returns c =
    let old = c.args.points.now.items in
    let was = c.index_mut-point.result.now in
    let found = rw c.as_slice.ensures.value at (sym c.point_number.ensures ∙ c.in-Some.is) in
    let e = points_with-at c.args.stop.now c.args.neighbour.now old c.in-Some.number was found in
    let at : get_or old c.in-Some.number was ≡ was = sym c.index_mut-point.ensures.value in
    let grown : c.in_ok-point.field-0 ≡ with_neighbour was.neighbours c.args.neighbour.now =
    c.in_ok-point.ensures ∙ ap (λ (list : List Neighbour). with_neighbour list c.args.neighbour.now) c.replace-neighbours.ensures.value in
    ap (λ (neighbours : List Neighbour). set old c.in-Some.number (record was { neighbours = neighbours })) grown
    ∙ (ap (λ (point : Point). set old c.in-Some.number (point_with point c.args.neighbour.now)) (sym at) ∙ sym e)
