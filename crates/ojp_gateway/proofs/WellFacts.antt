-- The exchange points of a delivery that was spelled are within their limits.
use Rattle.std.proofs.Common.{List, [], ◌∷◌, map, arith}
use Rattle.std.specs.List.{All, AllByRecursion}
use Rattle.std.proofs.lemmas.List.{length-map}
use Rattle.std.proofs.lemmas.List.Elements.{All-nil, All-cons}
use Rattle.ojp_values.specs.Lists.{Each}
use Rattle.ojp_values.specs.Limits.{IsWellNeighbour, IsWellPoint}
use Rattle.ojp_values.specs.declared.trips.Neighbour.{Neighbour}
use Rattle.ojp_values.specs.declared.trips.Point.{Point}
use Rattle.ojp_values.specs.declared.replies.PointsReply.TheVariants as points_replies
use Rattle.ojp_values.specs.declared.replies.Delivery.TheVariants as deliveries
use Rattle.ojp_values.specs.declared.documents.Doc.TheVariants as docs
use Rattle.ojp_grammar.specs.Documents.{IsWell, neighbour_said, point_said}
use Rattle.ojp_grammar.specs.Grammar.{NEIGHBOUR, POINT}
use Rattle.ojp_grammar.specs.Syntax.{Fits}

well_neighbours : (neighbours : List Neighbour) → AllByRecursion (Fits NEIGHBOUR) (map neighbour_said neighbours) → All IsWellNeighbour neighbours
well_neighbours [] fits = All-nil IsWellNeighbour
well_neighbours (n ∷ neighbours) fits =
    let time = fits.0.1.0.1.1 in
    All-cons IsWellNeighbour n neighbours (time.0, time.1) (well_neighbours neighbours fits.1)

well_point : (point : Point) → Fits POINT (point_said point) → IsWellPoint point
well_point point fits =
    let time = fits.1.1.1.0.1 in
    let high = fits.1.1.1.1.1 in
    ((time.0, time.1), omega (arith, high, length-map point.neighbours neighbour_said), well_neighbours point.neighbours fits.1.1.1.1.2)

well_each : (points : List Point) → AllByRecursion (Fits POINT) (map point_said points) → Each IsWellPoint points
well_each [] fits = tt
well_each (p ∷ points) fits = (well_point p fits.0, well_each points fits.1)

pub well_points : (points : List Point) → IsWell (docs.Delivery (deliveries.Points (points_replies.Points points))) → Each IsWellPoint points
unfolding IsWell
well_points points fits = well_each points fits.1.0.1.0.1.0.1.2
