use Rattle.std.proofs.Common.{◌≡◌, List, length, refl, sym, ◌∙◌, ap, subst}
use Rattle.std.specs.Prelude.{MatchOption}
use Rattle.std.proofs.lemmas.Option.{slice_get_read, slice_get_within}
use Rattle.ojp_values.specs.declared.trips.Neighbour.{Neighbour}
use Rattle.ojp_values.specs.declared.trips.Point.{Point}
use Rattle.ojp_timetable.proofs.ReadFacts.{read_once}
use Rattle.ojp_exchange.specs.Points.{HasNeighbour, HasNoNeighbour}
use Rattle.ojp_exchange.proofs.PlaceFacts.{said_at, says_none}
use Rattle.ojp_exchange.proofs.places.change_within.Goals as goal

pub returns-in-None : goal.returns-in-None
returns-in-None c stop stretch = says_none c.args.points.now stop c.args.region.now c.args.other.now (c.in-None.ensures.found stop stretch)

pub returns-in-Some : goal.returns-in-Some
returns-in-Some c stop stretch =
    let all = c.args.points.now in
    let at = c.in-Some.ensures.found stop stretch in
    let place = c.in-Some.place in
    let here = c.index-points-place.result in
    let within = slice_get_within all place at.point at.at in
    let read = slice_get_read all (length all) place here refl within c.index-points-place.is in
    let one : here ≡ at.point = read_once all place place here at.point refl read at.at in
    let neighbours = c.as_slice.ensures ∙ (ap (λ (p : Point). p.neighbours) (sym c.index-points-place.is) ∙ ap (λ (p : Point). p.neighbours) one) in
    said_at all stop c.args.region.now c.args.other.now place at c.change_among.result c.requires.rise
    (subst (λ (ns : List Neighbour). MatchOption c.change_among.result (HasNoNeighbour ns c.args.other.now) (HasNeighbour ns c.args.other.now)) neighbours c.change_among.ensures)
