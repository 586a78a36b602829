use Rattle.std.proofs.Common.{◌≤◌, length, arith, refl}
use Rattle.std.proofs.lemmas.Option.{slice_get_read}
use Rattle.ojp_timetable.proofs.ReadFacts.{among_at}
use Rattle.ojp_exchange.proofs.PlaceFacts.{none_further, none_of}
use Rattle.ojp_exchange.proofs.places.change_among.Goals as goal

pub returns-then-has_code : goal.returns-then-has_code
returns-then-has_code c =
    let all = c.args.neighbours.now in
    let at = c.neighbour-item.result in
    let read = slice_get_read all (length all) c.neighbours.neighbour-index at refl c.neighbours-test.true c.neighbour-item.is in
    (at, among_at all c.neighbours.neighbour-index at read, c.if-has_code.ensures, refl)

pub neighbours-preserved : goal.neighbours-preserved
neighbours-preserved c =
    let all = c.args.neighbours.now in
    let at = c.neighbour-item.result in
    let read = slice_get_read all (length all) c.neighbours.neighbour-index at refl c.neighbours-test.true c.neighbour-item.is in
    none_further all c.args.code.now c.neighbours.neighbour-index at c.neighbours.invariant read c.if-has_code.ensures

pub returns : goal.returns
returns c =
    let all : length c.args.neighbours.now ≤ c.neighbours.neighbour-index = omega arith in
    none_of c.args.neighbours.now c.args.code.now c.neighbours.neighbour-index all c.neighbours.invariant
