use Rattle.ojp_scan.proofs.PlaceFacts.{number-read, numbers-next}
use Rattle.ojp_scan.proofs.ResultFacts.{ok-then}
use Rattle.ojp_scan.proofs.networks.numbers_of.Goals as goal

pub places-preserved : goal.places-preserved
places-preserved c =
    let table = c.args.table.now in
    let index = c.places.index in
    let seen = number-read table c.stop.result index c.stop.ensures in
    numbers-next table c.places.numbers c.insert.new.self index index c.stop.result c.places.invariant seen c.stop.ensures
    (ok-then c.insert.result c.if-is_err.ensures.negation c.insert.ensures.updates)
