use Rattle.std.proofs.Common.{subst}
use Rattle.ojp_timetable.specs.Journeys.{ArrivesWithin}
use Rattle.ojp_scan.specs.Trips.{IsWithinDay}
use Rattle.ojp_scan.proofs.TripFacts.{within-day, one-earliest, earliest-is}
use Rattle.ojp_scan.proofs.answers.earliest_trip.Goals as goal

pub legs-requires : goal.legs-requires
legs-requires c =
    let s = c.requires.started in
    let e = c.in-Some.ensures c.args.table.now s.origin s.start s.scan_of in
    record { reached = record { origin = s.origin; start = s.start; scan_of = s.scan_of; arrival = c.in-Some.end; arrives = e.0 } }

pub trip_of-requires : goal.trip_of-requires
trip_of-requires c =
    let s = c.requires.started in
    let table = c.args.table.now in
    let e = c.in-Some.ensures table s.origin s.start s.scan_of in
    let j = c.in_ok-legs.ensures s.origin s.start s.scan_of in
    let same_moment = one-earliest (ArrivesWithin table s.origin s.start c.args.target) j.0 c.in-Some.end j.1 e in
    record { within = subst (λ m. IsWithinDay c.in_ok-legs.legs m) same_moment (within-day table s.scan_of.made.well s.origin s.start c.args.target j.0 c.in_ok-legs.legs j.2) }

pub returns : goal.returns
returns c origin start found =
    let table = c.args.table.now in
    earliest-is table found.made.well origin start c.args.target c.in-Some.end c.in_ok-legs.legs c.trip_of.result (c.in-Some.ensures table origin start found) (c.in_ok-legs.ensures origin start found)
    c.trip_of.ensures.legs c.trip_of.ensures.end c.trip_of.ensures.totals
