use Rattle.std.proofs.Common.{◌≡◌, Some, length, List, refl, subst}
use Rattle.std.specs.Prelude.{slice_get}
use Rattle.std.proofs.lemmas.Option.{slice_get_read}
use Rattle.ojp_feed_rows.specs.declared.trips.Trip.{Trip}
use Rattle.ojp_feed_plans.proofs.FateFacts.{weighed_more}
use Rattle.ojp_feed_plans.proofs.trips.weigh_all.Goals as goal

pub loop-number-preserved : goal.loop-number-preserved
loop-number-preserved c =
    let feed = c.args.feed.now in
    let n = c.loop-number.number in
    let trip = c.index-trips-number.result in
    let trips = c.as_slice-trips.result.now in
    let read = slice_get_read trips (length trips) n trip refl c.loop-number-test.true c.index-trips-number.is in
    let at = subst (λ (xs : List Trip). slice_get xs n ≡ Some trip) c.as_slice-trips.ensures.value read in
    weighed_more feed c.args.places.now trip n c.in_ok-weighed.weighed c.loop-number.fates.items c.note.new.fates.items c.loop-number.patterns.items c.note.new.patterns.items c.loop-number.invariant at c.in_ok-weighed.ensures c.in_ok-note.ensures.fates c.in_ok-note.ensures.patterns
