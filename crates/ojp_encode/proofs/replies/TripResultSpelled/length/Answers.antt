use Rattle.std.proofs.Common.{◌≡◌, [], ◌∷◌, ◌+◌, length, ap, arith}
use Rattle.ojp_tables.specs.declared.names.TheConstants as names
use Rattle.ojp_grammar.specs.Items.{text, tag}
use Rattle.ojp_grammar.specs.Syntax.{put, put_each}
use Rattle.ojp_grammar.specs.Syntax as syntax
use Rattle.ojp_grammar.specs.Grammar.{TRIP, MULTI_RESULT}
use Rattle.ojp_grammar.specs.Documents.{trip_said, result_said}
use Rattle.ojp_values.specs.declared.trips.Trip.{Trip}
use Rattle.ojp_values.specs.declared.replies.TripResult.{TripResult}
use Rattle.ojp_values.specs.declared.replies.TripResult.TheVariants as variants
use Rattle.ojp_encode.specs.Writing.{spelling}
use Rattle.ojp_encode.proofs.Sizes.{sized, sized_around, size}
use Rattle.ojp_encode.proofs.replies.TripResultSpelled.length.Goals as goal

of_trip : (t : Trip) → length (spelling MULTI_RESULT (result_said (variants.Trip t))) ≡ size (put (syntax.text names.MULTI_POINT_TRIP_RESULT) tt []) + (length (spelling TRIP (trip_said t)) + size (tag (names.MULTI_POINT_TRIP_RESULT + 1) ∷ []))
unfolding spelling
of_trip t = sized_around (syntax.text names.MULTI_POINT_TRIP_RESULT) tt TRIP (trip_said t) (tag (names.MULTI_POINT_TRIP_RESULT + 1) ∷ [])

pub returns-in-Trip-clause-value : goal.returns-in-Trip-clause-value
unfolding text
returns-in-Trip-clause-value c = omega (arith, ap (λ (r : TripResult). length (spelling MULTI_RESULT (result_said r))) c.in-Trip.is, of_trip c.in-Trip.trip, c.length.ensures.value)

pub returns-in-NoTrip-clause-value : goal.returns-in-NoTrip-clause-value
unfolding text
returns-in-NoTrip-clause-value c = omega (arith, ap (λ (r : TripResult). length (spelling MULTI_RESULT (result_said r))) c.in-NoTrip.is, sized MULTI_RESULT (result_said (variants.NoTrip c.in-NoTrip.stop)))
