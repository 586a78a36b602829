use Rattle.std.proofs.Common.{◌≡◌, [], ◌∷◌, ◌+◌, length, ap, arith}
use Rattle.ojp_tables.specs.declared.names.TheConstants as names
use Rattle.ojp_grammar.specs.Items.{text, tag}
use Rattle.ojp_grammar.specs.Syntax.{put, put_each}
use Rattle.ojp_grammar.specs.Syntax as syntax
use Rattle.ojp_grammar.specs.Grammar.{TRIP, FAULT, TRIP_DELIVERY}
use Rattle.ojp_grammar.specs.Documents.{trip_said, fault_said, trip_reply_said}
use Rattle.ojp_values.specs.declared.trips.Trip.{Trip}
use Rattle.ojp_values.specs.declared.replies.Fault.{Fault}
use Rattle.ojp_values.specs.declared.replies.TripReply.{TripReply}
use Rattle.ojp_values.specs.declared.replies.TripReply.TheVariants as variants
use Rattle.ojp_encode.specs.Writing.{spelling}
use Rattle.ojp_encode.proofs.Sizes.{sized_around, size}
use Rattle.ojp_encode.proofs.replies.TripReplySpelled.length.Goals as goal

of_trip : (t : Trip) → length (spelling TRIP_DELIVERY (trip_reply_said (variants.Trip t))) ≡ size (put (syntax.both (syntax.text names.OJP_TRIP_DELIVERY) (syntax.text names.TRIP_RESULT)) (tt, tt) []) + (length (spelling TRIP (trip_said t)) + size (tag (names.TRIP_RESULT + 1) ∷ tag (names.OJP_TRIP_DELIVERY + 1) ∷ []))
unfolding spelling
of_trip t = sized_around (syntax.both (syntax.text names.OJP_TRIP_DELIVERY) (syntax.text names.TRIP_RESULT)) (tt, tt) TRIP (trip_said t) (tag (names.TRIP_RESULT + 1) ∷ tag (names.OJP_TRIP_DELIVERY + 1) ∷ [])

of_fault : (f : Fault) → length (spelling TRIP_DELIVERY (trip_reply_said (variants.Fault f))) ≡ size (put (syntax.text names.OJP_TRIP_DELIVERY) tt []) + (length (spelling FAULT (fault_said f)) + size (tag (names.OJP_TRIP_DELIVERY + 1) ∷ []))
unfolding spelling
of_fault f = sized_around (syntax.text names.OJP_TRIP_DELIVERY) tt FAULT (fault_said f) (tag (names.OJP_TRIP_DELIVERY + 1) ∷ [])

pub returns-in-Trip-clause-value : goal.returns-in-Trip-clause-value
unfolding text
returns-in-Trip-clause-value c = omega (arith, ap (λ (r : TripReply). length (spelling TRIP_DELIVERY (trip_reply_said r))) c.in-Trip.is, of_trip c.in-Trip.trip, c.length.ensures.value)

pub returns-in-Fault-clause-value : goal.returns-in-Fault-clause-value
unfolding text
returns-in-Fault-clause-value c = omega (arith, ap (λ (r : TripReply). length (spelling TRIP_DELIVERY (trip_reply_said r))) c.in-Fault.is, of_fault c.in-Fault.fault, c.length-in-Fault.ensures.value)
