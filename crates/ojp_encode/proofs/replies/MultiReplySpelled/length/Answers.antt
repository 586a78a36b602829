use Rattle.std.proofs.Common.{◌≡◌, List, [], ◌∷◌, ◌+◌, length, ap, ◌∙◌, arith}
use Rattle.std.specs.List.{flat_map}
use Rattle.ojp_tables.specs.declared.names.TheConstants as names
use Rattle.ojp_grammar.specs.Items.{text, tag}
use Rattle.ojp_grammar.specs.Syntax.{put, put_each}
use Rattle.ojp_grammar.specs.Syntax as syntax
use Rattle.ojp_grammar.specs.Grammar.{FAULT, MULTI_RESULT, MULTI_DELIVERY}
use Rattle.ojp_grammar.specs.Documents.{fault_said, result_said, multi_reply_said}
use Rattle.ojp_values.specs.declared.replies.Fault.{Fault}
use Rattle.ojp_values.specs.declared.replies.MultiReply.{MultiReply}
use Rattle.ojp_values.specs.declared.replies.MultiReply.TheVariants as variants
use Rattle.ojp_values.specs.declared.replies.TripResult.{TripResult}
use Rattle.ojp_encode.specs.Writing.{spelling}
use Rattle.ojp_encode.proofs.Sizes.{sized_around, sized_list, size}
use Rattle.ojp_encode.proofs.replies.MultiReplySpelled.length.Goals as goal

of_list : (l : List TripResult) → length (spelling MULTI_DELIVERY (multi_reply_said (variants.Results l))) ≡ size (put (syntax.text names.OJP_MULTI_POINT_TRIP_DELIVERY) tt []) + (length (flat_map (λ x. spelling MULTI_RESULT (result_said x)) l) + size (tag (names.OJP_MULTI_POINT_TRIP_DELIVERY + 1) ∷ []))
unfolding spelling
of_list l = sized_list (syntax.text names.OJP_MULTI_POINT_TRIP_DELIVERY) tt MULTI_RESULT result_said l (tag (names.OJP_MULTI_POINT_TRIP_DELIVERY + 1) ∷ [])

of_fault : (f : Fault) → length (spelling MULTI_DELIVERY (multi_reply_said (variants.Fault f))) ≡ size (put (syntax.text names.OJP_MULTI_POINT_TRIP_DELIVERY) tt []) + (length (spelling FAULT (fault_said f)) + size (tag (names.OJP_MULTI_POINT_TRIP_DELIVERY + 1) ∷ []))
unfolding spelling
of_fault f = sized_around (syntax.text names.OJP_MULTI_POINT_TRIP_DELIVERY) tt FAULT (fault_said f) (tag (names.OJP_MULTI_POINT_TRIP_DELIVERY + 1) ∷ [])

pub returns-in-Results-clause-value : goal.returns-in-Results-clause-value
unfolding text
returns-in-Results-clause-value c =
    let each : c.length_each.result ≡ length (flat_map (λ x. spelling MULTI_RESULT (result_said x)) c.in-Results.results) = c.length_each.ensures.value ∙ ap (λ (l : List TripResult). length (flat_map (λ x. spelling MULTI_RESULT (result_said x)) l)) c.as_slice-results.ensures in
    omega (arith, ap (λ (r : MultiReply). length (spelling MULTI_DELIVERY (multi_reply_said r))) c.in-Results.is, of_list c.in-Results.results, each)

pub returns-in-Fault-clause-value : goal.returns-in-Fault-clause-value
unfolding text
returns-in-Fault-clause-value c = omega (arith, ap (λ (r : MultiReply). length (spelling MULTI_DELIVERY (multi_reply_said r))) c.in-Fault.is, of_fault c.in-Fault.fault, c.length.ensures.value)
