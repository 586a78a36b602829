use Rattle.std.proofs.Common.{◌≡◌, List, [], ◌∷◌, ◌+◌, length, ap, ◌∙◌, arith}
use Rattle.std.specs.List.{flat_map}
use Rattle.ojp_tables.specs.declared.names.TheConstants as names
use Rattle.ojp_grammar.specs.Items.{text, tag}
use Rattle.ojp_grammar.specs.Syntax.{put, put_each}
use Rattle.ojp_grammar.specs.Syntax as syntax
use Rattle.ojp_grammar.specs.Grammar.{FAULT, POINT, POINTS_DELIVERY}
use Rattle.ojp_grammar.specs.Documents.{fault_said, point_said, points_reply_said}
use Rattle.ojp_values.specs.declared.replies.Fault.{Fault}
use Rattle.ojp_values.specs.declared.replies.PointsReply.{PointsReply}
use Rattle.ojp_values.specs.declared.replies.PointsReply.TheVariants as variants
use Rattle.ojp_values.specs.declared.trips.Point.{Point}
use Rattle.ojp_encode.specs.Writing.{spelling}
use Rattle.ojp_encode.proofs.Sizes.{sized_around, sized_list, size}
use Rattle.ojp_encode.proofs.replies.PointsReplySpelled.length.Goals as goal

of_list : (l : List Point) → length (spelling POINTS_DELIVERY (points_reply_said (variants.Points l))) ≡ size (put (syntax.text names.OJP_EXCHANGE_POINTS_DELIVERY) tt []) + (length (flat_map (λ x. spelling POINT (point_said x)) l) + size (tag (names.OJP_EXCHANGE_POINTS_DELIVERY + 1) ∷ []))
unfolding spelling
of_list l = sized_list (syntax.text names.OJP_EXCHANGE_POINTS_DELIVERY) tt POINT point_said l (tag (names.OJP_EXCHANGE_POINTS_DELIVERY + 1) ∷ [])

of_fault : (f : Fault) → length (spelling POINTS_DELIVERY (points_reply_said (variants.Fault f))) ≡ size (put (syntax.text names.OJP_EXCHANGE_POINTS_DELIVERY) tt []) + (length (spelling FAULT (fault_said f)) + size (tag (names.OJP_EXCHANGE_POINTS_DELIVERY + 1) ∷ []))
unfolding spelling
of_fault f = sized_around (syntax.text names.OJP_EXCHANGE_POINTS_DELIVERY) tt FAULT (fault_said f) (tag (names.OJP_EXCHANGE_POINTS_DELIVERY + 1) ∷ [])

pub returns-in-Points-clause-value : goal.returns-in-Points-clause-value
unfolding text
returns-in-Points-clause-value c =
    let each : c.length_each.result ≡ length (flat_map (λ x. spelling POINT (point_said x)) c.in-Points.points) = c.length_each.ensures.value ∙ ap (λ (l : List Point). length (flat_map (λ x. spelling POINT (point_said x)) l)) c.as_slice-points.ensures in
    omega (arith, ap (λ (r : PointsReply). length (spelling POINTS_DELIVERY (points_reply_said r))) c.in-Points.is, of_list c.in-Points.points, each)

pub returns-in-Fault-clause-value : goal.returns-in-Fault-clause-value
unfolding text
returns-in-Fault-clause-value c = omega (arith, ap (λ (r : PointsReply). length (spelling POINTS_DELIVERY (points_reply_said r))) c.in-Fault.is, of_fault c.in-Fault.fault, c.length.ensures.value)
