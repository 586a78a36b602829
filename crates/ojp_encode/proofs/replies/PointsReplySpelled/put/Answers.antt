use Rattle.std.proofs.Common.{List, [], ◌∷◌, ◌+◌, refl, sym, ap, ◌∙◌, subst, arith, All}
use Rattle.ojp_tables.specs.declared.names.TheConstants as names
use Rattle.ojp_grammar.specs.Items.{text, tag}
use Rattle.ojp_grammar.specs.Fields.{field_text}
use Rattle.ojp_grammar.specs.Syntax as syntax
use Rattle.ojp_grammar.specs.Syntax.{Fits}
use Rattle.ojp_grammar.specs.Grammar.{FAULT, POINT, POINTS_DELIVERY}
use Rattle.ojp_grammar.specs.Documents.{fault_said, point_said, points_reply_said}
use Rattle.ojp_values.specs.Limits.{IsWellPointsReply}
use Rattle.ojp_values.specs.declared.replies.PointsReply.{PointsReply}
use Rattle.ojp_values.specs.declared.replies.PointsReply.TheVariants as variants
use Rattle.ojp_values.specs.declared.trips.Point.{Point}
use Rattle.ojp_encode.specs.Writing.{spelling}
use Rattle.ojp_encode.proofs.Filling.{Writes-around, Writes-list}
use Rattle.ojp_encode.proofs.Sequences.{Writes-same}
use Rattle.ojp_encode.proofs.Fitting.{ok_then, list_fits}
use Rattle.ojp_encode.proofs.replies.PointsReplySpelled.put.Goals as goal

pub returns-in-Points-clause-spelled : goal.returns-in-Points-clause-spelled
unfolding spelling text field_text
returns-in-Points-clause-spelled g c =
    Writes-same _ _ _ _ _ _ _
    (Writes-list (syntax.text names.OJP_EXCHANGE_POINTS_DELIVERY) tt POINT point_said c.as_slice-points.result.now (tag (names.OJP_EXCHANGE_POINTS_DELIVERY + 1) ∷ []) _ _ _ _ _ ([]) c.put_list.ensures.spelled refl)
    (ap (λ (l : List Point). spelling POINTS_DELIVERY (points_reply_said (variants.Points l))) c.as_slice-points.ensures ∙ ap (λ (r : PointsReply). spelling POINTS_DELIVERY (points_reply_said r)) (sym c.in-Points.is))

pub returns-in-Fault-clause-spelled : goal.returns-in-Fault-clause-spelled
unfolding spelling text field_text
returns-in-Fault-clause-spelled g c =
    Writes-same _ _ _ _ _ _ _
    (Writes-around (syntax.text names.OJP_EXCHANGE_POINTS_DELIVERY) tt FAULT (fault_said c.in-Fault.fault) (tag (names.OJP_EXCHANGE_POINTS_DELIVERY + 1) ∷ []) _ _ _ _ _ [] c.put_around.ensures.spelled refl)
    (ap (λ (r : PointsReply). spelling POINTS_DELIVERY (points_reply_said r)) (sym c.in-Fault.is))

pub returns-in-Points-clause-fits : goal.returns-in-Points-clause-fits
returns-in-Points-clause-fits g c =
    let whole : All (λ (x : Point). Fits POINT (point_said x)) c.as_slice-points.result.now → Fits POINTS_DELIVERY (points_reply_said c.args.self.now) = λ h. subst (λ (r : PointsReply). Fits POINTS_DELIVERY (points_reply_said r)) (sym c.in-Points.is) (tt, list_fits 0 65_535 POINT (syntax.text (names.OJP_EXCHANGE_POINTS_DELIVERY + 1)) point_said c.as_slice-points.result.now c.in-Points.points tt c.as_slice-points.ensures (omega arith) (subst IsWellPointsReply c.in-Points.is c.requires).0 tt h) in
    ok_then _ (All (λ (x : Point). Fits POINT (point_said x)) c.as_slice-points.result.now) (Fits POINTS_DELIVERY (points_reply_said c.args.self.now)) whole c.put_list.ensures.fits

pub returns-in-Fault-clause-fits : goal.returns-in-Fault-clause-fits
returns-in-Fault-clause-fits g c =
    let whole : Fits FAULT (fault_said c.in-Fault.fault) → Fits POINTS_DELIVERY (points_reply_said c.args.self.now) = λ h. subst (λ (r : PointsReply). Fits POINTS_DELIVERY (points_reply_said r)) (sym c.in-Fault.is) (tt, (h, tt)) in
    ok_then _ (Fits FAULT (fault_said c.in-Fault.fault)) (Fits POINTS_DELIVERY (points_reply_said c.args.self.now)) whole c.put_around.ensures.fits
