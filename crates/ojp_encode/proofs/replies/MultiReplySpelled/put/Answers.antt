use Rattle.std.proofs.Common.{List, [], ◌∷◌, ◌+◌, refl, sym, ap, ◌∙◌, subst, All}
use Rattle.ojp_tables.specs.declared.names.TheConstants as names
use Rattle.ojp_grammar.specs.Items.{text, tag}
use Rattle.ojp_grammar.specs.Fields.{field_text}
use Rattle.ojp_grammar.specs.Syntax as syntax
use Rattle.ojp_grammar.specs.Syntax.{Fits}
use Rattle.ojp_grammar.specs.Grammar.{FAULT, MULTI_RESULT, MULTI_DELIVERY}
use Rattle.ojp_grammar.specs.Documents.{fault_said, result_said, multi_reply_said}
use Rattle.ojp_values.specs.Limits.{IsWellMultiReply}
use Rattle.ojp_values.specs.declared.replies.MultiReply.{MultiReply}
use Rattle.ojp_values.specs.declared.replies.MultiReply.TheVariants as variants
use Rattle.ojp_values.specs.declared.replies.TripResult.{TripResult}
use Rattle.ojp_encode.specs.Writing.{spelling}
use Rattle.ojp_encode.proofs.Filling.{Writes-around, Writes-list}
use Rattle.ojp_encode.proofs.Sequences.{Writes-same}
use Rattle.ojp_encode.proofs.Fitting.{ok_then, list_fits}
use Rattle.ojp_encode.proofs.replies.MultiReplySpelled.put.Goals as goal

pub returns-in-Results-clause-spelled : goal.returns-in-Results-clause-spelled
unfolding spelling text field_text
returns-in-Results-clause-spelled g c =
    Writes-same _ _ _ _ _ _ _
    (Writes-list (syntax.text names.OJP_MULTI_POINT_TRIP_DELIVERY) tt MULTI_RESULT result_said c.as_slice-results.result.now (tag (names.OJP_MULTI_POINT_TRIP_DELIVERY + 1) ∷ []) _ _ _ _ _ ([]) c.put_list.ensures.spelled refl)
    (ap (λ (l : List TripResult). spelling MULTI_DELIVERY (multi_reply_said (variants.Results l))) c.as_slice-results.ensures ∙ ap (λ (r : MultiReply). spelling MULTI_DELIVERY (multi_reply_said r)) (sym c.in-Results.is))

pub returns-in-Fault-clause-spelled : goal.returns-in-Fault-clause-spelled
unfolding spelling text field_text
returns-in-Fault-clause-spelled g c =
    Writes-same _ _ _ _ _ _ _
    (Writes-around (syntax.text names.OJP_MULTI_POINT_TRIP_DELIVERY) tt FAULT (fault_said c.in-Fault.fault) (tag (names.OJP_MULTI_POINT_TRIP_DELIVERY + 1) ∷ []) _ _ _ _ _ [] c.put_around.ensures.spelled refl)
    (ap (λ (r : MultiReply). spelling MULTI_DELIVERY (multi_reply_said r)) (sym c.in-Fault.is))

pub returns-in-Results-clause-fits : goal.returns-in-Results-clause-fits
returns-in-Results-clause-fits g c =
    let whole : All (λ (x : TripResult). Fits MULTI_RESULT (result_said x)) c.as_slice-results.result.now → Fits MULTI_DELIVERY (multi_reply_said c.args.self.now) = λ h. subst (λ (r : MultiReply). Fits MULTI_DELIVERY (multi_reply_said r)) (sym c.in-Results.is) (tt, list_fits 1 256 MULTI_RESULT (syntax.text (names.OJP_MULTI_POINT_TRIP_DELIVERY + 1)) result_said c.as_slice-results.result.now c.in-Results.results tt c.as_slice-results.ensures (subst IsWellMultiReply c.in-Results.is c.requires).0.0 (subst IsWellMultiReply c.in-Results.is c.requires).0.1 tt h) in
    ok_then _ (All (λ (x : TripResult). Fits MULTI_RESULT (result_said x)) c.as_slice-results.result.now) (Fits MULTI_DELIVERY (multi_reply_said c.args.self.now)) whole c.put_list.ensures.fits

pub returns-in-Fault-clause-fits : goal.returns-in-Fault-clause-fits
returns-in-Fault-clause-fits g c =
    let whole : Fits FAULT (fault_said c.in-Fault.fault) → Fits MULTI_DELIVERY (multi_reply_said c.args.self.now) = λ h. subst (λ (r : MultiReply). Fits MULTI_DELIVERY (multi_reply_said r)) (sym c.in-Fault.is) (tt, (h, tt)) in
    ok_then _ (Fits FAULT (fault_said c.in-Fault.fault)) (Fits MULTI_DELIVERY (multi_reply_said c.args.self.now)) whole c.put_around.ensures.fits
