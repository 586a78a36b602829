use Rattle.std.proofs.Common.{[], ◌∷◌, refl, sym, ap, subst}
use Rattle.ojp_grammar.specs.Items.{text}
use Rattle.ojp_grammar.specs.Fields.{field_text}
use Rattle.ojp_grammar.specs.Syntax.{Fits}
use Rattle.ojp_grammar.specs.Grammar.{FAULT}
use Rattle.ojp_grammar.specs.Documents.{fault_said}
use Rattle.ojp_values.specs.declared.replies.Fault.{Fault}
use Rattle.ojp_values.specs.declared.replies.Fault.TheVariants as faults
use Rattle.ojp_encode.specs.Writing.{spelling}
use Rattle.ojp_encode.proofs.Filling.{Writes-filled, cons-same}
use Rattle.ojp_encode.proofs.Sequences.{Writes-same}
use Rattle.ojp_encode.proofs.Fitting.{ok_given}
use Rattle.ojp_encode.proofs.faults.FaultSpelled.put.Goals as goal

pub returns-in-SameStop-clause-spelled : goal.returns-in-SameStop-clause-spelled
unfolding spelling text field_text
returns-in-SameStop-clause-spelled g c =
    Writes-same _ _ _ _ _ _ _
    (Writes-filled FAULT (fault_said (faults.SameStop c.in-SameStop.stop)) _ _ _ _ _ (c.text-stop.result.now ∷ []) c.put_tag.ensures
    (cons-same _ _ _ _ c.text-stop.ensures.value refl))
    (ap (λ (f : Fault). spelling FAULT (fault_said f)) (sym c.in-SameStop.is))

pub returns-in-StopUnknown-clause-spelled : goal.returns-in-StopUnknown-clause-spelled
unfolding spelling text field_text
returns-in-StopUnknown-clause-spelled g c =
    Writes-same _ _ _ _ _ _ _
    (Writes-filled FAULT (fault_said (faults.StopUnknown c.in-StopUnknown.stop)) _ _ _ _ _ (c.text-stop-in-StopUnknown.result.now ∷ []) c.put_tag-in-StopUnknown.ensures
    (cons-same _ _ _ _ c.text-stop-in-StopUnknown.ensures.value refl))
    (ap (λ (f : Fault). spelling FAULT (fault_said f)) (sym c.in-StopUnknown.is))

pub returns-in-NoTrip-clause-spelled : goal.returns-in-NoTrip-clause-spelled
unfolding spelling text field_text
returns-in-NoTrip-clause-spelled g c =
    Writes-same _ _ _ _ _ _ _
    (Writes-filled FAULT (fault_said (faults.NoTrip c.in-NoTrip.stop)) _ _ _ _ _ (c.text-stop-in-NoTrip.result.now ∷ []) c.put_tag-in-NoTrip.ensures
    (cons-same _ _ _ _ c.text-stop-in-NoTrip.ensures.value refl))
    (ap (λ (f : Fault). spelling FAULT (fault_said f)) (sym c.in-NoTrip.is))

pub returns-in-RegionFailed-clause-spelled : goal.returns-in-RegionFailed-clause-spelled
unfolding spelling text field_text
returns-in-RegionFailed-clause-spelled g c =
    Writes-same _ _ _ _ _ _ _
    (Writes-filled FAULT (fault_said (faults.RegionFailed c.in-RegionFailed.code)) _ _ _ _ _ (c.text-code.result.now ∷ []) c.put_tag-in-RegionFailed.ensures
    (cons-same _ _ _ _ c.text-code.ensures.value refl))
    (ap (λ (f : Fault). spelling FAULT (fault_said f)) (sym c.in-RegionFailed.is))

pub returns-in-NotServed-clause-spelled : goal.returns-in-NotServed-clause-spelled
unfolding spelling text field_text
returns-in-NotServed-clause-spelled g c =
    Writes-same _ _ _ _ _ _ _
    (Writes-filled FAULT (fault_said faults.NotServed) _ _ _ _ _ ([]) c.put_tag-in-NotServed.ensures
    refl)
    (ap (λ (f : Fault). spelling FAULT (fault_said f)) (sym c.in-NotServed.is))

pub returns-in-SameStop-clause-fits : goal.returns-in-SameStop-clause-fits
returns-in-SameStop-clause-fits g c =
    ok_given _ (Fits FAULT (fault_said c.args.self.now)) (subst (λ (f : Fault). Fits FAULT (fault_said f)) (sym c.in-SameStop.is) (tt, ((tt, (tt, c.text-stop.ensures.well)), tt)))

pub returns-in-StopUnknown-clause-fits : goal.returns-in-StopUnknown-clause-fits
returns-in-StopUnknown-clause-fits g c =
    ok_given _ (Fits FAULT (fault_said c.args.self.now)) (subst (λ (f : Fault). Fits FAULT (fault_said f)) (sym c.in-StopUnknown.is) (tt, ((tt, (tt, c.text-stop-in-StopUnknown.ensures.well)), tt)))

pub returns-in-NoTrip-clause-fits : goal.returns-in-NoTrip-clause-fits
returns-in-NoTrip-clause-fits g c =
    ok_given _ (Fits FAULT (fault_said c.args.self.now)) (subst (λ (f : Fault). Fits FAULT (fault_said f)) (sym c.in-NoTrip.is) (tt, ((tt, (tt, c.text-stop-in-NoTrip.ensures.well)), tt)))

pub returns-in-RegionFailed-clause-fits : goal.returns-in-RegionFailed-clause-fits
returns-in-RegionFailed-clause-fits g c =
    ok_given _ (Fits FAULT (fault_said c.args.self.now)) (subst (λ (f : Fault). Fits FAULT (fault_said f)) (sym c.in-RegionFailed.is) (tt, ((tt, (tt, c.text-code.ensures.well)), tt)))

pub returns-in-NotServed-clause-fits : goal.returns-in-NotServed-clause-fits
returns-in-NotServed-clause-fits g c =
    ok_given _ (Fits FAULT (fault_said c.args.self.now)) (subst (λ (f : Fault). Fits FAULT (fault_said f)) (sym c.in-NotServed.is) (tt, (tt, tt)))
