use Rattle.std.proofs.Common.{[], ◌∷◌, ◌+◌, refl, sym, ap, subst}
use Rattle.ojp_tables.specs.declared.names.TheConstants as names
use Rattle.ojp_grammar.specs.Items.{text, tag, spell}
use Rattle.ojp_grammar.specs.Fields.{field_text}
use Rattle.ojp_grammar.specs.Syntax.{Fits}
use Rattle.ojp_grammar.specs.Syntax as syntax
use Rattle.ojp_grammar.specs.Grammar.{ASK, REPLY}
use Rattle.ojp_grammar.specs.Documents.{ask_said, reply_said, items, IsWell}
use Rattle.ojp_values.specs.declared.documents.Doc.{Doc}
use Rattle.ojp_encode.specs.Writing.{spelling}
use Rattle.ojp_encode.proofs.Filling.{Writes-around}
use Rattle.ojp_encode.proofs.Sequences.{Writes-same}
use Rattle.ojp_encode.proofs.Fitting.{ok_then}
use Rattle.ojp_encode.proofs.documents.DocSpelled.put.Goals as goal

pub returns-in-Ask-clause-spelled : goal.returns-in-Ask-clause-spelled
unfolding spelling text field_text items
returns-in-Ask-clause-spelled g c =
    Writes-same _ _ _ _ _ _ _
    (Writes-around (syntax.both (syntax.text names.HEAD) (syntax.both (syntax.text names.OJP_REQUEST) (syntax.text names.SERVICE_REQUEST))) (tt, (tt, tt)) ASK (ask_said c.in-Ask.ask) (tag (names.SERVICE_REQUEST + 1) ∷ tag (names.OJP_REQUEST + 1) ∷ tag names.END ∷ []) _ _ _ _ _ [] c.put_around.ensures.spelled refl)
    (ap (λ (d : Doc). spell (items d)) (sym c.in-Ask.is))

pub returns-in-Delivery-clause-spelled : goal.returns-in-Delivery-clause-spelled
unfolding spelling text field_text items
returns-in-Delivery-clause-spelled g c =
    Writes-same _ _ _ _ _ _ _
    (Writes-around (syntax.both (syntax.text names.HEAD) (syntax.both (syntax.text names.OJP_RESPONSE) (syntax.text names.SERVICE_DELIVERY))) (tt, (tt, tt)) REPLY (reply_said c.in-Delivery.delivery) (tag (names.SERVICE_DELIVERY + 1) ∷ tag (names.OJP_RESPONSE + 1) ∷ tag names.END ∷ []) _ _ _ _ _ [] c.put_around-in-Delivery.ensures.spelled refl)
    (ap (λ (d : Doc). spell (items d)) (sym c.in-Delivery.is))

pub returns-in-Ask-clause-fits : goal.returns-in-Ask-clause-fits
unfolding IsWell
returns-in-Ask-clause-fits g c =
    let whole : Fits ASK (ask_said c.in-Ask.ask) → IsWell c.args.self.now = λ h. subst IsWell (sym c.in-Ask.is) (tt, ((tt, ((tt, (h, tt)), tt)), tt)) in
    ok_then _ (Fits ASK (ask_said c.in-Ask.ask)) (IsWell c.args.self.now) whole c.put_around.ensures.fits

pub returns-in-Delivery-clause-fits : goal.returns-in-Delivery-clause-fits
unfolding IsWell
returns-in-Delivery-clause-fits g c =
    let whole : Fits REPLY (reply_said c.in-Delivery.delivery) → IsWell c.args.self.now = λ h. subst IsWell (sym c.in-Delivery.is) (tt, ((tt, ((tt, (h, tt)), tt)), tt)) in
    ok_then _ (Fits REPLY (reply_said c.in-Delivery.delivery)) (IsWell c.args.self.now) whole c.put_around-in-Delivery.ensures.fits
