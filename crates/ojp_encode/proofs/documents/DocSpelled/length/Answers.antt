use Rattle.std.proofs.Common.{◌≡◌, [], ◌∷◌, ◌+◌, length, ap, arith}
use Rattle.ojp_tables.specs.declared.names.TheConstants as names
use Rattle.ojp_grammar.specs.Items.{text, tag, spell}
use Rattle.ojp_grammar.specs.Syntax.{put, put_each}
use Rattle.ojp_grammar.specs.Syntax as syntax
use Rattle.ojp_grammar.specs.Grammar.{ASK, REPLY}
use Rattle.ojp_grammar.specs.Documents.{ask_said, reply_said, items}
use Rattle.ojp_values.specs.declared.asks.Ask.{Ask}
use Rattle.ojp_values.specs.declared.replies.Delivery.{Delivery}
use Rattle.ojp_values.specs.declared.documents.Doc.{Doc}
use Rattle.ojp_values.specs.declared.documents.Doc.TheVariants as variants
use Rattle.ojp_encode.specs.Writing.{spelling}
use Rattle.ojp_encode.proofs.Sizes.{sized_around, size}
use Rattle.ojp_encode.proofs.documents.DocSpelled.length.Goals as goal

of_ask : (a : Ask) → length (spell (items (variants.Ask a))) ≡ size (put (syntax.both (syntax.text names.HEAD) (syntax.both (syntax.text names.OJP_REQUEST) (syntax.text names.SERVICE_REQUEST))) (tt, (tt, tt)) []) + (length (spelling ASK (ask_said a)) + size (tag (names.SERVICE_REQUEST + 1) ∷ tag (names.OJP_REQUEST + 1) ∷ tag names.END ∷ []))
unfolding spelling items
of_ask a = sized_around (syntax.both (syntax.text names.HEAD) (syntax.both (syntax.text names.OJP_REQUEST) (syntax.text names.SERVICE_REQUEST))) (tt, (tt, tt)) ASK (ask_said a) (tag (names.SERVICE_REQUEST + 1) ∷ tag (names.OJP_REQUEST + 1) ∷ tag names.END ∷ [])

of_delivery : (d : Delivery) → length (spell (items (variants.Delivery d))) ≡ size (put (syntax.both (syntax.text names.HEAD) (syntax.both (syntax.text names.OJP_RESPONSE) (syntax.text names.SERVICE_DELIVERY))) (tt, (tt, tt)) []) + (length (spelling REPLY (reply_said d)) + size (tag (names.SERVICE_DELIVERY + 1) ∷ tag (names.OJP_RESPONSE + 1) ∷ tag names.END ∷ []))
unfolding spelling items
of_delivery d = sized_around (syntax.both (syntax.text names.HEAD) (syntax.both (syntax.text names.OJP_RESPONSE) (syntax.text names.SERVICE_DELIVERY))) (tt, (tt, tt)) REPLY (reply_said d) (tag (names.SERVICE_DELIVERY + 1) ∷ tag (names.OJP_RESPONSE + 1) ∷ tag names.END ∷ [])

pub returns-in-Ask-clause-value : goal.returns-in-Ask-clause-value
unfolding text
returns-in-Ask-clause-value c = omega (arith, ap (λ (d : Doc). length (spell (items d))) c.in-Ask.is, of_ask c.in-Ask.ask, c.length.ensures.value)

pub returns-in-Delivery-clause-value : goal.returns-in-Delivery-clause-value
unfolding text
returns-in-Delivery-clause-value c = omega (arith, ap (λ (d : Doc). length (spell (items d))) c.in-Delivery.is, of_delivery c.in-Delivery.delivery, c.length-in-Delivery.ensures.value)
