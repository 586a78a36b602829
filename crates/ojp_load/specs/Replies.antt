-- A response of status 200 with the document of a delivery.
use Rattle.std.specs.Prelude.{◌≡◌}
use Rattle.ojp_values.specs.Texts.{Text}
use Rattle.ojp_values.specs.declared.replies.Delivery.{Delivery}
use Rattle.ojp_grammar.specs.Answering.{SpellsDelivery}
use Rattle.ojp_http.specs.Serving.{response}

-- the bytes are the whole response with the document of the delivery
pub record IsResponse (bytes : Text) (delivery : Delivery) : Type 0 where
  pub text : Text
  pub spells : SpellsDelivery delivery text
  pub is : bytes ≡ response 200 text
