-- What answers the body of a request: a refusal with its place, or the spelling of a delivery.
use Rattle.std.specs.Prelude.{◌≡◌, ◌⊎◌, ℕ}
use Rattle.ojp_values.specs.Texts.{Text}
use Rattle.ojp_values.specs.declared.asks.Ask.{Ask}
use Rattle.ojp_values.specs.declared.replies.Delivery.{Delivery}
use Rattle.ojp_values.specs.declared.documents.Doc.TheVariants as docs
use Rattle.ojp_grammar.specs.declared.refusals.Reason.{Reason}
use Rattle.ojp_grammar.specs.declared.refusals.Want.TheVariants as wants
use Rattle.ojp_grammar.specs.Documents.{IsWanted, Spells}
use Rattle.ojp_grammar.specs.Places.{IsDocumentRefused}
use Rattle.ojp_grammar.specs.Reasons.{refusal_line}

-- the bytes are the document of the ask
pub record SpellsAsk (ask : Ask) (bytes : Text) : Type 0 where
  pub wanted : IsWanted wants.Request (docs.Ask ask)
  pub spells : Spells (docs.Ask ask) bytes

-- the bytes are the document of the delivery
pub record SpellsDelivery (delivery : Delivery) (bytes : Text) : Type 0 where
  pub wanted : IsWanted wants.Delivery (docs.Delivery delivery)
  pub spells : Spells (docs.Delivery delivery) bytes

-- the body is no document of an ask: 400 with the place and the reason
pub record RefusesBody (body : Text) (status : ℕ) (text : Text) : Type 0 where
  pub at : ℕ
  pub reason : Reason
  pub refused : IsDocumentRefused wants.Request body at reason
  pub is_status : status ≡ 400
  pub is_text : text ≡ refusal_line at reason

-- the body is the document of an ask: 200 with the document of a delivery that stands in the relation to it
pub record DeliversBody (Relates : Ask → Delivery → Type 0) (body : Text) (status : ℕ) (text : Text) : Type 0 where
  pub ask : Ask
  pub asked : SpellsAsk ask body
  pub delivery : Delivery
  pub relates : Relates ask delivery
  pub is_status : status ≡ 200
  pub is_text : SpellsDelivery delivery text

-- which status and text answer a body, where Relates says which deliveries answer an ask
abbrev pub AnswersBody : (Ask → Delivery → Type 0) → Text → ℕ → Text → Type 0
AnswersBody Relates body status text = RefusesBody body status text ⊎ DeliversBody Relates body status text
