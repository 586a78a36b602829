-- What `check` does with a document.
use Rattle.std.specs.Prelude.{ℕ, codes}
use Rattle.ojp_values.specs.Texts.{Text}
use Rattle.ojp_values.specs.declared.asks.Ask.{Ask}
use Rattle.ojp_values.specs.declared.asks.Ask.TheVariants as asks
use Rattle.ojp_values.specs.declared.replies.Delivery.{Delivery}
use Rattle.ojp_values.specs.declared.replies.Delivery.TheVariants as deliveries
use Rattle.ojp_values.specs.declared.documents.Doc.{Doc}
use Rattle.ojp_values.specs.declared.documents.Doc.TheVariants as docs
use Rattle.ojp_outside.specs.Causes.{Rests}
use Rattle.ojp_grammar.specs.Documents.{IsWanted, Spells}
use Rattle.ojp_grammar.specs.Places.{IsDocumentRefused}
use Rattle.ojp_grammar.specs.declared.refusals.Reason.{Reason}
use Rattle.ojp_grammar.specs.declared.refusals.Want.TheVariants.{Either}
use Rattle.ojp_outside.specs.Seen.{SourceView, SinkView}
use Rattle.ojp_steps.specs.Lent.{Lent, before, after, IsUnused, Gains, GainsInPart}
use Rattle.ojp_steps.specs.Inputs.{IsDocumentOf, IsNoDocument, FailsToRead, IsReadInPart, IsHeard}
use Rattle.ojp_steps.specs.Failures.{line_of}
use Rattle.ojp_steps.specs.declared.failures.Failure.{Failure}
use Rattle.ojp_steps.specs.declared.failures.Failure.TheVariants.{Document, Input, Output, Memory}

abbrev pub ask_name : Ask → Text
ask_name (asks.Trip ask) = codes "OJPTripRequest"
ask_name (asks.Multi ask) = codes "OJPMultiPointTripRequest"
ask_name (asks.Events ask) = codes "OJPStopEventRequest"
ask_name (asks.Points ask) = codes "OJPExchangePointsRequest"

abbrev pub delivery_name : Delivery → Text
delivery_name (deliveries.Trip reply) = codes "OJPTripDelivery"
delivery_name (deliveries.Multi reply) = codes "OJPMultiPointTripDelivery"
delivery_name (deliveries.Events reply) = codes "OJPStopEventDelivery"
delivery_name (deliveries.Points reply) = codes "OJPExchangePointsDelivery"

-- the name of the document's request or delivery element, without prefix
abbrev pub element_name : Doc → Text
element_name (docs.Ask ask) = ask_name ask
element_name (docs.Delivery delivery) = delivery_name delivery

-- the output gained just the name of the document's element, as a line
pub record Checked {I O : Type 0} (input : Lent I SourceView) (output : Lent O SinkView) : Type 0 where
  pub doc : Doc
  pub of_input : IsDocumentOf Either input doc
  pub gained : Gains output (line_of (element_name doc))

-- a write failed, and the output gained a front of that line
pub record CheckedInPart {I O : Type 0} (input : Lent I SourceView) (output : Lent O SinkView) : Type 0 where
  pub doc : Doc
  pub of_input : IsDocumentOf Either input doc
  pub gained : GainsInPart output (line_of (element_name doc))

-- why `check` fails, and what it leaves alone then
abbrev pub CheckFails : {I O : Type 0} → Lent I SourceView → Lent O SinkView → Failure → Type 0
CheckFails input output (Document at reason) = IsNoDocument Either input at reason × IsUnused output
CheckFails input output Input = FailsToRead input × IsUnused output
CheckFails input output Output = CheckedInPart input output
CheckFails input output Memory = IsReadInPart input × IsUnused output
CheckFails input output failure = ⊥

-- the status that is due where the input tells its bytes and no count rose
pub data CheckIsDue {I O : Type 0} (input : Lent I SourceView) (output : Lent O SinkView) : ℕ → Type 0 where
  -- the input is no document
  no_document : (bytes : Text) → IsHeard input bytes → (at : ℕ) (reason : Reason) → IsDocumentRefused Either bytes at reason → CheckIsDue input output 1
  -- the input is a document, and no write failed
  a_name : (bytes : Text) → IsHeard input bytes → (doc : Doc) → IsWanted Either doc → Spells doc bytes
      → Rests (before output).faults (after output).faults → CheckIsDue input output 0
