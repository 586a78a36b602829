-- What `ask` does with a request and a server.
use Rattle.std.specs.Prelude.{◌≡◌, ℕ, [], ◌∷◌, codes}
use Rattle.ojp_values.specs.Texts.{Text}
use Rattle.ojp_values.specs.declared.asks.Ask.{Ask}
use Rattle.ojp_values.specs.declared.documents.Doc.TheVariants as docs
use Rattle.ojp_values.specs.declared.replies.Delivery.{Delivery}
use Rattle.ojp_outside.specs.Causes.{Rests}
use Rattle.ojp_outside.specs.Seen.{SourceView, SinkView}
use Rattle.ojp_grammar.specs.Answering.{SpellsAsk, SpellsDelivery}
use Rattle.ojp_grammar.specs.Places.{IsDocumentRefused}
use Rattle.ojp_grammar.specs.declared.refusals.Reason.{Reason}
use Rattle.ojp_grammar.specs.declared.refusals.Want.TheVariants.{Request}
use Rattle.ojp_links.specs.Replies.{IsOfKind}
use Rattle.ojp_links.specs.Seen.{View}
use Rattle.ojp_gateway.specs.Learning.{IsServedBy}
use Rattle.ojp_steps.specs.Lent.{Lent, before, after, IsUnused, Gains, GainsInPart}
use Rattle.ojp_steps.specs.Inputs.{IsDocumentOf, IsNoDocument, FailsToRead, IsReadInPart, IsHeard}
use Rattle.ojp_steps.specs.declared.failures.Failure.{Failure}
use Rattle.ojp_steps.specs.declared.failures.Failure.TheVariants.{Document, Input, Output, Memory, Region}
use Rattle.ojp_online.specs.Added.{station_at, HasFailed, HasFailedNone}

-- the code of the one link
abbrev pub one_code : Text
one_code = codes "ASK"

-- the links have one region, at the host and the port
abbrev pub HasOne : Text → ℕ → View → Type 0
HasOne host port v = v.fixed.stations ≡ station_at one_code host port ∷ []

-- the input was a request
abbrev pub IsAccepted : {I : Type 0} → Lent I SourceView → Type 0
IsAccepted input = (ask : Ask) × IsDocumentOf Request input (docs.Ask ask)

-- the text is the document of a delivery of the kind that the input asked; where servers are told, of the answer of the server's timetable
pub record IsAnswer {I L : Type 0} (host : Text) (port : ℕ) (input : Lent I SourceView) (links : Lent L View) (text : Text) : Type 0 where
  pub ask : Ask
  pub of_input : IsDocumentOf Request input (docs.Ask ask)
  pub one : HasOne host port (after links)
  pub delivery : Delivery
  pub kind : IsOfKind ask delivery
  pub answers : IsServedBy (after links) 0 ask delivery
  pub spelled : SpellsDelivery delivery text

-- the output gained just such a text
pub record Asked {I O L : Type 0} (host : Text) (port : ℕ) (input : Lent I SourceView) (output : Lent O SinkView) (links : Lent L View) : Type 0 where
  pub text : Text
  pub answer : IsAnswer host port input links text
  pub gained : Gains output text

-- a write failed, and the output gained a front of such a text
pub record AskedInPart {I O L : Type 0} (host : Text) (port : ℕ) (input : Lent I SourceView) (output : Lent O SinkView) (links : Lent L View) : Type 0 where
  pub text : Text
  pub answer : IsAnswer host port input links text
  pub gained : GainsInPart output text

-- why `ask` fails, and what it leaves alone then: the input comes before the links, and these before the output
abbrev pub AskFails : {I O L : Type 0} → Text → ℕ → Lent I SourceView → Lent O SinkView → Lent L View → Failure → Type 0
AskFails host port input output links (Document at reason) = IsNoDocument Request input at reason × IsUnused output × IsUnused links
AskFails host port input output links Input = FailsToRead input × IsUnused output × IsUnused links
AskFails host port input output links Output = AskedInPart host port input output links
AskFails host port input output links Memory = IsReadInPart input × IsUnused output
AskFails host port input output links (Region code) =
    (code ≡ one_code) × IsAccepted input × HasOne host port (after links) × HasFailed (after links) code × IsUnused output
AskFails host port input output links failure = ⊥

-- the status that is due where the input tells its bytes and no count rose
pub data AskIsDue {I O L : Type 0} (input : Lent I SourceView) (output : Lent O SinkView) (links : Lent L View) : ℕ → Type 0 where
  -- the input is no request
  no_request : (bytes : Text) → IsHeard input bytes → (at : ℕ) (reason : Reason) → IsDocumentRefused Request bytes at reason → AskIsDue input output links 1
  -- the input is a request, the link did not fail, and no write failed
  an_answer : (bytes : Text) → IsHeard input bytes → (ask : Ask) → SpellsAsk ask bytes → HasFailedNone (after links)
      → Rests (before output).faults (after output).faults → AskIsDue input output links 0
