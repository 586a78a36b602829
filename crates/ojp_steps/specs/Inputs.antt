-- An input that is read as one document.
use Rattle.std.specs.Prelude.{◌≡◌, ◌≢◌, ℕ, ◌≤◌, [], ◌++◌, ◌⊎◌, length, IsTrue, Option, Some, IfSome, Result, Ok, Err}
use Rattle.std.specs.Io.KnownBytes.{Consumes, IsAtEnd}
use Rattle.ojp_values.specs.Texts.{Text}
use Rattle.ojp_values.specs.declared.asks.Ask.{Ask}
use Rattle.ojp_values.specs.declared.documents.Doc.{Doc}
use Rattle.ojp_values.specs.declared.documents.Doc.TheVariants as docs
use Rattle.ojp_outside.specs.Causes.{Rose, Rests}
use Rattle.ojp_outside.specs.Known.{LosesPrefix}
use Rattle.ojp_grammar.specs.Documents.{IsWanted, Spells}
use Rattle.ojp_grammar.specs.Places.{IsDocumentRefused}
use Rattle.ojp_grammar.specs.Whole.{IsWhole}
use Rattle.ojp_grammar.specs.declared.refusals.Reason.{Reason}
use Rattle.ojp_grammar.specs.declared.refusals.Want.{Want}
use Rattle.ojp_grammar.specs.declared.refusals.Want.TheVariants.{Request}
use Rattle.ojp_decode.specs.Feeding.{Awaits}
use Rattle.ojp_outside.specs.Seen.{SourceView}
use Rattle.ojp_steps.specs.Lent.{Lent, before, after}
use Rattle.ojp_steps.specs.declared.failures.Failure.{Failure}
use Rattle.ojp_steps.specs.declared.failures.Failure.TheVariants.{Document, Input, Memory}
use Rattle.ojp_steps.specs.declared.input.InputRefused.{InputRefused}
use Rattle.ojp_steps.specs.declared.input.InputRefused.TheVariants.{At, Failed, NoMemory}

-- the input, where it tells its bytes, had just the wanted document left, and was read to its end with no fault
pub record IsDocumentOf {I : Type 0} (want : Want) (input : Lent I SourceView) (doc : Doc) : Type 0 where
  pub bytes : Text
  pub taken : Consumes (before input).left (after input).left bytes
  pub at_end : IsAtEnd (after input).left
  pub end_seen : IsTrue (after input).ended
  pub spells : Spells doc bytes
  pub wanted : IsWanted want doc
  pub calm : (after input).faults ≡ (before input).faults

-- the bytes refuse nothing: a wanted document is whole in them, or goes on behind them
abbrev pub RefusesNone : Want → Text → Type 0
RefusesNone want bytes = IsWhole want bytes ⊎ Awaits want bytes

-- of the bytes taken all but the last piece, if there are any, refuse nothing
pub record TakesToRefusal (want : Want) (old new : Option Text) : Type 0 where
  pub front : Text
  pub last : Text
  pub taken : Consumes old new (front ++ last)
  pub undecided : front ≢ [] → RefusesNone want front
  pub within : length last ≤ 8192

-- no wanted document is what the input had left, where it tells its bytes: at this place, for this reason
pub record IsNoDocument {I : Type 0} (want : Want) (input : Lent I SourceView) (at : ℕ) (reason : Reason) : Type 0 where
  pub refused : IfSome (before input).left (λ bytes. IsDocumentRefused want bytes at reason)
  pub taken : TakesToRefusal want (before input).left (after input).left
  pub calm : (after input).faults ≡ (before input).faults

-- a read failed behind the bytes that were taken
pub record FailsToRead {I : Type 0} (input : Lent I SourceView) : Type 0 where
  pub taken : LosesPrefix (before input).left (after input).left
  pub rose : Rose (before input).faults (after input).faults

-- bytes were taken, and no read failed
pub record IsReadInPart {I : Type 0} (input : Lent I SourceView) : Type 0 where
  pub taken : LosesPrefix (before input).left (after input).left
  pub calm : (after input).faults ≡ (before input).faults

-- how the reading of one document ends
abbrev pub ReadsAs : {I : Type 0} → Want → Lent I SourceView → Result Doc InputRefused → Type 0
ReadsAs want input (Ok doc) = IsDocumentOf want input doc
ReadsAs want input (Err (At at reason)) = IsNoDocument want input at reason
ReadsAs want input (Err Failed) = FailsToRead input
ReadsAs want input (Err NoMemory) = IsReadInPart input

-- how the reading of one request ends
abbrev pub ReadsAsk : {I : Type 0} → Lent I SourceView → Result Ask InputRefused → Type 0
ReadsAsk input (Ok ask) = IsDocumentOf Request input (docs.Ask ask)
ReadsAsk input (Err refused) = ReadsAs Request input (Err refused)

-- the failure of a command that could not take its input
abbrev pub failure_of_input : InputRefused → Failure
failure_of_input (At at reason) = Document at reason
failure_of_input Failed = Input
failure_of_input NoMemory = Memory

-- the input tells that it had just these bytes left, and no read of it failed
pub record IsHeard {I : Type 0} (input : Lent I SourceView) (bytes : Text) : Type 0 where
  pub told : (before input).left ≡ Some bytes
  pub rests : Rests (before input).faults (after input).faults
