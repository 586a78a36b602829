-- A reader that is fed an input piece by piece.
use Rattle.std.specs.Prelude.{◌≡◌, ◌≢◌, [], ◌++◌, Result, Ok, Err}
use Rattle.ojp_values.specs.Texts.{Text}
use Rattle.ojp_values.specs.declared.documents.Doc.{Doc}
use Rattle.ojp_grammar.specs.Documents.{IsWanted, Spells}
use Rattle.ojp_grammar.specs.Places.{IsDocumentRefused}
use Rattle.ojp_grammar.specs.declared.refusals.Want.{Want}
use Rattle.ojp_decode.specs.Progress.{Progress, reading, whole, over, spent}
use Rattle.ojp_decode.specs.Feeding.{StaysRefused}
use Rattle.ojp_decode.specs.Standing.{ReaderView, HasRead}
use Rattle.ojp_decode.specs.declared.fed.ReadRefused.{ReadRefused}
use Rattle.ojp_decode.specs.declared.fed.ReadRefused.TheVariants.{At, NoMemory}
use Rattle.ojp_steps.specs.Inputs.{RefusesNone}
use Rattle.ojp_steps.specs.declared.input.InputRefused.{InputRefused}
use Rattle.ojp_steps.specs.declared.input.InputRefused.TheVariants as refusals

-- the reader took these bytes, all that it was fed: a document goes on in them, or ends with them
abbrev pub Took : Want → Text → Progress → Type 0
Took want fed (reading meant bytes) = (meant ≡ want) × (bytes ≡ fed)
Took want fed (whole meant bytes) = (meant ≡ want) × (bytes ≡ fed)
Took want fed (over refused) = ⊥
Took want fed spent = ⊥

-- the reader took these bytes
abbrev pub HasTaken : Want → Text → ReaderView → Type 0
HasTaken want fed reader = (progress : Progress) × HasRead reader progress × Took want fed progress

-- the reader took the whole piece, which refuses nothing, or all the bytes are refused whatever follows
abbrev pub FeedsAll : Want → Text → Text → Result (Unit {0}) ReadRefused → ReaderView → Type 0
FeedsAll want fed piece (Ok done) new = HasTaken want (fed ++ piece) new × (piece ≢ [] → RefusesNone want (fed ++ piece))
FeedsAll want fed piece (Err (At refused)) new = StaysRefused want (fed ++ piece) refused
FeedsAll want fed piece (Err NoMemory) new = Unit {0}

-- the bytes spell the document, or no wanted one
abbrev pub Finishes : Want → Text → Result Doc InputRefused → Type 0
Finishes want fed (Ok doc) = IsWanted want doc × Spells doc fed
Finishes want fed (Err (refusals.At at reason)) = IsDocumentRefused want fed at reason
Finishes want fed (Err refusals.Failed) = ⊥
Finishes want fed (Err refusals.NoMemory) = Unit {0}

-- the refusal of an input whose document is refused so
abbrev pub input_refusal : ReadRefused → InputRefused
input_refusal (At refused) = refusals.At refused.at refused.reason
input_refusal NoMemory = refusals.NoMemory
