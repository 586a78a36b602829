-- What a reader answers, by all the bytes that were fed and never by their cuts.
use Rattle.std.specs.Prelude.{◌≡◌, ◌≢◌, ℕ, ◌≤◌, List, [], ◌++◌, length, take, Result, Ok, Err}
use Rattle.ojp_values.specs.declared.documents.Doc.{Doc}
use Rattle.ojp_grammar.specs.declared.refusals.Reason.TheVariants.{Truncated, Trailing}
use Rattle.ojp_grammar.specs.declared.refusals.Refused.{Refused}
use Rattle.ojp_grammar.specs.declared.refusals.Want.{Want}
use Rattle.ojp_grammar.specs.Items.{spell}
use Rattle.ojp_grammar.specs.Documents.{items, IsWanted, Spells}
use Rattle.ojp_grammar.specs.Places.{IsDocumentRefused}
use Rattle.ojp_grammar.specs.Whole.{IsWhole}
use Rattle.ojp_decode.specs.declared.fed.Fed.{Fed}
use Rattle.ojp_decode.specs.declared.fed.Fed.TheVariants as feds
use Rattle.ojp_decode.specs.declared.fed.ReadRefused.{ReadRefused}
use Rattle.ojp_decode.specs.declared.fed.ReadRefused.TheVariants.{At, NoMemory}
use Rattle.ojp_decode.specs.Progress.{Progress, reading, whole, over, spent}

-- no wanted document begins the bytes
abbrev pub BeginsNone : Want → List ℕ → Type 0
BeginsNone want bytes = (doc : Doc) (behind : List ℕ) → IsWanted want doc → bytes ≡ spell (items doc) ++ behind → ⊥

-- whatever follows the bytes, they are refused at this place for this reason
abbrev pub StaysRefused : Want → List ℕ → Refused → Type 0
StaysRefused want bytes refused = (more : List ℕ) → IsDocumentRefused want (bytes ++ more) refused.at refused.reason

-- no wanted document begins the bytes, and they are refused as truncated, at a place where more may come
pub record Awaits (want : Want) (bytes : List ℕ) : Type 0 where
  pub none : BeginsNone want bytes
  pub at : ℕ
  pub refused : IsDocumentRefused want bytes at Truncated

-- a wanted document ends behind so many bytes of the piece
pub record EndsWithin (want : Want) (bytes piece : List ℕ) (used : ℕ) : Type 0 where
  pub within : used ≤ length piece
  pub whole : IsWhole want (bytes ++ take used piece)

-- no wanted document begins the bytes, and whatever follows they are refused here, not as truncated
pub record Decides (want : Want) (bytes : List ℕ) (refused : Refused) : Type 0 where
  pub none : BeginsNone want bytes
  pub reason : refused.reason ≢ Truncated
  pub stays : StaysRefused want bytes refused

-- where no document was whole, one goes on, or ends within the piece, or the bytes decide a refusal, or memory ran out
abbrev pub FeedsOn : Want → List ℕ → List ℕ → Result Fed ReadRefused → Progress → Type 0
FeedsOn want bytes piece (Ok feds.More) new = Awaits want (bytes ++ piece) × (new ≡ reading want (bytes ++ piece))
FeedsOn want bytes piece (Ok (feds.Whole used)) new =
    EndsWithin want bytes piece used × (new ≡ whole want (bytes ++ take used piece))
FeedsOn want bytes piece (Err (At refused)) new = Decides want (bytes ++ piece) refused × (new ≡ over refused)
FeedsOn want bytes piece (Err NoMemory) new = new ≡ spent

-- the refusal of what follows so many bytes of a document
abbrev pub trailing : ℕ → Refused
trailing length = record { at = length; reason = Trailing }

-- behind a whole document an empty piece changes nothing, and another is refused as trailing at the document's length
pub record FeedsBehind (want : Want) (bytes piece : List ℕ) (result : Result Fed ReadRefused) (new : Progress) : Type 0 where
  pub empty : piece ≡ [] → (result ≡ Ok (feds.Whole 0)) × (new ≡ whole want bytes)
  pub more : piece ≢ [] → (result ≡ Err (At (trailing (length bytes)))) × (new ≡ over (trailing (length bytes)))
  pub stays : piece ≢ [] → StaysRefused want (bytes ++ piece) (trailing (length bytes))

-- bytes in which no document is whole are refused as truncated, at their place
abbrev pub IsCut : Want → List ℕ → Result Doc ReadRefused → Type 0
IsCut want bytes (Ok doc) = ⊥
IsCut want bytes (Err (At refused)) = (refused.reason ≡ Truncated) × IsDocumentRefused want bytes refused.at Truncated
IsCut want bytes (Err NoMemory) = ⊥

-- the bytes of a whole document give it
abbrev pub IsRead : Want → List ℕ → Result Doc ReadRefused → Type 0
IsRead want bytes (Ok doc) = IsWanted want doc × Spells doc bytes
IsRead want bytes (Err refused) = ⊥
