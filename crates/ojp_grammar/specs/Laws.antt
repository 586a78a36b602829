-- Laws of the documents.
use Rattle.std.specs.Prelude.{◌≡◌, ◌≢◌, ℕ, ◌<◌, ◌^◌, List, [], ◌++◌, length}
use Rattle.ojp_values.specs.declared.documents.Doc.{Doc}
use Rattle.ojp_grammar.specs.declared.refusals.Want.{Want}
use Rattle.ojp_grammar.specs.declared.refusals.Reason.{Reason}
use Rattle.ojp_grammar.specs.declared.refusals.Reason.TheVariants.{Trailing}
use Rattle.ojp_grammar.specs.Items.{spell}
use Rattle.ojp_grammar.specs.Documents.{items, IsWanted}
use Rattle.ojp_grammar.specs.Places.{IsDocumentRefused}

-- documents in front of the same bytes are the same, item by item, and the same bytes stand behind them
abbrev pub OneSpelling : Type 0
OneSpelling =
    (want : Want) (doc other : Doc) (x y : List ℕ) → IsWanted want doc → IsWanted want other
    → spell (items doc) ++ x ≡ spell (items other) ++ y → (doc ≡ other) × (x ≡ y)

-- bytes that are refused are refused at one place, and for one reason
abbrev pub OnePlace : Type 0
OnePlace =
    (want : Want) (bytes : List ℕ) (at place : ℕ) (reason cause : Reason) → IsDocumentRefused want bytes at reason
    → IsDocumentRefused want bytes place cause → (at ≡ place) × (reason ≡ cause)

-- bytes behind a wanted document are refused where it ends
abbrev pub MoreIsRefused : Type 0
MoreIsRefused =
    (want : Want) (doc : Doc) (more : List ℕ) → IsWanted want doc → more ≢ []
    → IsDocumentRefused want (spell (items doc) ++ more) (length (spell (items doc))) Trailing

-- a wanted document is refused for bytes behind it alone
abbrev pub OnlyMoreIsRefused : Type 0
OnlyMoreIsRefused =
    (want : Want) (doc : Doc) (more : List ℕ) (at : ℕ) (reason : Reason) → IsWanted want doc
    → IsDocumentRefused want (spell (items doc) ++ more) at reason
    → (more ≢ []) × (at ≡ length (spell (items doc))) × (reason ≡ Trailing)

-- a wanted document has fewer than 2^41 bytes
abbrev pub AreShort : Type 0
AreShort = (want : Want) (doc : Doc) → IsWanted want doc → length (spell (items doc)) < 2 ^ 41
