-- Where bytes that no wanted document spells are refused, and why.
use Rattle.std.specs.Prelude.{◌≡◌, ◌≢◌, ℕ, ◌≤◌, List, [], ◌∷◌, ◌++◌, length, All, ◌⊎◌}
use Rattle.std.specs.List.{AllByRecursion}
use Rattle.ojp_values.specs.declared.kinds.Kind.{Kind}
use Rattle.ojp_values.specs.declared.documents.Doc.{Doc}
use Rattle.ojp_grammar.specs.declared.fields.FieldValue.{FieldValue}
use Rattle.ojp_grammar.specs.declared.refusals.Want.{Want}
use Rattle.ojp_grammar.specs.declared.refusals.Reason.{Reason}
use Rattle.ojp_grammar.specs.declared.refusals.Reason.TheVariants as reasons
use Rattle.ojp_grammar.specs.Fields.{kind_of}
use Rattle.ojp_grammar.specs.Items.{Item, tag, value, text, spell}
use Rattle.ojp_grammar.specs.Documents.{items, Spells, IsWanted}

-- a wanted document has these items in front, and then the rest
pub record Stands (want : Want) (front rest : List Item) : Type 0 where
  pub doc : Doc
  pub wanted : IsWanted want doc
  pub parts : items doc ≡ front ++ rest

-- the bytes begin with an angle bracket
abbrev pub BeginsMarkup : List ℕ → Type 0
BeginsMarkup bytes = (more : List ℕ) × (bytes ≡ 60 ∷ more)

-- if the items end with a field, markup stands behind them
abbrev pub EndsWhole : List Item → List ℕ → Type 0
EndsWhole front behind = (before : List Item) (v : FieldValue) → front ≡ before ++ value v ∷ [] → BeginsMarkup behind

-- the bytes begin with whole items of a wanted document, and then the tail
pub record Begins (want : Want) (bytes : List ℕ) (front : List Item) (tail : List ℕ) : Type 0 where
  pub rest : List Item
  pub stands : Stands want front rest
  pub parts : bytes ≡ spell front ++ tail
  pub whole : EndsWhole front tail

-- an item that a wanted document has next
abbrev pub Expects : Want → List Item → Item → Type 0
Expects want front item = (rest : List Item) × Stands want front (item ∷ rest)

-- a field of the kind that a wanted document has next
abbrev pub ExpectsField : Want → List Item → Kind → Type 0
ExpectsField want front kind = (v : FieldValue) × (kind_of v ≡ kind) × Expects want front (value v)

-- the first bytes are the other's front, and some of the other is missing
abbrev pub IsProperPrefix : List ℕ → List ℕ → Type 0
IsProperPrefix a b = (more : List ℕ) × (b ≡ a ++ more) × (more ≢ [])

-- no angle bracket stands in the bytes
abbrev pub Run : List ℕ → Type 0
Run bytes = AllByRecursion (λ b. b ≢ 60) bytes

-- a field may still go on
abbrev pub IsOpenRun : List ℕ → Type 0
IsOpenRun tail = All (λ b. b ≢ 60) tail × (length tail ≤ 512)

-- the reason, by what stands behind the front
abbrev pub StandsFor : Want → List Item → List ℕ → Reason → Type 0
StandsFor want front tail reasons.Trailing = Stands want front [] × (tail ≢ [])
StandsFor want front tail reasons.Markup =
    ((n : ℕ) × Expects want front (tag n)) × ((n : ℕ) → Expects want front (tag n) → IsProperPrefix tail (text n) → ⊥)
StandsFor want front tail (reasons.Field kind) = ExpectsField want front kind × (IsOpenRun tail → ⊥)
StandsFor want front tail reasons.Truncated =
    ((n : ℕ) × Expects want front (tag n) × IsProperPrefix tail (text n))
    ⊎ ((kind : Kind) × ExpectsField want front kind × IsOpenRun tail)

-- no wanted document spells the bytes; the place is the end of their longest front of whole items
pub record IsDocumentRefused (want : Want) (bytes : List ℕ) (at : ℕ) (reason : Reason) : Type 0 where
  pub none : (doc : Doc) → IsWanted want doc → Spells doc bytes → ⊥
  pub front : List Item
  pub tail : List ℕ
  pub begins : Begins want bytes front tail
  pub place : at ≡ length (spell front)
  pub longest : (other : List Item) (after : List ℕ) → Begins want bytes other after → length (spell other) ≤ at
  pub stands_for : StandsFor want front tail reason
