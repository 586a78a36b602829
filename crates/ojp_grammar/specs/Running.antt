-- Where the machine stands.
use Rattle.std.specs.Prelude.{◌≡◌, ℕ, List, length, Option, Some, None}
use Rattle.ojp_values.specs.declared.documents.Doc.{Doc}
use Rattle.ojp_grammar.specs.declared.machine.Machine.{Machine}
use Rattle.ojp_grammar.specs.declared.refusals.Want.{Want}
use Rattle.ojp_grammar.specs.Items.{Item, spell}
use Rattle.ojp_grammar.specs.Documents.{IsWanted, Spells}
use Rattle.ojp_grammar.specs.Syntax.{Syntax}
use Rattle.ojp_grammar.specs.Steps.{stack_of, AreShallow}
use Rattle.ojp_grammar.specs.Reached.{At, start_of}
use Rattle.ojp_grammar.specs.Folding.{Waiting, nothing, fold}

-- whole items of a wanted document are behind, these shapes are open, these values wait, and the tail of the bytes is left
pub record IsReading (want : Want) (at : ℕ) (open_shapes : List Syntax) (waiting : Waiting) (bytes tail : List ℕ) : Type 0 where
  pub front : List Item
  pub reached : At (start_of want) bytes front open_shapes tail
  pub shallow : AreShallow open_shapes
  pub place : at ≡ length (spell front)
  pub folded : fold nothing front ≡ Some waiting

-- the machine has read the bytes up to their tail
abbrev pub Stands : Machine → List ℕ → List ℕ → Type 0
Stands machine bytes tail = IsReading machine.want machine.at (stack_of machine.stack.items) machine.draft bytes tail

-- the document that the bytes spell was read
abbrev pub IsRead : Want → List ℕ → Option Doc → Type 0
IsRead want bytes None = ⊥
IsRead want bytes (Some doc) = IsWanted want doc × Spells doc bytes
