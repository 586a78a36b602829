-- What is known behind whole items of a wanted document.
use Rattle.std.specs.Prelude.{◌≡◌, ℕ, ◌≤◌, List, [], ◌∷◌, ◌++◌, ◌⊎◌, length}
use Rattle.ojp_grammar.specs.declared.refusals.Want.{Want}
use Rattle.ojp_grammar.specs.Items.{Item, spell}
use Rattle.ojp_grammar.specs.Syntax.{Syntax, text}
use Rattle.ojp_grammar.specs.Grammar.{content}
use Rattle.ojp_tables.specs.declared.names.TheConstants.{HEAD, END}
use Rattle.ojp_grammar.specs.Places.{EndsWhole}
use Rattle.ojp_grammar.specs.Steps.{Accepts, ArePlain}

-- the shapes that are open at the start of a document
abbrev pub start_of : Want → List Syntax
start_of want = text HEAD ∷ content want ∷ text END ∷ []

-- the list goes on behind the front
abbrev pub GoesOn : List Item → List Item → Type 0
GoesOn front other = (rest : List Item) × (other ≡ front ++ rest)

-- the other front is no longer, or goes on behind this one
abbrev pub IsNoFurther : List Item → List Item → Type 0
IsNoFurther front other = (length (spell other) ≤ length (spell front)) ⊎ GoesOn front other

-- Behind these whole items of the wanted documents these shapes are open and these bytes are left;
-- whatever follows the bytes, no document and no front stands beside these items.
pub record At (start : List Syntax) (bytes : List ℕ) (front : List Item) (open_shapes : List Syntax) (tail : List ℕ) : Type 0 where
  pub plain : ArePlain open_shapes
  pub to : (w : List Item) → Accepts w open_shapes → Accepts (front ++ w) start
  pub from : (w : List Item) → Accepts (front ++ w) start → Accepts w open_shapes
  pub parts : bytes ≡ spell front ++ tail
  pub whole : EndsWhole front tail
  pub documents : (more after : List ℕ) (w : List Item) → Accepts w start → bytes ++ more ≡ spell w ++ after → GoesOn front w
  pub fronts : (more : List ℕ) (other rest : List Item) (behind : List ℕ) → Accepts (other ++ rest) start → bytes ++ more ≡ spell other ++ behind → EndsWhole other behind → IsNoFurther front other
