-- Bytes as texts, one after another.
use Rattle.std.proofs.Common.{◌≡◌, refl, ℕ, List, [], ◌∷◌, ◌++◌, map, ◌∙◌, ap, append_assoc}
use Rattle.ojp_grammar.specs.Items.{Item, item_text, spell}

abbrev pub joined : List (List ℕ) → List ℕ → List ℕ
joined [] rest = rest
joined (t ∷ ts) rest = t ++ joined ts rest

pub spell_joined : (w : List Item) (rest : List ℕ) → spell w ++ rest ≡ joined (map item_text w) rest
spell_joined [] rest = refl
spell_joined (i ∷ w) rest = append_assoc (item_text i) (spell w) rest ∙ ap (λ l. item_text i ++ l) (spell_joined w rest)
