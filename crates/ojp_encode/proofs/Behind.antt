-- How the shapes of the documents are spelled.
use Rattle.std.proofs.Common.{◌≡◌, ℕ, List, [], ◌∷◌, ◌++◌, refl, sym, ap, ◌∙◌, append_assoc, inl, inr}
use Rattle.std.specs.List.{flat_map}
use Rattle.ojp_grammar.specs.Items.{Item, tag, value, item_text, spell}
use Rattle.ojp_grammar.specs.Syntax.{Syntax, Says, put, put_each, text, field, both, either, many, value_of}
use Rattle.ojp_encode.specs.Writing.{spelling}

-- what stands behind a shape is spelled behind it
abbrev Puts : Syntax → Type 0
Puts s = (v : Says s) (rest : List Item) → spell (put s v rest) ≡ spelling s v ++ spell rest

each_put : (a : Syntax) → Puts a → (vs : List (Says a)) (rest : List Item) → spell (put_each (put a) vs rest) ≡ flat_map (spelling a) vs ++ spell rest
each_put a p [] rest = refl
each_put a p (v ∷ vs) rest =
    p v (put_each (put a) vs rest) ∙ ap (λ l. spelling a v ++ l) (each_put a p vs rest) ∙ sym (append_assoc (spelling a v) (flat_map (spelling a) vs) (spell rest))

in_both : (a b : Syntax) → Puts a → Puts b → (v : Says (both a b)) (rest : List Item) → spell (put (both a b) v rest) ≡ spelling (both a b) v ++ spell rest
unfolding spelling
in_both a b p q v rest =
    p v.0 (put b v.1 rest) ∙ ap (λ l. spelling a v.0 ++ l) (q v.1 rest) ∙ sym (append_assoc (spelling a v.0) (spelling b v.1) (spell rest))
    ∙ sym (ap (λ l. l ++ spell rest) (p v.0 (put b v.1 [])))

in_many : (low high : ℕ) (a b : Syntax) → Puts a → Puts b → (v : Says (many low high a b)) (rest : List Item) → spell (put (many low high a b) v rest) ≡ spelling (many low high a b) v ++ spell rest
unfolding spelling
in_many low high a b p q v rest =
    each_put a p v.0 (put b v.1 rest) ∙ ap (λ l. flat_map (spelling a) v.0 ++ l) (q v.1 rest) ∙ sym (append_assoc (flat_map (spelling a) v.0) (spelling b v.1) (spell rest))
    ∙ sym (ap (λ l. l ++ spell rest) (each_put a p v.0 (put b v.1 [])))

pub spell_put : (s : Syntax) (v : Says s) (rest : List Item) → spell (put s v rest) ≡ spelling s v ++ spell rest
unfolding spelling
spell_put (text n) v rest = sym (append_assoc (item_text (tag n)) [] (spell rest))
spell_put (field kind close) v rest = sym (
    append_assoc (item_text (value (value_of kind v))) (item_text (tag close) ++ []) (spell rest)
    ∙ ap (λ l. item_text (value (value_of kind v)) ++ l) (append_assoc (item_text (tag close)) [] (spell rest)))
spell_put (both a b) v rest = in_both a b (spell_put a) (spell_put b) v rest
spell_put (either a b) (inl v) rest = spell_put a v rest
spell_put (either a b) (inr v) rest = spell_put b v rest
spell_put (many low high a b) v rest = in_many low high a b (spell_put a) (spell_put b) v rest

-- the values of a list are spelled one after another
pub spell_put_each : (a : Syntax) (vs : List (Says a)) (rest : List Item) → spell (put_each (put a) vs rest) ≡ flat_map (spelling a) vs ++ spell rest
spell_put_each a vs rest = each_put a (spell_put a) vs rest
