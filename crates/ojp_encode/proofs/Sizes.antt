-- How many bytes spell the items.
use Rattle.std.proofs.Common.{◌≡◌, ℕ, ◌+◌, List, [], ◌∷◌, ◌++◌, length, map, refl, ap, ◌∙◌, arith, length-append}
use Rattle.std.specs.Fmt.{decimal}
use Rattle.std.specs.List.{flat_map}
use Rattle.std.proofs.lemmas.List.Folds.{flat_map-map}
use Rattle.ojp_values.specs.Texts.{escaped}
use Rattle.ojp_grammar.specs.declared.fields.FieldValue.{FieldValue}
use Rattle.ojp_grammar.specs.declared.fields.FieldValue.TheVariants.{StopRef, Code, Label, Name, Moment, Day, Seconds, Change, Number, Count, EventKind}
use Rattle.ojp_grammar.specs.Fields.{field_text, event_text}
use Rattle.ojp_grammar.specs.Items.{Item, tag, value, text, spell}
use Rattle.ojp_grammar.specs.Syntax.{Syntax, Says, put, put_each}
use Rattle.ojp_encode.specs.Writing.{spelling}
use Rattle.ojp_encode.proofs.Behind.{spell_put, spell_put_each}

-- the bytes of a field
abbrev pub width : FieldValue → ℕ
width (StopRef s) = length s
width (Code s) = length s
width (Label s) = length s
width (Name s) = length (escaped s)
width (Moment n) = 20
width (Day n) = 10
width (Seconds n) = length (decimal n) + 3
width (Change n) = length (decimal n) + 3
width (Number n) = length (decimal n)
width (Count n) = length (decimal n)
width (EventKind e) = length (event_text e)

letters : (d : List ℕ) → length (80 ∷ 84 ∷ (d ++ 83 ∷ [])) ≡ length d + 3
letters d = omega (arith, length-append d (83 ∷ []))

width-is : (v : FieldValue) → length (field_text v) ≡ width v
unfolding field_text
width-is (StopRef s) = refl
width-is (Code s) = refl
width-is (Label s) = refl
width-is (Name s) = refl
width-is (Moment n) = refl
width-is (Day n) = refl
width-is (Seconds n) = letters (decimal n)
width-is (Change n) = letters (decimal n)
width-is (Number n) = refl
width-is (Count n) = refl
width-is (EventKind e) = refl

-- the bytes of the items
abbrev pub size : List Item → ℕ
size [] = 0
size (tag n ∷ items) = length (text n) + size items
size (value v ∷ items) = width v + size items

pub length-spell : (items : List Item) → length (spell items) ≡ size items
length-spell [] = refl
length-spell (tag n ∷ items) = omega (arith, length-append (text n) (spell items), length-spell items)
length-spell (value v ∷ items) = omega (arith, length-append (field_text v) (spell items), width-is v, length-spell items)

pub sized : (s : Syntax) (v : Says s) → length (spelling s v) ≡ size (put s v [])
unfolding spelling
sized s v = length-spell (put s v [])

-- the same with another shape behind the fields
pub sized_around : (h : Syntax) (v : Says h) (a : Syntax) (w : Says a) (rest : List Item)
    → length (spell (put h v (put a w rest))) ≡ size (put h v []) + (length (spelling a w) + size rest)
sized_around h v a w rest =
    ap length (spell_put h v (put a w rest) ∙ ap (λ l. spelling h v ++ l) (spell_put a w rest))
    ∙ omega (arith, length-append (spelling h v) (spelling a w ++ spell rest), length-append (spelling a w) (spell rest), sized h v, length-spell rest)

-- the same with a list behind the fields
pub sized_list : {X : Type 0} (h : Syntax) (v : Says h) (a : Syntax) (f : X → Says a) (xs : List X) (rest : List Item)
    → length (spell (put h v (put_each (put a) (map f xs) rest))) ≡ size (put h v []) + (length (flat_map (λ x. spelling a (f x)) xs) + size rest)
sized_list h v a f xs rest =
    ap length (spell_put h v (put_each (put a) (map f xs) rest)
    ∙ ap (λ l. spelling h v ++ l) (spell_put_each a (map f xs) rest ∙ ap (λ l. l ++ spell rest) (flat_map-map (spelling a) f xs)))
    ∙ omega (arith, length-append (spelling h v) (flat_map (λ x. spelling a (f x)) xs ++ spell rest), length-append (flat_map (λ x. spelling a (f x)) xs) (spell rest), sized h v, length-spell rest)
