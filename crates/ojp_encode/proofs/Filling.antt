-- Items spelled with given texts for their fields.
use Rattle.std.proofs.Common.{map, ◌≡◌, ℕ, List, [], ◌∷◌, ◌++◌, Option, Result, refl, sym, ap, ◌∙◌, append_assoc}
use Rattle.std.specs.List.{flat_map}
use Rattle.std.proofs.lemmas.List.Folds.{flat_map-map}
use Rattle.ojp_outside.specs.declared.sink.WriteFault.{WriteFault}
use Rattle.ojp_grammar.specs.Items.{Item, tag, value, text, spell}
use Rattle.std.specs.Fmt.{decimal}
use Rattle.ojp_values.specs.Texts.{escaped}
use Rattle.ojp_values.specs.Dates.{day_text, moment_text}
use Rattle.ojp_grammar.specs.declared.fields.FieldValue.{FieldValue}
use Rattle.ojp_grammar.specs.declared.fields.FieldValue.TheVariants.{StopRef, Code, Label, Name, Moment, Day, Seconds, Change, Number, Count, EventKind}
use Rattle.ojp_grammar.specs.Fields.{field_text, event_text}
use Rattle.ojp_grammar.specs.Syntax.{Syntax, Says, put, put_each}
use Rattle.ojp_encode.specs.Writing.{Writes, spelling}
use Rattle.ojp_encode.proofs.Sequences.{Writes-same}
use Rattle.ojp_encode.proofs.Behind.{spell_put, spell_put_each}

-- the text of a field; of a duration its number alone
abbrev pub inner_text : FieldValue → List ℕ
inner_text (StopRef s) = s
inner_text (Code s) = s
inner_text (Label s) = s
inner_text (Name s) = escaped s
inner_text (Moment n) = moment_text n
inner_text (Day n) = day_text n
inner_text (Seconds n) = decimal n
inner_text (Change n) = decimal n
inner_text (Number n) = decimal n
inner_text (Count n) = decimal n
inner_text (EventKind e) = event_text e

-- the letters of a duration
abbrev pub letters : List ℕ → List ℕ → List ℕ
letters t rest = 80 ∷ 84 ∷ (t ++ 83 ∷ rest)

-- the text in its field, and what stands behind
abbrev pub put_text : FieldValue → List ℕ → List ℕ → List ℕ
put_text (StopRef s) t rest = t ++ rest
put_text (Code s) t rest = t ++ rest
put_text (Label s) t rest = t ++ rest
put_text (Name s) t rest = t ++ rest
put_text (Moment n) t rest = t ++ rest
put_text (Day n) t rest = t ++ rest
put_text (Seconds n) t rest = letters t rest
put_text (Change n) t rest = letters t rest
put_text (Number n) t rest = t ++ rest
put_text (Count n) t rest = t ++ rest
put_text (EventKind e) t rest = t ++ rest

put_inner : (v : FieldValue) (rest : List ℕ) → put_text v (inner_text v) rest ≡ field_text v ++ rest
unfolding field_text
put_inner (StopRef s) rest = refl
put_inner (Code s) rest = refl
put_inner (Label s) rest = refl
put_inner (Name s) rest = refl
put_inner (Moment n) rest = refl
put_inner (Day n) rest = refl
put_inner (Seconds n) rest = ap (λ l. 80 ∷ 84 ∷ l) (sym (append_assoc (decimal n) (83 ∷ []) rest))
put_inner (Change n) rest = ap (λ l. 80 ∷ 84 ∷ l) (sym (append_assoc (decimal n) (83 ∷ []) rest))
put_inner (Number n) rest = refl
put_inner (Count n) rest = refl
put_inner (EventKind e) rest = refl

-- the texts of the fields, in order
abbrev pub fields : List Item → List (List ℕ)
fields [] = []
fields (tag n ∷ items) = fields items
fields (value v ∷ items) = inner_text v ∷ fields items

-- the items with these texts in their fields
abbrev pub fill : List Item → List (List ℕ) → List ℕ
fill [] texts = []
fill (tag n ∷ items) texts = text n ++ fill items texts
fill (value v ∷ items) [] = []
fill (value v ∷ items) (t ∷ texts) = put_text v t (fill items texts)

filled : (items : List Item) → fill items (fields items) ≡ spell items
filled [] = refl
filled (tag n ∷ items) = ap (λ l. text n ++ l) (filled items)
filled (value v ∷ items) = ap (put_text v (inner_text v)) (filled items) ∙ put_inner v (spell items)

-- the fields were written as they are spelled
pub Writes-filled : (s : Syntax) (v : Says s) (old new : Option (List ℕ)) (before now : ℕ) (r : Result (Unit {0}) WriteFault) (texts : List (List ℕ))
    → Writes old new before now (fill (put s v []) texts) r → texts ≡ fields (put s v []) → Writes old new before now (spelling s v) r
unfolding spelling
Writes-filled s v old new before now r texts w e =
    Writes-same old new before now (fill (put s v []) texts) (spelling s v) r w (ap (fill (put s v [])) e ∙ filled (put s v []))

-- the same with another shape behind the fields
pub Writes-around : (h : Syntax) (v : Says h) (a : Syntax) (w : Says a) (rest : List Item) (old new : Option (List ℕ)) (before now : ℕ) (r : Result (Unit {0}) WriteFault) (texts : List (List ℕ))
    → Writes old new before now (fill (put h v []) texts ++ (spelling a w ++ spell rest)) r → texts ≡ fields (put h v [])
    → Writes old new before now (spell (put h v (put a w rest))) r
unfolding spelling
Writes-around h v a w rest old new before now r texts written e =
    Writes-same old new before now (fill (put h v []) texts ++ (spelling a w ++ spell rest)) (spell (put h v (put a w rest))) r written
    (ap (λ l. l ++ (spelling a w ++ spell rest)) (ap (fill (put h v [])) e ∙ filled (put h v []))
    ∙ sym (spell_put h v (put a w rest) ∙ ap (λ l. spelling h v ++ l) (spell_put a w rest)))

-- the same with a list behind the fields
pub Writes-list : {X : Type 0} (h : Syntax) (v : Says h) (a : Syntax) (f : X → Says a) (xs : List X) (rest : List Item) (old new : Option (List ℕ)) (before now : ℕ) (r : Result (Unit {0}) WriteFault) (texts : List (List ℕ))
    → Writes old new before now (fill (put h v []) texts ++ (flat_map (λ x. spelling a (f x)) xs ++ spell rest)) r → texts ≡ fields (put h v [])
    → Writes old new before now (spell (put h v (put_each (put a) (map f xs) rest))) r
unfolding spelling
Writes-list h v a f xs rest old new before now r texts written e =
    Writes-same old new before now (fill (put h v []) texts ++ (flat_map (λ x. spelling a (f x)) xs ++ spell rest)) (spell (put h v (put_each (put a) (map f xs) rest))) r written
    (ap (λ l. l ++ (flat_map (λ x. spelling a (f x)) xs ++ spell rest)) (ap (fill (put h v [])) e ∙ filled (put h v []))
    ∙ sym (spell_put h v (put_each (put a) (map f xs) rest)
    ∙ ap (λ l. spelling h v ++ l) (spell_put_each a (map f xs) rest ∙ ap (λ l. l ++ spell rest) (flat_map-map (spelling a) f xs))))

-- texts that are equal one by one
pub cons-same : {A : Type 0} (x y : A) (xs ys : List A) → x ≡ y → xs ≡ ys → x ∷ xs ≡ y ∷ ys
cons-same x y xs ys e f = ap (λ z. z ∷ xs) e ∙ ap (λ zs. y ∷ zs) f
