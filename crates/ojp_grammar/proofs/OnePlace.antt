-- One place and one reason of a refusal.
use Rattle.std.proofs.Common.{◌≡◌, ◌≢◌, refl, ℕ, ◌≤◌, List, [], ◌∷◌, ◌++◌, ◌+◌, length, Some, None, inl, inr, sym, ◌∙◌, ap, subst, arith, append_assoc, length-append}
use Rattle.std.proofs.lemmas.List.{append-nil, append_cancel_left}
use Rattle.ojp_values.specs.declared.kinds.Kind.{Kind}
use Rattle.ojp_grammar.specs.declared.fields.FieldValue.{FieldValue}
use Rattle.ojp_grammar.specs.declared.refusals.Want.{Want}
use Rattle.ojp_grammar.specs.declared.refusals.Reason.{Reason}
use Rattle.ojp_grammar.specs.declared.refusals.Reason.TheVariants as reasons
use Rattle.ojp_grammar.specs.Fields.{kind_of}
use Rattle.ojp_grammar.specs.Items.{Item, tag, value, item_text, text, spell}
use Rattle.ojp_grammar.specs.Syntax.{Syntax}
use Rattle.ojp_grammar.specs.Documents.{items}
use Rattle.ojp_grammar.specs.Places.{BeginsMarkup, EndsWhole, Stands, Expects, ExpectsField, StandsFor}
use Rattle.ojp_grammar.specs.Steps.{step, Accepts, IsPlain, ArePlain}
use Rattle.ojp_grammar.specs.Reached.{start_of}
use Rattle.ojp_grammar.specs.Laws.{OnePlace, MoreIsRefused, OnlyMoreIsRefused}
use Rattle.ojp_grammar.proofs.FieldLaws.{bare}
use Rattle.ojp_grammar.proofs.Plain.{begins_no_field, begins_small}
use Rattle.ojp_grammar.proofs.Spelled.{text_opens, same_item}
use Rattle.ojp_grammar.proofs.Behind.{comes_first, step_accepts, step_plain}
use Rattle.ojp_grammar.proofs.Progress.{at_start}
use Rattle.ojp_grammar.proofs.Refusal.{accepted_of, at_trailing}
use Rattle.ojp_grammar.proofs.Unique.{at_accepted}
use Rattle.ojp_grammar.proofs.Wanted.{start_means}

-- ---- one front

opens_some : (t : List ℕ) → BeginsMarkup t → 1 ≤ length t
opens_some t h = omega (arith, ap length h.1)

-- no item that is accepted has an empty text
some_bytes : (s : Syntax) (k : List Syntax) (i : Item) (w : List Item) → IsPlain s → Accepts (i ∷ w) (s ∷ k) → 1 ≤ length (item_text i)
some_bytes s k (tag n) w p h = opens_some (text n) (text_opens n (begins_small s n p h.0))
some_bytes s k (value v) w p h = (bare v h.1.0).some

size_more : (i : Item) (w : List Item) → length (spell (i ∷ w)) ≡ length (item_text i) + length (spell w)
size_more i w = length-append (item_text i) (spell w)

-- markup stands behind the rest as behind the whole
ends_rest : (i : Item) (w : List Item) (x : List ℕ) → EndsWhole (i ∷ w) x → EndsWhole w x
ends_rest i w x whole before v e = whole (i ∷ before) v (ap (λ l. i ∷ l) e)

ends_here : (i : Item) (w : List Item) (x : List ℕ) → EndsWhole (i ∷ w) x → (v : FieldValue) → i ≡ value v → w ≡ [] → BeginsMarkup x
ends_here i w x whole v is none = whole [] v (ap (λ j. j ∷ w) is ∙ ap (λ l. value v ∷ l) none)

-- two fronts of the same length in front of the same bytes are one
same_front : (k : List Syntax) (w u r q : List Item) (x y : List ℕ) → ArePlain k → Accepts (w ++ r) k → Accepts (u ++ q) k → EndsWhole w x → EndsWhole u y → spell w ++ x ≡ spell u ++ y → length (spell w) ≡ length (spell u) → w ≡ u
same_front k [] [] r q x y p h g whole ends e size = refl
same_front [] [] (j ∷ u) r q x y p h g whole ends e size = absurd g
same_front (s ∷ k) [] (j ∷ u) r q x y p h g whole ends e size =
    absurd (omega (arith, some_bytes s k j (u ++ q) p.0 g, size_more j u, size))
same_front [] (i ∷ w) [] r q x y p h g whole ends e size = absurd h
same_front (s ∷ k) (i ∷ w) [] r q x y p h g whole ends e size =
    absurd (omega (arith, some_bytes s k i (w ++ r) p.0 h, size_more i w, size))
same_front [] (i ∷ w) (j ∷ u) r q x y p h g whole ends e size = absurd h
same_front (s ∷ k) (i ∷ w) (j ∷ u) r q x y p h g whole ends e size =
    let bytes : List ℕ = item_text i ++ (spell w ++ x) in
    let here = comes_first s k i w r bytes x p.0 p.1 h refl (ends_here i w x whole) in
    let there = comes_first s k j u q bytes y p.0 p.1 g
    (sym (append_assoc (item_text i) (spell w) x) ∙ (e ∙ append_assoc (item_text j) (spell u) y)) (ends_here j u y ends) in
    let same = same_item s bytes i j (spell w ++ x) (spell u ++ y) p.0 here there in
    let P : Item → Type 0 = λ l. Accepts (u ++ q) (step l s k) in
    let rest = same_front (step i s k) w u r q x y (step_plain s k i bytes (spell w ++ x) p.0 p.1 here)
    (step_accepts s k i (w ++ r) h) (subst P (sym same.item) (step_accepts s k j (u ++ q) g))
    (ends_rest i w x whole) (ends_rest j u y ends) same.behind
    (omega (arith, size, size_more i w, size_more j u, ap (λ l. length (item_text l)) same.item)) in
    ap (λ l. l ∷ w) same.item ∙ ap (λ l. j ∷ l) rest

-- ---- one reason

-- the shapes that are open behind the front
abbrev open_behind : List Item → List Syntax → List Syntax
open_behind [] k = k
open_behind (i ∷ w) [] = []
open_behind (i ∷ w) (s ∷ k) = open_behind w (step i s k)

accepts_behind : (front w : List Item) (k : List Syntax) → Accepts (front ++ w) k → Accepts w (open_behind front k)
accepts_behind [] w k h = h
accepts_behind (i ∷ front) w [] h = absurd h
accepts_behind (i ∷ front) w (s ∷ k) h = accepts_behind front w (step i s k) (step_accepts s k i (front ++ w) h)

open_of : (want : Want) (front rest : List Item) → Stands want front rest → Accepts rest (open_behind front (start_of want))
open_of want front rest h =
    accepts_behind front rest (start_of want) (accepted_of want (start_of want) front rest (start_means want) h)

not_ended : (k : List Syntax) (i : Item) (w : List Item) → Accepts [] k → Accepts (i ∷ w) k → ⊥
not_ended [] i w h g = g
not_ended (s ∷ k) i w h g = h

no_tag : (k : List Syntax) (n : ℕ) (v : FieldValue) (w u : List Item) → Accepts (tag n ∷ w) k → Accepts (value v ∷ u) k → ⊥
no_tag [] n v w u h g = h
no_tag (s ∷ k) n v w u h g = absurd (let e : None ≡ Some (kind_of v) = sym (begins_no_field s n h.0) ∙ g.0 in cc)

same_kind : (k : List Syntax) (v x : FieldValue) (w u : List Item) → Accepts (value v ∷ w) k → Accepts (value x ∷ u) k → kind_of v ≡ kind_of x
same_kind [] v x w u h g = absurd h
same_kind (s ∷ k) v x w u h g = let e : Some (kind_of v) ≡ Some (kind_of x) = sym h.0 ∙ g.0 in cc

-- behind a whole document no item is expected
whole_expects : (want : Want) (front : List Item) (i : Item) → Stands want front [] → Expects want front i → ⊥
whole_expects want front i h e =
    not_ended (open_behind front (start_of want)) i e.0 (open_of want front [] h) (open_of want front (i ∷ e.0) e.1)

-- not both markup and a field are expected
one_sort : (want : Want) (front : List Item) (n : ℕ) (kind : Kind) → Expects want front (tag n) → ExpectsField want front kind → ⊥
one_sort want front n kind t f =
    no_tag (open_behind front (start_of want)) n f.0 t.0 f.2.0 (open_of want front (tag n ∷ t.0) t.1) (open_of want front (value f.0 ∷ f.2.0) f.2.1)

one_kind : (want : Want) (front : List Item) (kind other : Kind) → ExpectsField want front kind → ExpectsField want front other → kind ≡ other
one_kind want front kind other f g =
    sym f.1 ∙ (same_kind (open_behind front (start_of want)) f.0 g.0 f.2.0 g.2.0 (open_of want front (value f.0 ∷ f.2.0) f.2.1) (open_of want front (value g.0 ∷ g.2.0) g.2.1) ∙ g.1)

whole_cut : (want : Want) (front : List Item) (tail : List ℕ) → StandsFor want front tail reasons.Trailing → StandsFor want front tail reasons.Truncated → ⊥
whole_cut want front tail h (inl c) = whole_expects want front (tag c.0) h.0 c.1
whole_cut want front tail h (inr c) = whole_expects want front (value c.1.0) h.0 c.1.2

markup_cut : (want : Want) (front : List Item) (tail : List ℕ) → StandsFor want front tail reasons.Markup → StandsFor want front tail reasons.Truncated → ⊥
markup_cut want front tail h (inl c) = h.1 c.0 c.1 c.2
markup_cut want front tail h (inr c) = one_sort want front h.0.0 c.0 h.0.1 c.1

field_cut : (want : Want) (front : List Item) (tail : List ℕ) (kind : Kind) → StandsFor want front tail (reasons.Field kind) → StandsFor want front tail reasons.Truncated → ⊥
field_cut want front tail kind h (inl c) = one_sort want front c.0 kind c.1 h.0
field_cut want front tail kind h (inr c) = h.1 c.2

one_reason : (want : Want) (front : List Item) (tail : List ℕ) (a b : Reason) → StandsFor want front tail a → StandsFor want front tail b → a ≡ b
one_reason want front tail reasons.Trailing reasons.Trailing h g = refl
one_reason want front tail reasons.Trailing reasons.Markup h g = absurd (whole_expects want front (tag g.0.0) h.0 g.0.1)
one_reason want front tail reasons.Trailing (reasons.Field kind) h g = absurd (whole_expects want front (value g.0.0) h.0 g.0.2)
one_reason want front tail reasons.Trailing reasons.Truncated h g = absurd (whole_cut want front tail h g)
one_reason want front tail reasons.Markup reasons.Trailing h g = absurd (whole_expects want front (tag h.0.0) g.0 h.0.1)
one_reason want front tail reasons.Markup reasons.Markup h g = refl
one_reason want front tail reasons.Markup (reasons.Field kind) h g = absurd (one_sort want front h.0.0 kind h.0.1 g.0)
one_reason want front tail reasons.Markup reasons.Truncated h g = absurd (markup_cut want front tail h g)
one_reason want front tail (reasons.Field kind) reasons.Trailing h g = absurd (whole_expects want front (value h.0.0) g.0 h.0.2)
one_reason want front tail (reasons.Field kind) reasons.Markup h g = absurd (one_sort want front g.0.0 kind g.0.1 h.0)
one_reason want front tail (reasons.Field kind) (reasons.Field other) h g = ap reasons.Field (one_kind want front kind other h.0 g.0)
one_reason want front tail (reasons.Field kind) reasons.Truncated h g = absurd (field_cut want front tail kind h g)
one_reason want front tail reasons.Truncated reasons.Trailing h g = absurd (whole_cut want front tail g h)
one_reason want front tail reasons.Truncated reasons.Markup h g = absurd (markup_cut want front tail g h)
one_reason want front tail reasons.Truncated (reasons.Field kind) h g = absurd (field_cut want front tail kind g h)
one_reason want front tail reasons.Truncated reasons.Truncated h g = refl

-- ---- laws

pub one_refusal : OnePlace
one_refusal want bytes at place reason cause h g =
    let means = start_means want in
    let start : List Syntax = start_of want in
    let further : length (spell g.front) ≤ at = h.longest g.front g.tail g.begins in
    let other : length (spell h.front) ≤ place = g.longest h.front h.tail h.begins in
    let same : h.front ≡ g.front =
    same_front start h.front g.front h.begins.rest g.begins.rest h.tail g.tail means.plain
    (accepted_of want start h.front h.begins.rest means h.begins.stands)
    (accepted_of want start g.front g.begins.rest means g.begins.stands)
    h.begins.whole g.begins.whole (sym h.begins.parts ∙ g.begins.parts)
    (omega (arith, h.place, g.place, further, other)) in
    let tails : h.tail ≡ g.tail =
    append_cancel_left (spell h.front) h.tail g.tail
    (sym h.begins.parts ∙ (g.begins.parts ∙ ap (λ l. spell l ++ g.tail) (sym same))) in
    let P : List Item → Type 0 = λ f. StandsFor want f g.tail cause in
    let Q : List ℕ → Type 0 = λ t. StandsFor want h.front t cause in (
      h.place ∙ (ap (λ l. length (spell l)) same ∙ sym g.place),
      one_reason want h.front h.tail reason cause h.stands_for (subst Q (sym tails) (subst P (sym same) g.stands_for)),
    )

pub more_refused : MoreIsRefused
more_refused want doc more wanted some =
    let means = start_means want in
    let start : List Syntax = start_of want in
    let bytes : List ℕ = spell (items doc) ++ more in
    let at = at_accepted start bytes means.plain [] (items doc) start more (at_start start bytes means.plain) (means.accepts doc wanted) in
    at_trailing want start bytes (items doc) more means at some

pub only_more_refused : OnlyMoreIsRefused
only_more_refused want doc [] at reason wanted refused =
    absurd (refused.none doc wanted (append-nil (spell (items doc))))
only_more_refused want doc (b ∷ more) at reason wanted refused =
    let some : b ∷ more ≢ [] = λ e. absurd cc in
    let one = one_refusal want (spell (items doc) ++ b ∷ more) at (length (spell (items doc))) reason reasons.Trailing refused (more_refused want doc (b ∷ more) wanted some) in
    (some, one.0, one.1)
