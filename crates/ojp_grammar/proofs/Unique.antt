-- One document for bytes, and nothing behind it.
use Rattle.std.proofs.Common.{◌≡◌, refl, ℕ, List, [], ◌∷◌, ◌++◌, sym, ◌∙◌, ap, subst, append_assoc}
use Rattle.std.proofs.lemmas.List.{append-nil, append_cancel_left}
use Rattle.ojp_grammar.specs.declared.fields.FieldValue.{FieldValue}
use Rattle.ojp_grammar.specs.Fields.{kind_of}
use Rattle.ojp_grammar.specs.Items.{Item, tag, value, item_text, spell}
use Rattle.ojp_grammar.specs.Syntax.{Syntax}
use Rattle.ojp_grammar.specs.Syntax as shapes
use Rattle.ojp_grammar.specs.Steps.{step, leave, Accepts, Comes, IsPlain, ArePlain}
use Rattle.ojp_grammar.specs.Reached.{At}
use Rattle.ojp_grammar.proofs.Plain.{leave_closes}
use Rattle.ojp_grammar.proofs.Behind.{comes_first, front_more}
use Rattle.ojp_grammar.proofs.Progress.{at_start, at_step}

-- behind a field more items come
not_last : (s : Syntax) (k : List Syntax) (i : Item) (w : List Item) (after : List ℕ) → IsPlain s → ArePlain k → Accepts (i ∷ w) (s ∷ k) → (v : FieldValue) → i ≡ value v → w ≡ [] → ⊥
not_last s k (tag n) w after p q h v e none = cc
not_last s k (value u) w after p q h v e none =
    let c = leave_closes s (kind_of u) k p q h.0 in
    let P : List Item → Type 0 = λ l. Accepts l (leave s k) in
    let Q : List Syntax → Type 0 = Accepts [] in
    let ended : Accepts [] (shapes.text c.close ∷ c.more) = subst Q c.is (subst P none h.1.1) in absurd ended

-- the first of accepted items comes in front of their bytes
pub comes_of : (s : Syntax) (k : List Syntax) (i : Item) (w : List Item) (after : List ℕ) → IsPlain s → ArePlain k → Accepts (i ∷ w) (s ∷ k) → Comes s i (item_text i ++ (spell w ++ after)) (spell w ++ after)
comes_of s k i w after p q h =
    let P : List Item → Type 0 = λ l. Accepts (i ∷ l) (s ∷ k) in
    comes_first s k i w [] (item_text i ++ (spell w ++ after)) after p q (subst P (sym (append-nil w)) h) refl
    (λ v e none. absurd (not_last s k i w after p q h v e none))

step_of : (s : Syntax) (k : List Syntax) (i : Item) (w : List Item) → Accepts (i ∷ w) (s ∷ k) → Accepts w (step i s k)
step_of s k (tag n) w h = h.1
step_of s k (value v) w h = h.1.1

-- the machine passes over accepted items, one after another
pub at_accepted : (start : List Syntax) (bytes : List ℕ) → ArePlain start → (front w : List Item) (k : List Syntax) (after : List ℕ) → At start bytes front k (spell w ++ after) → Accepts w k → At start bytes (front ++ w) [] after
at_accepted start bytes plain front [] [] after at h =
    let P : List Item → Type 0 = λ f. At start bytes f [] after in subst P (sym (append-nil front)) at
at_accepted start bytes plain front [] (s ∷ k) after at h = absurd h
at_accepted start bytes plain front (i ∷ w) [] after at h = absurd h
at_accepted start bytes plain front (i ∷ w) (s ∷ k) after at h =
    let P : List ℕ → Type 0 = At start bytes front (s ∷ k) in
    let here = subst P (append_assoc (item_text i) (spell w) after) at in
    let next = at_step start bytes front s k (item_text i ++ (spell w ++ after)) i (spell w ++ after) plain here (comes_of s k i w after at.plain.0 at.plain.1 h) in
    let Q : List Item → Type 0 = λ f. At start bytes f [] after in
    subst Q (front_more front i w) (at_accepted start bytes plain (front ++ i ∷ []) w (step i s k) after next (step_of s k i w h))

none_open : (w : List Item) → Accepts w [] → w ≡ []
none_open [] h = refl
none_open (i ∷ w) h = absurd h

-- two accepted lists in front of the same bytes are one list
pub one_front : (start : List Syntax) (w u : List Item) (x y : List ℕ) → ArePlain start → Accepts w start → Accepts u start → spell w ++ x ≡ spell u ++ y → (w ≡ u) × (x ≡ y)
one_front start w u x y plain h k e =
    let bytes : List ℕ = spell w ++ x in
    let at = at_accepted start bytes plain [] w start x (at_start start bytes plain) h in
    let on = at.documents [] y u k (append-nil bytes ∙ e) in
    let P : List Item → Type 0 = λ l. Accepts l start in
    let ended : on.0 ≡ [] = none_open on.0 (at.from on.0 (subst P on.1 k)) in
    let same : u ≡ w = on.1 ∙ (ap (λ l. w ++ l) ended ∙ append-nil w) in
    (sym same, append_cancel_left (spell w) x y (e ∙ ap (λ l. spell l ++ y) same))
