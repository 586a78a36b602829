-- From one item to the next, and what stands where none comes.
use Rattle.std.proofs.Common.{◌≡◌, refl, ℕ, ◌<◌, List, [], ◌∷◌, ◌++◌, Some, None, ◌⊎◌, inl, inr, sym, ◌∙◌, ap, subst, append_assoc}
use Rattle.std.proofs.lemmas.List.{append_cancel_left, append-nil}
use Rattle.std.proofs.lemmas.List.Concat.{flat_map-append}
use Rattle.std.proofs.lemmas.Bool.{eqb-true}
use Rattle.ojp_values.specs.declared.kinds.Kind.{Kind}
use Rattle.ojp_grammar.specs.declared.fields.FieldValue.{FieldValue}
use Rattle.ojp_grammar.specs.Fields.{kind_of, field_text}
use Rattle.ojp_grammar.specs.Items.{Item, tag, value, item_text, text, spell}
use Rattle.ojp_grammar.specs.Syntax.{Syntax, FieldOf, value_of}
use Rattle.ojp_grammar.specs.Syntax as shapes
use Rattle.ojp_grammar.specs.Places.{BeginsMarkup, EndsWhole}
use Rattle.ojp_grammar.specs.Steps.{enter, wants, leave, step, Accepts, Comes, IsPlain, ArePlain}
use Rattle.ojp_grammar.specs.Reached.{At}
use Rattle.ojp_grammar.proofs.Plain.{enter_plain, leave_plain, leave_closes}
use Rattle.ojp_grammar.proofs.Spelled.{text_opens, opens_more}

-- ---- lists

pub nil_not_more : {A : Type 0} (xs : List A) (x : A) (ys : List A) → [] ≡ xs ++ x ∷ ys → ⊥
nil_not_more [] x ys e = cc
nil_not_more (y ∷ xs) x ys e = cc

pub same_last : {A : Type 0} (xs ys : List A) (x y : A) → xs ++ x ∷ [] ≡ ys ++ y ∷ [] → x ≡ y
same_last [] [] x y e = cc
same_last [] (b ∷ ys) x y e = absurd (nil_not_more ys y [] (let rest : [] ≡ ys ++ y ∷ [] = cc in rest))
same_last (a ∷ xs) [] x y e = absurd (nil_not_more xs x [] (let rest : [] ≡ xs ++ x ∷ [] = cc in rest))
same_last (a ∷ xs) (b ∷ ys) x y e = same_last xs ys x y (let rest : xs ++ x ∷ [] ≡ ys ++ y ∷ [] = cc in rest)

pub spell-append : (a b : List Item) → spell (a ++ b) ≡ spell a ++ spell b
spell-append a b = flat_map-append item_text a b

-- one item behind the front
pub front_more : (front : List Item) (i : Item) (w : List Item) → (front ++ i ∷ []) ++ w ≡ front ++ i ∷ w
front_more front i w = append_assoc front (i ∷ []) w

pub spell-snoc : (front : List Item) (i : Item) → spell (front ++ i ∷ []) ≡ spell front ++ item_text i
spell-snoc front i = spell-append front (i ∷ []) ∙ ap (λ t. spell front ++ t) (append-nil (item_text i))

-- ---- the item that a document has next

pub comes_more : (s : Syntax) (i : Item) (bytes behind more : List ℕ) → Comes s i bytes behind → Comes s i (bytes ++ more) (behind ++ more)
comes_more s (tag n) bytes behind more c = (c.0, ap (λ b. b ++ more) c.1 ∙ append_assoc (text n) behind more)
comes_more s (value v) bytes behind more c =
    (c.0, c.1, ap (λ b. b ++ more) c.2 ∙ append_assoc (field_text v) behind more, opens_more behind more c.3)

pub accepts_step : (s : Syntax) (k : List Syntax) (i : Item) (bytes behind : List ℕ) (w : List Item) → Comes s i bytes behind → Accepts w (step i s k) → Accepts (i ∷ w) (s ∷ k)
accepts_step s k (tag n) bytes behind w c h = (c.0, h)
accepts_step s k (value v) bytes behind w c h = (c.0, (c.1, h))

pub step_accepts : (s : Syntax) (k : List Syntax) (i : Item) (w : List Item) → Accepts (i ∷ w) (s ∷ k) → Accepts w (step i s k)
step_accepts s k (tag n) w h = h.1
step_accepts s k (value v) w h = h.1.1

pub step_plain : (s : Syntax) (k : List Syntax) (i : Item) (bytes behind : List ℕ) → IsPlain s → ArePlain k → Comes s i bytes behind → ArePlain (step i s k)
step_plain s k (tag n) bytes behind p q c = enter_plain s n k p q
step_plain s k (value v) bytes behind p q c = leave_plain s (kind_of v) k p q c.0

-- what is accepted behind a closing text begins with markup
closes_markup : (c : ℕ) (k : List Syntax) (j : Item) (w : List Item) (after : List ℕ) → c < 99 → Accepts (j ∷ w) (shapes.text c ∷ k) → BeginsMarkup (item_text j ++ after)
closes_markup c k (tag n) w after small h =
    let P : ℕ → Type 0 = λ m. BeginsMarkup (text m ++ after) in
    subst P (eqb-true c n h.0) (opens_more (text c) after (text_opens c small))
closes_markup c k (value v) w after small h = absurd (let e : None ≡ Some (kind_of v) = h.0 in cc)

-- markup stands behind a field
behind_field : (s : Syntax) (k : List Syntax) (kind : Kind) (r rest : List Item) (after : List ℕ) → IsPlain s → ArePlain k → wants s ≡ Some kind → Accepts (r ++ rest) (leave s k) → (r ≡ [] → BeginsMarkup after) → BeginsMarkup (spell r ++ after)
behind_field s k kind [] rest after p q e h last = last refl
behind_field s k kind (j ∷ r) rest after p q e h last =
    let c = leave_closes s kind k p q e in
    let P : List Syntax → Type 0 = Accepts ((j ∷ r) ++ rest) in
    let h' : Accepts (j ∷ (r ++ rest)) (shapes.text c.close ∷ c.more) = subst P c.is h in
    let m = closes_markup c.close c.more j (r ++ rest) (spell r ++ after) c.small h' in
    let Q : List ℕ → Type 0 = BeginsMarkup in
    subst Q (sym (append_assoc (item_text j) (spell r) after)) m

pub comes_first : (s : Syntax) (k : List Syntax) (j : Item) (r rest : List Item) (bytes after : List ℕ) → IsPlain s → ArePlain k → Accepts (j ∷ (r ++ rest)) (s ∷ k) → bytes ≡ item_text j ++ (spell r ++ after) → ((v : FieldValue) → j ≡ value v → r ≡ [] → BeginsMarkup after) → Comes s j bytes (spell r ++ after)
comes_first s k (tag n) r rest bytes after p q h e last = (h.0, e)
comes_first s k (value v) r rest bytes after p q h e last =
    (h.0, h.1.0, e, behind_field s k (kind_of v) r rest after p q h.0 h.1.1 (last v refl))

-- the bytes behind the front
pub left : (front other : List Item) (bytes tail more after : List ℕ) → bytes ≡ spell front ++ tail → bytes ++ more ≡ spell (front ++ other) ++ after → tail ++ more ≡ spell other ++ after
left front other bytes tail more after parts e =
    append_cancel_left (spell front) (tail ++ more) (spell other ++ after)
    (sym (append_assoc (spell front) tail more) ∙ (ap (λ b. b ++ more) (sym parts) ∙ (e
    ∙ (ap (λ b. b ++ after) (spell-append front other) ∙ append_assoc (spell front) (spell other) after))))

-- an item, and the items behind it, of a list that goes on behind the front
pub record Next (s : Syntax) (front other : List Item) (bytes after : List ℕ) : Type 0 where
  pub item : Item
  pub rest : List Item
  pub parts : other ≡ front ++ item ∷ rest
  pub comes : Comes s item bytes (spell rest ++ after)

pub next_in : (start : List Syntax) (bytes : List ℕ) (front : List Item) (s : Syntax) (k : List Syntax) (tail : List ℕ) → At start bytes front (s ∷ k) tail → (more after : List ℕ) (other r rest : List Item) → other ≡ front ++ r → Accepts (other ++ rest) start → bytes ++ more ≡ spell other ++ after → EndsWhole other after → (r ≡ []) ⊎ Next s front other (tail ++ more) after
next_in start bytes front s k tail at more after other [] rest parts accepted e whole = inl refl
next_in start bytes front s k tail at more after other (j ∷ r) rest parts accepted e whole =
    let P : List Item → Type 0 = λ w. Accepts w start in
    let h : Accepts (front ++ ((j ∷ r) ++ rest)) start =
    subst P (ap (λ o. o ++ rest) parts ∙ append_assoc front (j ∷ r) rest) accepted in
    let open_items : Accepts (j ∷ (r ++ rest)) (s ∷ k) = at.from (j ∷ (r ++ rest)) h in
    let e' : bytes ++ more ≡ spell (front ++ j ∷ r) ++ after = e ∙ ap (λ o. spell o ++ after) parts in
    let bytes_left : tail ++ more ≡ item_text j ++ (spell r ++ after) =
    left front (j ∷ r) bytes tail more after at.parts e' ∙ append_assoc (item_text j) (spell r) after in
    inr (record {
      item = j;
      rest = r;
      parts = parts;
      comes = comes_first s k j r rest (tail ++ more) after at.plain.0 at.plain.1 open_items bytes_left
          (λ v is none. whole front v (parts ∙ ap (λ w. front ++ w) (ap (λ i. i ∷ r) is ∙ ap (λ l. value v ∷ l) none)));
    })

-- no accepted list ends with a field
pub never_ends : (w : List Item) (k : List Syntax) → ArePlain k → Accepts w k → (before : List Item) (v : FieldValue) → w ≡ before ++ value v ∷ [] → ⊥
never_ends [] k p h before v e = nil_not_more before (value v) [] e
never_ends (i ∷ w) [] p h before v e = absurd h
never_ends (tag n ∷ w) (s ∷ k) p h [] v e = cc
never_ends (value u ∷ w) (s ∷ k) p h [] v e =
    let none : w ≡ [] = cc in
    let P : List Item → Type 0 = λ l. Accepts l (leave s k) in
    let c = leave_closes s (kind_of u) k p.0 p.1 h.0 in
    let Q : List Syntax → Type 0 = Accepts [] in
    let ended : Accepts [] (shapes.text c.close ∷ c.more) = subst Q c.is (subst P none h.1.1) in absurd ended
never_ends (tag n ∷ w) (s ∷ k) p h (b ∷ before) v e =
    never_ends w (enter n s k) (enter_plain s n k p.0 p.1) h.1 before v (let rest : w ≡ before ++ value v ∷ [] = cc in rest)
never_ends (value u ∷ w) (s ∷ k) p h (b ∷ before) v e =
    never_ends w (leave s k) (leave_plain s (kind_of u) k p.0 p.1 h.0) h.1.1 before v (let rest : w ≡ before ++ value v ∷ [] = cc in rest)
