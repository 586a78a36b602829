-- The machine passes over a whole part at once.
use Rattle.std.proofs.Common.{◌≡◌, ◌≢◌, refl, ℕ, ◌-◌, ◌≤◌, false, List, [], ◌∷◌, ◌++◌, length, None, Some, inl, inr, sym, ◌∙◌, ap, subst, arith, append_assoc}
use Rattle.std.specs.List.{AllByRecursion}
use Rattle.std.proofs.lemmas.List.{append-nil}
use Rattle.ojp_grammar.specs.declared.fields.FieldValue.{FieldValue}
use Rattle.ojp_grammar.specs.Fields.{kind_of}
use Rattle.ojp_grammar.specs.Items.{Item, tag, value, item_text, spell}
use Rattle.ojp_grammar.specs.Syntax.{Syntax, text, field, both, either, many, Says, put, put_each, Fits, value_of}
use Rattle.ojp_grammar.specs.Places.{BeginsMarkup}
use Rattle.ojp_grammar.specs.Steps.{begins, wants, step, Accepts, IsPlain, ArePlain}
use Rattle.ojp_grammar.specs.Reached.{At}
use Rattle.ojp_grammar.proofs.Tests.{false_of}
use Rattle.ojp_grammar.proofs.Words.{AreApart, put_accepts, more_accepts}
use Rattle.ojp_grammar.proofs.Plain.{some_items}
use Rattle.ojp_grammar.proofs.Behind.{comes_first, front_more}
use Rattle.ojp_grammar.proofs.Progress.{at_step}
use Rattle.ojp_grammar.specs.Folding.{PartPassed}

-- what is open behind the items
abbrev leads : List Item → List Syntax → List Syntax
leads [] k = k
leads (i ∷ w) [] = []
leads (i ∷ w) (s ∷ k) = leads w (step i s k)

put_some : (s : Syntax) (v : Says s) (rest : List Item) → IsPlain s → Fits s v → put s v rest ≢ []
put_some (text n) v rest p f e = cc
put_some (field kind c) v rest p f e = cc
put_some (both a b) v rest p f e = put_some a v.0 (put b v.1 rest) p.0 f.0 e
put_some (either a b) (inl v) rest p f e = put_some a v rest p.0 f e
put_some (either a b) (inr v) rest p f e = put_some b v rest p.1 f e
put_some (many low high a b) ([], v) rest p f e = put_some b v rest p.1 f.3 e
put_some (many low high a b) (x ∷ xs, v) rest p f e = put_some a x (put_each (put a) xs (put b v rest)) p.0 f.2.0 e

both_leads : (a b : Syntax) (k : List Syntax) (w : List Item) → w ≢ [] → leads w (both a b ∷ k) ≡ leads w (a ∷ b ∷ k)
both_leads a b k [] some = absurd (some refl)
both_leads a b k (tag n ∷ w) some = refl
both_leads a b k (value v ∷ w) some = refl

left_leads : (a b : Syntax) (k m : List Syntax) (w : List Item) → wants a ≡ None → Accepts w (a ∷ m) → leads w (either a b ∷ k) ≡ leads w (a ∷ k)
left_leads a b k m [] none h = absurd h
left_leads a b k m (tag n ∷ w) none h = rw h.0 refl
left_leads a b k m (value v ∷ w) none h = absurd (let e : Some (kind_of v) ≡ None = sym h.0 ∙ none in cc)

right_leads : (a b : Syntax) (k m : List Syntax) (w : List Item) → wants b ≡ None → AreApart a b → Accepts w (b ∷ m) → leads w (either a b ∷ k) ≡ leads w (b ∷ k)
right_leads a b k m [] none apart h = absurd h
right_leads a b k m (tag n ∷ w) none apart h =
    let other : begins n a ≡ false = false_of (begins n a) (λ g. apart n g h.0) in rw other refl
right_leads a b k m (value v ∷ w) none apart h = absurd (let e : Some (kind_of v) ≡ None = sym h.0 ∙ none in cc)

end_leads : (low high : ℕ) (a b : Syntax) (k m : List Syntax) (w : List Item) → wants b ≡ None → Accepts w (b ∷ m) → leads w (many low high a b ∷ k) ≡ leads w (b ∷ k)
end_leads low high a b k m [] none h = absurd h
end_leads low high a b k m (tag n ∷ w) none h = rw h.0 refl
end_leads low high a b k m (value v ∷ w) none h = absurd (let e : Some (kind_of v) ≡ None = sym h.0 ∙ none in cc)

more_leads : (low high : ℕ) (a b : Syntax) (k m : List Syntax) (w : List Item) → wants a ≡ None → AreApart a b → Accepts w (a ∷ m) → leads w (many low high a b ∷ k) ≡ leads w (a ∷ many (low - 1) (high - 1) a b ∷ k)
more_leads low high a b k m [] none apart h = absurd h
more_leads low high a b k m (tag n ∷ w) none apart h =
    let other : begins n b ≡ false = false_of (begins n b) (λ g. apart n h.0 g) in rw other refl
more_leads low high a b k m (value v ∷ w) none apart h = absurd (let e : Some (kind_of v) ≡ None = sym h.0 ∙ none in cc)

-- what is said of a plain shape leads behind it
abbrev Passes : Syntax → Type 0
Passes s = (v : Says s) (rest : List Item) (k m : List Syntax) → Fits s v → Accepts rest m → leads (put s v rest) (s ∷ k) ≡ leads rest k

many_passes : (a b : Syntax) → IsPlain a → IsPlain b → wants a ≡ None → wants b ≡ None → AreApart a b → Passes a → Passes b → (xs : List (Says a)) (low high : ℕ) (v : Says b) (rest : List Item) (k m : List Syntax) → low ≤ length xs → length xs ≤ high → AllByRecursion (Fits a) xs → Fits b v → Accepts rest m → leads (put_each (put a) xs (put b v rest)) (many low high a b ∷ k) ≡ leads rest k
many_passes a b p q none_a none_b apart passes_a passes_b [] low high v rest k m least most each fits h =
    end_leads low high a b k m (put b v rest) none_b (put_accepts b q v rest m fits h) ∙ passes_b v rest k m fits h
many_passes a b p q none_a none_b apart passes_a passes_b (x ∷ xs) low high v rest k m least most each fits h =
    let behind : Accepts (put_each (put a) xs (put b v rest)) (many (low - 1) (high - 1) a b ∷ m) =
    put_accepts (many (low - 1) (high - 1) a b) (p, q, none_a, none_b, apart, omega (arith, least, most)) (xs, v) rest m (omega (arith, least), omega (arith, most), each.1, fits) h in
    more_leads low high a b k (many (low - 1) (high - 1) a b ∷ m) (put a x (put_each (put a) xs (put b v rest))) none_a apart (put_accepts a p x (put_each (put a) xs (put b v rest)) (many (low - 1) (high - 1) a b ∷ m) each.0 behind)
    ∙ (passes_a x (put_each (put a) xs (put b v rest)) (many (low - 1) (high - 1) a b ∷ k) (many (low - 1) (high - 1) a b ∷ m) each.0 behind
    ∙ many_passes a b p q none_a none_b apart passes_a passes_b xs (low - 1) (high - 1) v rest k m (omega (arith, least)) (omega (arith, most)) each.1 fits h)

pub passes : (s : Syntax) → IsPlain s → Passes s
passes (text n) p v rest k m f h = refl
passes (field kind c) p v rest k m f h = refl
passes (both a b) p v rest k m f h =
    let behind = put_accepts b p.1 v.1 rest m f.1 h in
    both_leads a b k (put a v.0 (put b v.1 rest)) (put_some a v.0 (put b v.1 rest) p.0 f.0)
    ∙ (passes a p.0 v.0 (put b v.1 rest) (b ∷ k) (b ∷ m) f.0 behind ∙ passes b p.1 v.1 rest k m f.1 h)
passes (either a b) p (inl v) rest k m f h =
    left_leads a b k m (put a v rest) p.2 (put_accepts a p.0 v rest m f h) ∙ passes a p.0 v rest k m f h
passes (either a b) p (inr v) rest k m f h =
    right_leads a b k m (put b v rest) p.3 p.4 (put_accepts b p.1 v rest m f h) ∙ passes b p.1 v rest k m f h
passes (many low high a b) p v rest k m f h =
    many_passes a b p.0 p.1 p.2 p.3 p.4 (passes a p.0) (passes b p.1) v.0 low high v.1 rest k m f.0 f.1 f.2 f.3 h

-- the machine passes over items that are accepted with more behind them
pub at_items : (start : List Syntax) (bytes : List ℕ) → ArePlain start → (front w rest : List Item) (k : List Syntax) (after : List ℕ) → At start bytes front k (spell w ++ after) → Accepts (w ++ rest) k → ((before : List Item) (v : FieldValue) → w ≡ before ++ value v ∷ [] → BeginsMarkup after) → At start bytes (front ++ w) (leads w k) after
at_items start bytes plain front [] rest k after at h last =
    let P : List Item → Type 0 = λ f. At start bytes f k after in subst P (sym (append-nil front)) at
at_items start bytes plain front (i ∷ w) rest [] after at h last = absurd h
at_items start bytes plain front (i ∷ w) rest (s ∷ k) after at h last =
    let P : List ℕ → Type 0 = At start bytes front (s ∷ k) in
    let here = subst P (append_assoc (item_text i) (spell w) after) at in
    let comes = comes_first s k i w rest (item_text i ++ (spell w ++ after)) after at.plain.0 at.plain.1 h refl
    (λ v is none. last [] v (ap (λ j. j ∷ w) is ∙ ap (λ l. value v ∷ l) none)) in
    let next = at_step start bytes front s k (item_text i ++ (spell w ++ after)) i (spell w ++ after) plain here comes in
    let Q : List Item → Type 0 = λ f. At start bytes f (leads w (step i s k)) after in
    subst Q (front_more front i w) (at_items start bytes plain (front ++ i ∷ []) w rest (step i s k) after next (stepped s k i w rest h) (λ before v e. last (i ∷ before) v (ap (λ l. i ∷ l) e)))
  where
    stepped : (s : Syntax) (k : List Syntax) (i : Item) (w rest : List Item) → Accepts (i ∷ (w ++ rest)) (s ∷ k) → Accepts (w ++ rest) (step i s k)
    stepped s k (tag n) w rest h = h.1
    stepped s k (value v) w rest h = h.1.1

-- the last of the items is a text
abbrev Closed : List Item → Type 0
Closed w = (before : List Item) (v : FieldValue) → w ≡ before ++ value v ∷ [] → ⊥

none_closed : Closed []
none_closed [] v e = cc
none_closed (b ∷ before) v e = cc

tag_closed : (n : ℕ) (w : List Item) → Closed w → Closed (tag n ∷ w)
tag_closed n w c [] v e = cc
tag_closed n w c (b ∷ before) v e = c before v (let rest : w ≡ before ++ value v ∷ [] = cc in rest)

cons_closed : (i : Item) (w : List Item) → Closed w → w ≢ [] → Closed (i ∷ w)
cons_closed i w c some [] v e = some (let rest : w ≡ [] = cc in rest)
cons_closed i w c some (b ∷ before) v e = c before v (let rest : w ≡ before ++ value v ∷ [] = cc in rest)

each_closed : {A : Type 0} (f : A → List Item → List Item) → ((x : A) (rest : List Item) → Closed rest → Closed (f x rest)) → (xs : List A) (rest : List Item) → Closed rest → Closed (put_each f xs rest)
each_closed f step [] rest c = c
each_closed f step (x ∷ xs) rest c = step x (put_each f xs rest) (each_closed f step xs rest c)

put_closed : (s : Syntax) (v : Says s) (rest : List Item) → Closed rest → Closed (put s v rest)
put_closed (text n) v rest c = tag_closed n rest c
put_closed (field kind close) v rest c = cons_closed (value (value_of kind v)) (tag close ∷ rest) (tag_closed close rest c) (λ e. cc)
put_closed (both a b) v rest c = put_closed a v.0 (put b v.1 rest) (put_closed b v.1 rest c)
put_closed (either a b) (inl v) rest c = put_closed a v rest c
put_closed (either a b) (inr v) rest c = put_closed b v rest c
put_closed (many low high a b) v rest c = each_closed (put a) (put_closed a) v.0 (put b v.1 rest) (put_closed b v.1 rest c)

-- what is said, and then the rest
abbrev Appends : Syntax → Type 0
Appends s = (v : Says s) (rest : List Item) → put s v rest ≡ put s v [] ++ rest

each_append : {A : Type 0} (f : A → List Item → List Item) → ((x : A) (rest : List Item) → f x rest ≡ f x [] ++ rest) → (xs : List A) (r rest : List Item) → put_each f xs (r ++ rest) ≡ put_each f xs r ++ rest
each_append f h [] r rest = refl
each_append f h (x ∷ xs) r rest =
    h x (put_each f xs (r ++ rest)) ∙ (ap (λ l. f x [] ++ l) (each_append f h xs r rest)
    ∙ (sym (append_assoc (f x []) (put_each f xs r) rest) ∙ ap (λ l. l ++ rest) (sym (h x (put_each f xs r)))))

put_append : (s : Syntax) → Appends s
put_append (text n) v rest = refl
put_append (field kind close) v rest = refl
put_append (both a b) v rest =
    put_append a v.0 (put b v.1 rest) ∙ (ap (λ l. put a v.0 [] ++ l) (put_append b v.1 rest)
    ∙ (sym (append_assoc (put a v.0 []) (put b v.1 []) rest) ∙ ap (λ l. l ++ rest) (sym (put_append a v.0 (put b v.1 [])))))
put_append (either a b) (inl v) rest = put_append a v rest
put_append (either a b) (inr v) rest = put_append b v rest
put_append (many low high a b) v rest =
    ap (put_each (put a) v.0) (put_append b v.1 rest) ∙ each_append (put a) (put_append a) v.0 (put b v.1 []) rest

-- one more part of a list is passed
pub at_part : PartPassed
at_part start bytes plain front low high a b k v after at room fits =
    let u = some_items (many (low - 1) (high - 1) a b ∷ k) ((at.plain.0.0, at.plain.0.1, at.plain.0.2, at.plain.0.3, at.plain.0.4, omega (arith, at.plain.0.5)), at.plain.1) in
    let accepted : Accepts (put a v u.0) (many low high a b ∷ k) =
    more_accepts low high a b (put a v u.0) k room at.plain.0.2 at.plain.0.4 (put_accepts a at.plain.0.0 v u.0 (many (low - 1) (high - 1) a b ∷ k) fits u.1) in
    let P : List Item → Type 0 = λ l. Accepts l (many low high a b ∷ k) in
    let moved = at_items start bytes plain front (put a v []) u.0 (many low high a b ∷ k) after at (subst P (put_append a v u.0) accepted) (λ before w e. absurd (put_closed a v [] none_closed before w e)) in
    let Q : List Syntax → Type 0 = λ s. At start bytes (front ++ put a v []) s after in
    subst Q (more_leads low high a b k [] (put a v []) at.plain.0.2 at.plain.0.4 (put_accepts a at.plain.0.0 v [] [] fits tt) ∙ passes a at.plain.0.0 v [] (many (low - 1) (high - 1) a b ∷ k) [] fits tt) moved
