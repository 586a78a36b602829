-- What is known at the start, and after each item.
use Rattle.std.proofs.Common.{◌≡◌, refl, ℕ, ◌+◌, ◌≤◌, List, [], ◌∷◌, ◌++◌, length, ◌⊎◌, inl, inr, sym, ◌∙◌, ap, subst, arith, append_assoc, length-append}
use Rattle.std.proofs.lemmas.List.{append-nil}
use Rattle.ojp_grammar.specs.Items.{Item, tag, value, item_text, spell}
use Rattle.ojp_grammar.specs.Syntax.{Syntax}
use Rattle.ojp_grammar.specs.Places.{EndsWhole}
use Rattle.ojp_grammar.specs.Steps.{step, Accepts, Comes, ArePlain}
use Rattle.ojp_grammar.specs.Reached.{At, GoesOn, IsNoFurther}
use Rattle.ojp_grammar.proofs.Spelled.{same_item}
use Rattle.ojp_grammar.proofs.Behind.{nil_not_more, same_last, spell-snoc, front_more, comes_more, accepts_step, step_accepts, step_plain, Next, next_in, never_ends}

-- nothing is read yet
pub at_start : (start : List Syntax) (bytes : List ℕ) → ArePlain start → At start bytes [] start bytes
at_start start bytes plain = record {
  plain = plain;
  to = λ w h. h;
  from = λ w h. h;
  parts = refl;
  whole = λ before v e. absurd (nil_not_more before (value v) [] e);
  documents = λ more after w h e. (w, refl);
  fronts = λ more other rest behind h e whole. inr (other, refl);
}

ends_whole : (s : Syntax) (front : List Item) (i : Item) (bytes behind : List ℕ) → Comes s i bytes behind → EndsWhole (front ++ i ∷ []) behind
ends_whole s front (tag n) bytes behind c before v e = absurd (let same : tag n ≡ value v = same_last front before (tag n) (value v) e in cc)
ends_whole s front (value u) bytes behind c before v e = c.3

longer : (front : List Item) (i : Item) (n : ℕ) → n ≤ length (spell front) → n ≤ length (spell (front ++ i ∷ []))
longer front i n h =
    let e : length (spell (front ++ i ∷ [])) ≡ length (spell front) + length (item_text i) =
    ap length (spell-snoc front i) ∙ length-append (spell front) (item_text i) in
    omega (arith, h, e)

-- what goes on behind the front goes on behind the item that came
goes_on : (s : Syntax) (front other : List Item) (i : Item) (bytes after behind : List ℕ) → ArePlain (s ∷ []) → Comes s i bytes behind → Next s front other bytes after → GoesOn (front ++ i ∷ []) other
goes_on s front other i bytes after behind plain comes next =
    let same = same_item s bytes next.item i (spell next.rest ++ after) behind plain.0 next.comes comes in
    (next.rest, next.parts ∙ (ap (λ j. front ++ j ∷ next.rest) same.item ∙ sym (front_more front i next.rest)))

not_ended : (start : List Syntax) (bytes : List ℕ) (front : List Item) (s : Syntax) (k : List Syntax) (tail : List ℕ) → At start bytes front (s ∷ k) tail → (w : List Item) → Accepts w start → w ≡ front ++ [] → ⊥
not_ended start bytes front s k tail at w h e =
    let P : List Item → Type 0 = λ l. Accepts l start in
    let ended : Accepts [] (s ∷ k) = at.from [] (subst P e h) in absurd ended

-- a document has an item next
pub document_next : (start : List Syntax) (bytes : List ℕ) (front : List Item) (s : Syntax) (k : List Syntax) (tail : List ℕ) → ArePlain start → At start bytes front (s ∷ k) tail → (more after : List ℕ) (w : List Item) → Accepts w start → bytes ++ more ≡ spell w ++ after → Next s front w (tail ++ more) after
document_next start bytes front s k tail plain at more after w h e =
    let on = at.documents more after w h e in
    let P : List Item → Type 0 = λ l. Accepts l start in
    let h' : Accepts (w ++ []) start = subst P (sym (append-nil w)) h in
    elim (next_in start bytes front s k tail at more after w on.0 [] on.1 h' e (λ before v is. absurd (never_ends w start plain h before v is))) [
      | inl none ↦ absurd (not_ended start bytes front s k tail at w h (on.1 ∙ ap (λ l. front ++ l) none))
      | inr next ↦ next
    ]

-- a front is no longer, or has an item next
pub front_next : (start : List Syntax) (bytes : List ℕ) (front : List Item) (s : Syntax) (k : List Syntax) (tail : List ℕ) → At start bytes front (s ∷ k) tail → (more : List ℕ) (other rest : List Item) (behind : List ℕ) → Accepts (other ++ rest) start → bytes ++ more ≡ spell other ++ behind → EndsWhole other behind → (length (spell other) ≤ length (spell front)) ⊎ Next s front other (tail ++ more) behind
front_next start bytes front s k tail at more other rest behind h e whole =
    elim (at.fronts more other rest behind h e whole) [
      | inl shorter ↦ inl shorter
      | inr on ↦ elim (next_in start bytes front s k tail at more behind other on.0 rest on.1 h e whole) [
        | inl none ↦ inl (let same : length (spell other) ≡ length (spell front) =
            ap (λ l. length (spell l)) (on.1 ∙ (ap (λ l. front ++ l) none ∙ append-nil front)) in omega (arith, same))
        | inr next ↦ inr next
      ]
    ]

-- one more item
pub at_step : (start : List Syntax) (bytes : List ℕ) (front : List Item) (s : Syntax) (k : List Syntax) (tail : List ℕ) (i : Item) (behind : List ℕ) → ArePlain start → At start bytes front (s ∷ k) tail → Comes s i tail behind → At start bytes (front ++ i ∷ []) (step i s k) behind
at_step start bytes front s k tail i behind plain at comes =
    let P : List Item → Type 0 = λ l. Accepts l start in
    record {
      plain = step_plain s k i tail behind at.plain.0 at.plain.1 comes;
      to = λ w h. subst P (sym (front_more front i w)) (at.to (i ∷ w) (accepts_step s k i tail behind w comes h));
      from = λ w h. step_accepts s k i w (at.from (i ∷ w) (subst P (front_more front i w) h));
      parts = at.parts ∙ (ap (λ t. spell front ++ t) (tail_is s i tail behind comes)
          ∙ (sym (append_assoc (spell front) (item_text i) behind) ∙ ap (λ t. t ++ behind) (sym (spell-snoc front i))));
      whole = ends_whole s front i tail behind comes;
      documents = λ more after w h e.
          goes_on s front w i (tail ++ more) after (behind ++ more) (at.plain.0, tt) (comes_more s i tail behind more comes)
          (document_next start bytes front s k tail plain at more after w h e);
      fronts = λ more other rest after h e whole.
          further s front other i (tail ++ more) after (behind ++ more) (at.plain.0, tt) (comes_more s i tail behind more comes)
          (front_next start bytes front s k tail at more other rest after h e whole);
    }
  where
    tail_is : (s : Syntax) (i : Item) (tail behind : List ℕ) → Comes s i tail behind → tail ≡ item_text i ++ behind
    tail_is s (tag n) tail behind c = c.1
    tail_is s (value v) tail behind c = c.2

    further : (s : Syntax) (front other : List Item) (i : Item) (bytes after behind : List ℕ) → ArePlain (s ∷ []) → Comes s i bytes behind → (length (spell other) ≤ length (spell front)) ⊎ Next s front other bytes after → IsNoFurther (front ++ i ∷ []) other
    further s front other i bytes after behind plain comes (inl shorter) = inl (longer front i (length (spell other)) shorter)
    further s front other i bytes after behind plain comes (inr next) = inr (goes_on s front other i bytes after behind plain comes next)
