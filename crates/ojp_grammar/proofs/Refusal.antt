-- Where the machine stops, a document is whole or the bytes are refused.
use Rattle.std.proofs.Common.{◌≡◌, ◌≢◌, refl, ℕ, true, List, [], ◌∷◌, ◌++◌, length, Some, inl, inr, sym, ◌∙◌, ap, subst, arith, append_assoc}
use Rattle.std.proofs.lemmas.List.{append-nil, append_cancel_left}
use Rattle.ojp_values.specs.declared.kinds.Kind.{Kind}
use Rattle.ojp_values.specs.declared.documents.Doc.{Doc}
use Rattle.ojp_grammar.specs.declared.fields.FieldValue.{FieldValue}
use Rattle.ojp_grammar.specs.declared.refusals.Want.{Want}
use Rattle.ojp_grammar.specs.declared.refusals.Reason.{Reason}
use Rattle.ojp_grammar.specs.declared.refusals.Reason.TheVariants as reasons
use Rattle.ojp_grammar.specs.Items.{Item, tag, value, spell}
use Rattle.ojp_grammar.specs.Syntax.{Syntax, value_of}
use Rattle.ojp_grammar.specs.Documents.{items, IsWanted, Spells}
use Rattle.ojp_grammar.specs.Places.{Stands, Begins, Expects, ExpectsField, StandsFor, IsDocumentRefused}
use Rattle.ojp_grammar.specs.Steps.{begins, enter, wants, leave, Accepts, Comes, Sticks, IsPlain, ArePlain}
use Rattle.ojp_grammar.specs.Reached.{At}
use Rattle.ojp_grammar.proofs.Words.{kind_of-value_of}
use Rattle.ojp_grammar.proofs.Plain.{enter_plain, leave_plain, first_text, some_value, some_items}
use Rattle.ojp_grammar.proofs.Spelled.{sticks_alone}
use Rattle.ojp_grammar.proofs.Behind.{Next}
use Rattle.ojp_grammar.proofs.Progress.{document_next, front_next}

-- a wanted document with these items
pub record WantedAs (want : Want) (w : List Item) : Type 0 where
  pub doc : Doc
  pub wanted : IsWanted want doc
  pub parts : items doc ≡ w

-- the wanted documents are what the open shapes accept
pub record Means (want : Want) (start : List Syntax) : Type 0 where
  pub plain : ArePlain start
  pub accepts : (doc : Doc) → IsWanted want doc → Accepts (items doc) start
  pub accepted : (w : List Item) → Accepts w start → WantedAs want w

stands : (want : Want) (start : List Syntax) (front rest : List Item) → Means want start → Accepts (front ++ rest) start → Stands want front rest
stands want start front rest means h =
    let d = means.accepted (front ++ rest) h in record { doc = d.doc; wanted = d.wanted; parts = d.parts }

pub accepted_of : (want : Want) (start : List Syntax) (front rest : List Item) → Means want start → Stands want front rest → Accepts (front ++ rest) start
accepted_of want start front rest means s =
    let P : List Item → Type 0 = λ w. Accepts w start in subst P s.parts (means.accepts s.doc s.wanted)

-- ---- what is expected behind the front

expects_tag : (want : Want) (start : List Syntax) (bytes : List ℕ) (front : List Item) (s : Syntax) (k : List Syntax) (tail : List ℕ) (n : ℕ) → Means want start → At start bytes front (s ∷ k) tail → begins n s ≡ true → Expects want front (tag n)
expects_tag want start bytes front s k tail n means at h =
    let w = some_items (enter n s k) (enter_plain s n k at.plain.0 at.plain.1) in
    (w.0, stands want start front (tag n ∷ w.0) means (at.to (tag n ∷ w.0) (h, w.1)))

expects_field : (want : Want) (start : List Syntax) (bytes : List ℕ) (front : List Item) (s : Syntax) (k : List Syntax) (tail : List ℕ) (kind : Kind) → Means want start → At start bytes front (s ∷ k) tail → wants s ≡ Some kind → ExpectsField want front kind
expects_field want start bytes front s k tail kind means at h =
    let w = some_items (leave s k) (leave_plain s kind k at.plain.0 at.plain.1 h) in
    let x = some_value kind in
    let v : FieldValue = value_of kind x.0 in (
      v,
      kind_of-value_of kind x.0,
      (
        w.0,
        stands want start front (value v ∷ w.0) means
            (at.to (value v ∷ w.0) (h ∙ ap Some (sym (kind_of-value_of kind x.0)), (x.1, w.1))),
      ),
    )

begins_of : (want : Want) (start : List Syntax) (bytes : List ℕ) (front : List Item) (s : Syntax) (k : List Syntax) (tail : List ℕ) (n : ℕ) → Means want start → At start bytes front (s ∷ k) tail → Expects want front (tag n) → begins n s ≡ true
begins_of want start bytes front s k tail n means at e =
    let h : Accepts (tag n ∷ e.0) (s ∷ k) = at.from (tag n ∷ e.0) (accepted_of want start front (tag n ∷ e.0) means e.1) in h.0

stands_for : (want : Want) (start : List Syntax) (bytes : List ℕ) (front : List Item) (s : Syntax) (k : List Syntax) (tail : List ℕ) (reason : Reason) → Means want start → At start bytes front (s ∷ k) tail → Sticks s tail reason → StandsFor want front tail reason
stands_for want start bytes front s k tail reasons.Trailing means at h = absurd h
stands_for want start bytes front s k tail reasons.Markup means at h =
    let first = first_text s at.plain.0 h.0 in (
      (first.0, expects_tag want start bytes front s k tail first.0 means at first.1),
      λ n e cut. h.2 n (begins_of want start bytes front s k tail n means at e) cut,
    )
stands_for want start bytes front s k tail (reasons.Field kind) means at h =
    (expects_field want start bytes front s k tail kind means at h.0, h.1)
stands_for want start bytes front s k tail reasons.Truncated means at (inl h) =
    inl (h.0, expects_tag want start bytes front s k tail h.0 means at h.1, h.2)
stands_for want start bytes front s k tail reasons.Truncated means at (inr h) =
    inr (h.0, expects_field want start bytes front s k tail h.0 means at h.1, h.2)

-- ---- refusals

begins_at : (want : Want) (start : List Syntax) (bytes : List ℕ) (front : List Item) (k : List Syntax) (tail : List ℕ) → Means want start → At start bytes front k tail → Begins want bytes front tail
begins_at want start bytes front k tail means at =
    let w = some_items k at.plain in
    record { rest = w.0; stands = stands want start front w.0 means (at.to w.0 w.1); parts = at.parts; whole = at.whole }

alone : (s : Syntax) (front other : List Item) (tail after : List ℕ) (reason : Reason) → IsPlain s → Sticks s tail reason → Next s front other (tail ++ []) after → ⊥
alone s front other tail after reason plain h next =
    let P : List ℕ → Type 0 = λ bytes. Comes s next.item bytes (spell next.rest ++ after) in
    sticks_alone s tail reason next.item (spell next.rest ++ after) plain h (subst P (append-nil tail) next.comes)

same_whole : (bytes : List ℕ) (doc : Doc) → Spells doc bytes → bytes ++ [] ≡ spell (items doc) ++ []
same_whole bytes doc spelled = ap (λ b. b ++ []) spelled

-- where no item comes next, no document is in front of the bytes either
pub no_front : (want : Want) (start : List Syntax) (bytes : List ℕ) (front : List Item) (s : Syntax) (k : List Syntax) (tail : List ℕ) (reason : Reason) → Means want start → At start bytes front (s ∷ k) tail → Sticks s tail reason → (doc : Doc) (after : List ℕ) → IsWanted want doc → bytes ≡ spell (items doc) ++ after → ⊥
no_front want start bytes front s k tail reason means at h doc after wanted e =
    alone s front (items doc) tail after reason at.plain.0 h
    (document_next start bytes front s k tail means.plain at [] after (items doc) (means.accepts doc wanted) (append-nil bytes ∙ e))

-- where no item comes next, the bytes are refused
pub at_refused : (want : Want) (start : List Syntax) (bytes : List ℕ) (front : List Item) (s : Syntax) (k : List Syntax) (tail : List ℕ) (reason : Reason) → Means want start → At start bytes front (s ∷ k) tail → Sticks s tail reason → IsDocumentRefused want bytes (length (spell front)) reason
at_refused want start bytes front s k tail reason means at h = record {
  none = λ doc wanted spelled.
      alone s front (items doc) tail [] reason at.plain.0 h
      (document_next start bytes front s k tail means.plain at [] [] (items doc) (means.accepts doc wanted) (same_whole bytes doc spelled));
  front = front;
  tail = tail;
  begins = begins_at want start bytes front (s ∷ k) tail means at;
  place = refl;
  longest = λ other after b.
      elim (front_next start bytes front s k tail at [] other b.rest after (accepted_of want start other b.rest means b.stands) (append-nil bytes ∙ b.parts) b.whole) [
        | inl shorter ↦ shorter
        | inr next ↦ absurd (alone s front other tail after reason at.plain.0 h next)
      ];
  stands_for = stands_for want start bytes front s k tail reason means at h;
}

none_open : (w : List Item) → Accepts w [] → w ≡ []
none_open [] h = refl
none_open (i ∷ w) h = absurd h

none_left : (a b : List Item) → Accepts (a ++ b) [] → a ≡ []
none_left [] b h = refl
none_left (i ∷ a) b h = absurd h

-- behind a whole document no more bytes may come
pub at_trailing : (want : Want) (start : List Syntax) (bytes : List ℕ) (front : List Item) (tail : List ℕ) → Means want start → At start bytes front [] tail → tail ≢ [] → IsDocumentRefused want bytes (length (spell front)) reasons.Trailing
at_trailing want start bytes front tail means at some = record {
  none = λ doc wanted spelled.
      let h = means.accepts doc wanted in
      let on = at.documents [] [] (items doc) h (same_whole bytes doc spelled) in
      let P : List Item → Type 0 = λ w. Accepts w start in
      let ended : on.0 ≡ [] = none_open on.0 (at.from on.0 (subst P on.1 h)) in
      let same : items doc ≡ front = on.1 ∙ (ap (λ l. front ++ l) ended ∙ append-nil front) in
      some (append_cancel_left (spell front) tail [] (sym at.parts ∙ (spelled ∙ (ap spell same ∙ sym (append-nil (spell front))))));
  front = front;
  tail = tail;
  begins = begins_at want start bytes front [] tail means at;
  place = refl;
  longest = λ other after b.
      let h = accepted_of want start other b.rest means b.stands in
      elim (at.fronts [] other b.rest after h (append-nil bytes ∙ b.parts) b.whole) [
        | inl shorter ↦ shorter
        | inr on ↦
            let P : List Item → Type 0 = λ w. Accepts w start in
            let open_items : Accepts (on.0 ++ b.rest) [] = at.from (on.0 ++ b.rest) (subst P (ap (λ o. o ++ b.rest) on.1 ∙ append_assoc front on.0 b.rest) h) in
            let same : length (spell other) ≡ length (spell front) =
            ap (λ l. length (spell l)) (on.1 ∙ (ap (λ l. front ++ l) (none_left on.0 b.rest open_items) ∙ append-nil front)) in
            omega (arith, same)
      ];
  stands_for = (stands want start front [] means (at.to [] tt), some);
}
