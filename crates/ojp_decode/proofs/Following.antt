-- What stands at a place stands there whatever follows the bytes.
use Rattle.std.proofs.Common.{◌≡◌, ◌≢◌, refl, ℕ, zero, suc, ◌+◌, ◌<◌, ◌≤◌, List, [], ◌∷◌, ◌++◌, length, ◌⊎◌, inl, inr, sym, ◌∙◌, ap, subst, arith, append_assoc, length-append}
use Rattle.std.proofs.lemmas.List.{append-nil}
use Rattle.std.proofs.lemmas.List.Elements.{All-from_recursion, recursion_from_All}
use Rattle.ojp_values.specs.declared.kinds.Kind.{Kind}
use Rattle.ojp_grammar.specs.declared.fields.FieldValue.{FieldValue}
use Rattle.ojp_grammar.specs.declared.refusals.Reason.{Reason}
use Rattle.ojp_grammar.specs.declared.refusals.Reason.TheVariants as reasons
use Rattle.ojp_grammar.specs.declared.refusals.Want.{Want}
use Rattle.ojp_grammar.specs.Fields.{kind_of, IsFieldValue, field_text}
use Rattle.ojp_grammar.specs.Items.{Item, tag, value, item_text, text, spell}
use Rattle.ojp_grammar.specs.Syntax.{Syntax}
use Rattle.ojp_grammar.specs.Places.{BeginsMarkup, IsProperPrefix, IsOpenRun, Run}
use Rattle.ojp_grammar.specs.Steps.{Comes, Sticks, IsPlain}
use Rattle.ojp_grammar.specs.Reached.{At, start_of}
use Rattle.ojp_grammar.specs.Machine.{HasNoField, StopsFor}
use Rattle.ojp_grammar.specs.Running.{IsReading}
use Rattle.ojp_grammar.specs.Folding.{Waiting}
use Rattle.ojp_grammar.proofs.FieldLaws.{bare}
use Rattle.ojp_grammar.proofs.Behind.{spell-append}
use Rattle.ojp_grammar.proofs.Lengths.{text_short}
use Rattle.ojp_grammar.proofs.Plain.{begins_small, some_items}
use Rattle.ojp_grammar.proofs.Progress.{front_next}
use Rattle.ojp_grammar.proofs.Spelled.{opens_more, sticks_alone}

-- ---- texts

pub nothing_left : (a b : List ℕ) → a ++ b ≡ [] → a ≡ []
nothing_left [] b e = refl
nothing_left (x ∷ a) b e = absurd cc

nothing_right : (a b : List ℕ) → a ++ b ≡ [] → b ≡ []
nothing_right [] b e = e
nothing_right (x ∷ a) b e = absurd cc

-- what goes on behind a text, in front of what follows
record GoesOn (a b x y : List ℕ) : Type 0 where
  pub more : List ℕ
  pub parts : a ≡ b ++ more
  pub left : y ≡ more ++ x

-- of two texts in front of the same bytes one goes on behind the other
one_goes_on : (a b x y : List ℕ) → a ++ x ≡ b ++ y → GoesOn a b x y ⊎ IsProperPrefix a b
one_goes_on a [] x y e = inl (record { more = a; parts = refl; left = sym e })
one_goes_on [] (d ∷ b) x y e = inr (d ∷ b, refl, λ none. cc)
one_goes_on (c ∷ a) (d ∷ b) x y e =
    let head : c ≡ d = cc in
    let rest : a ++ x ≡ b ++ y = cc in
    elim (one_goes_on a b x y rest) [
      | inl on ↦ inl (record { more = on.more; parts = ap (λ h. h ∷ a) head ∙ ap (λ l. d ∷ l) on.parts; left = on.left })
      | inr cut ↦ inr (cut.0, ap (λ h. h ∷ b) (sym head) ∙ ap (λ l. c ∷ l) cut.1, cut.2)
    ]

-- a text that is cut short behind more bytes is cut short before them
cut_before : (tail more t : List ℕ) → IsProperPrefix (tail ++ more) t → IsProperPrefix tail t
cut_before tail more t cut =
    (more ++ cut.0, cut.1 ∙ append_assoc tail more cut.0, λ none. cut.2 (nothing_right more cut.0 none))

-- ---- fields

run_before : (a b : List ℕ) → Run (a ++ b) → Run a
run_before [] b r = tt
run_before (x ∷ a) b r = (r.0, run_before a b r.1)

-- a field that may go on behind more bytes may go on before them
open_before : (tail more : List ℕ) → IsOpenRun (tail ++ more) → IsOpenRun tail
open_before tail more run =
    let all = run_before tail more (recursion_from_All (λ b. b ≢ 60) (tail ++ more) run.0) in
    (All-from_recursion (λ b. b ≢ 60) tail all, omega (arith, length-append tail more, run.1))

field_open : (v : FieldValue) → IsFieldValue v → IsOpenRun (field_text v)
field_open v is = (All-from_recursion (λ b. b ≢ 60) (field_text v) (bare v is).run, (bare v is).short)

behind_field : (kind : Kind) (v : FieldValue) (tail left more behind : List ℕ) → (IsOpenRun tail → ⊥) → HasNoField kind tail → kind_of v ≡ kind → IsFieldValue v → tail ≡ field_text v ++ left → behind ≡ left ++ more → BeginsMarkup behind → ⊥
behind_field kind v tail [] more behind closed none same is parts e markup =
    let P : List ℕ → Type 0 = IsOpenRun in
    closed (subst P (sym (parts ∙ append-nil (field_text v))) (field_open v is))
behind_field kind v tail (b ∷ left) more behind closed none same is parts e markup =
    let joined : b ∷ (left ++ more) ≡ 60 ∷ markup.0 = sym e ∙ markup.1 in
    let first : b ≡ 60 = cc in
    none v (b ∷ left) same is parts (left, ap (λ c. c ∷ left) first)

-- where no field of the kind stands and none may go on, none stands whatever follows
no_field_more : (kind : Kind) (tail more : List ℕ) → (IsOpenRun tail → ⊥) → HasNoField kind tail → HasNoField kind (tail ++ more)
no_field_more kind tail more closed none v behind same is parts markup =
    elim (one_goes_on tail (field_text v) more behind parts) [
      | inl on ↦ behind_field kind v tail on.more more behind closed none same is on.parts on.left markup
      | inr cut ↦ closed (open_before tail cut.0 (let P : List ℕ → Type 0 = IsOpenRun in subst P cut.1 (field_open v is)))
    ]

-- ---- the machine's place

-- where no item comes, and none may come with more bytes, none comes whatever follows
pub sticks_more : (s : Syntax) (tail more : List ℕ) (reason : Reason) → Sticks s tail reason → reason ≢ reasons.Truncated → Sticks s (tail ++ more) reason
sticks_more s tail more reasons.Trailing h other = absurd h
sticks_more s tail more reasons.Markup h other = (
  h.0,
  (λ n first behind e. elim (one_goes_on tail (text n) more behind e) [
    | inl on ↦ h.1 n first on.more on.parts
    | inr cut ↦ h.2 n first cut
  ]),
  λ n first cut. h.2 n first (cut_before tail more (text n) cut),
)
sticks_more s tail more (reasons.Field kind) h other =
    (h.0, (λ run. h.1 (open_before tail more run)), no_field_more kind tail more h.1 h.2)
sticks_more s tail more reasons.Truncated h other = absurd (other refl)

at_more : (start : List Syntax) (bytes : List ℕ) (front : List Item) (k : List Syntax) (tail more : List ℕ) → At start bytes front k tail → At start (bytes ++ more) front k (tail ++ more)
at_more start bytes front k tail more at = record {
  plain = at.plain;
  to = at.to;
  from = at.from;
  parts = ap (λ b. b ++ more) at.parts ∙ append_assoc (spell front) tail more;
  whole = λ before v e. opens_more tail more (at.whole before v e);
  documents = λ next after w h e. at.documents (more ++ next) after w h (sym (append_assoc bytes more next) ∙ e);
  fronts = λ next other rest behind h e whole. at.fronts (more ++ next) other rest behind h (sym (append_assoc bytes more next) ∙ e) whole;
}

-- what was read is read whatever follows
pub reading_more : (want : Want) (at : ℕ) (k : List Syntax) (waiting : Waiting) (bytes tail more : List ℕ) → IsReading want at k waiting bytes tail → IsReading want at k waiting (bytes ++ more) (tail ++ more)
reading_more want at k waiting bytes tail more r = record {
  front = r.front;
  reached = at_more (start_of want) bytes r.front k tail more r.reached;
  shallow = r.shallow;
  place = r.place;
  folded = r.folded;
}

-- ---- an item that was cut

-- an item that comes where it was cut is at least as long as what was there
cut_long : (s : Syntax) (i : Item) (kept more behind : List ℕ) → IsPlain s → Sticks s kept reasons.Truncated → Comes s i (kept ++ more) behind → length kept ≤ length (item_text i)
cut_long s i kept more behind plain cut comes = elim (one_goes_on kept (item_text i) more behind (parts_of i comes)) [
  | inr short ↦ omega (arith, length-append kept short.0, ap length short.1)
  | inl on ↦ whole i on.more comes on.parts on.left
]
  where
    parts_of : (i : Item) → Comes s i (kept ++ more) behind → kept ++ more ≡ item_text i ++ behind
    parts_of (tag n) c = c.1
    parts_of (value v) c = c.2

    whole : (i : Item) (left : List ℕ) → Comes s i (kept ++ more) behind → kept ≡ item_text i ++ left → behind ≡ left ++ more → length kept ≤ length (item_text i)
    whole i [] c e b = omega (arith, ap length e, length-append (item_text i) [])
    whole (tag n) (x ∷ left) c e b =
        absurd (sticks_alone s kept reasons.Truncated (tag n) (x ∷ left) plain cut (c.0, e))
    whole (value v) (x ∷ left) c e b =
        let joined : x ∷ (left ++ more) ≡ 60 ∷ c.3.0 = sym b ∙ c.3.1 in
        let first : x ≡ 60 = cc in
        absurd (sticks_alone s kept reasons.Truncated (value v) (x ∷ left) plain cut (c.0, c.1, e, (left, ap (λ y. y ∷ left) first)))

-- behind an item that was cut stands all that was there of it
cut_passed : (want : Want) (bytes kept more tail : List ℕ) (s : Syntax) (k other : List Syntax) (front on : List Item) → At (start_of want) bytes front (s ∷ k) (kept ++ more) → Sticks s kept reasons.Truncated → At (start_of want) bytes on other tail → length (spell front) < length (spell on) → length (spell front) + length kept ≤ length (spell on)
cut_passed want bytes kept more tail s k other front on at cut next further =
    let w = some_items other next.plain in
    elim (front_next (start_of want) bytes front s k (kept ++ more) at [] on w.0 tail (next.to w.0 w.1) (append-nil bytes ∙ next.parts) next.whole) [
      | inl shorter ↦ omega (arith, shorter, further)
      | inr n ↦
          let P : List ℕ → Type 0 = λ b. Comes s n.item b (spell n.rest ++ tail) in
          let comes = subst P (append-nil (kept ++ more)) n.comes in
          let long = cut_long s n.item kept more (spell n.rest ++ tail) at.plain.0 cut comes in
          let size : length (spell on) ≡ length (spell front) + length (spell (n.item ∷ n.rest)) =
          ap (λ w. length (spell w)) n.parts ∙ (ap length (spell-append front (n.item ∷ n.rest)) ∙ length-append (spell front) (spell (n.item ∷ n.rest))) in
          omega (arith, long, size, length-append (item_text n.item) (spell n.rest))
    ]

-- a run from an item that was cut passes all that was there of it, or nothing
pub passes_cut : (want : Want) (at took : ℕ) (k other : List Syntax) (waiting after : Waiting) (bytes kept more tail : List ℕ) → IsReading want at k waiting bytes (kept ++ more) → StopsFor k kept reasons.Truncated → IsReading want (at + took) other after bytes tail → took < length kept → took ≡ 0
passes_cut want at took [] other waiting after bytes kept more tail r cut on short = absurd cut
passes_cut want at zero (s ∷ k) other waiting after bytes kept more tail r cut on short = refl
passes_cut want at (suc took) (s ∷ k) other waiting after bytes kept more tail r cut on short =
    absurd (let passed = cut_passed want bytes kept more tail s k other r.front on.front r.reached cut on.reached (omega (arith, r.place, on.place)) in omega (arith, passed, r.place, on.place, short))

-- what is cut short has at most 512 bytes
pub cut_short : (want : Want) (at : ℕ) (k : List Syntax) (waiting : Waiting) (bytes tail : List ℕ) → IsReading want at k waiting bytes tail → StopsFor k tail reasons.Truncated → length tail ≤ 512
cut_short want at [] waiting bytes tail r stops = absurd stops
cut_short want at (s ∷ k) waiting bytes tail r (inl cut) =
    let short = text_short cut.0 (begins_small s cut.0 r.reached.plain.0 cut.1) in
    omega (arith, short, ap length cut.2.1, length-append tail cut.2.0)
cut_short want at (s ∷ k) waiting bytes tail r (inr run) = run.2.1
