-- The machine from step to step.
use Rattle.std.proofs.Common.{◌≡◌, refl, ℕ, ◌+◌, ◌-◌, ◌<◌, ◌≤◌, ◌^◌, List, [], ◌∷◌, ◌++◌, length, take, drop, Option, Some, inl, inr, sym, ◌∙◌, ap, subst, arith, length-append, length-drop}
use Rattle.std.specs.Prelude.{map}
use Rattle.std.proofs.Math.Seq.{drop-append_seam}
use Rattle.std.proofs.lemmas.List.{reverse-append, drop-drop, take_all}
use Rattle.ojp_grammar.specs.declared.fields.FieldValue.{FieldValue}
use Rattle.ojp_grammar.specs.declared.shapes.Shape.{Shape}
use Rattle.ojp_grammar.specs.declared.refusals.Want.{Want}
use Rattle.ojp_grammar.specs.declared.machine.Passed.TheVariants as passes
use Rattle.ojp_grammar.specs.Items.{Item, tag, value, item_text, text, spell}
use Rattle.ojp_grammar.specs.Syntax.{Syntax, put}
use Rattle.ojp_grammar.specs.Syntax.{text as text_shape}
use Rattle.ojp_grammar.specs.Grammar.{LEG, legs_of}
use Rattle.ojp_grammar.specs.Documents.{leg_said}
use Rattle.ojp_grammar.specs.Fronts.{ReadsLeg, PassesLeg, keep_leg}
use Rattle.ojp_values.specs.declared.trips.Leg.{Leg}
use Rattle.ojp_tables.specs.declared.names.TheConstants as names
use Rattle.ojp_grammar.specs.Steps.{syntax_of, stack_of, enter, leave, depth, Comes, IsPlain, AreShallow}
use Rattle.ojp_grammar.specs.Reached.{At, start_of}
use Rattle.ojp_grammar.specs.Folding.{Waiting, nothing, fold, onward, push_value, take_text}
use Rattle.ojp_grammar.specs.Machine.{Advances, PassesItem, Finds}
use Rattle.ojp_grammar.specs.Running.{IsReading}
use Rattle.ojp_grammar.specs.declared.machine.Found.TheVariants as founds
use Rattle.ojp_grammar.proofs.Behind.{spell-snoc, spell-append}
use Rattle.ojp_grammar.proofs.Progress.{at_start, at_step}
use Rattle.ojp_grammar.proofs.Wanted.{start_means}
use Rattle.ojp_grammar.proofs.Drafts.{steps, fold-append}
use Rattle.ojp_grammar.proofs.Lengths.{front_short}
use Rattle.ojp_grammar.proofs.Parts.{at_part}
use Rattle.ojp_grammar.proofs.Depths.{start_shallow, step_shallow, open_length}

-- the last shape is the next
pub stack_of-snoc : (rest : List Shape) (shape : Shape) → stack_of (rest ++ shape ∷ []) ≡ syntax_of shape ∷ stack_of rest
stack_of-snoc rest shape = ap (map syntax_of) (reverse-append rest (shape ∷ []))

pub reading_start : (want : Want) (bytes : List ℕ) → IsReading want 0 (start_of want) nothing bytes bytes
reading_start want bytes = record {
  front = [];
  reached = at_start (start_of want) bytes (start_means want).plain;
  shallow = start_shallow want;
  place = refl;
  folded = refl;
}

pub reading_pop : (want : Want) (at : ℕ) (items rest : List Shape) (shape : Shape) (waiting : Waiting) (bytes tail : List ℕ) → items ≡ rest ++ shape ∷ [] → IsReading want at (stack_of items) waiting bytes tail → IsReading want at (syntax_of shape ∷ stack_of rest) waiting bytes tail
reading_pop want at items rest shape waiting bytes tail e r =
    let P : List Syntax → Type 0 = λ k. IsReading want at k waiting bytes tail in subst P (ap stack_of e ∙ stack_of-snoc rest shape) r

pub reading_plain : (want : Want) (at : ℕ) (s : Syntax) (k : List Syntax) (waiting : Waiting) (bytes tail : List ℕ) → IsReading want at (s ∷ k) waiting bytes tail → IsPlain s
reading_plain want at s k waiting bytes tail r = r.reached.plain.0

-- there is room for what the next shape opens
pub reading_room : (want : Want) (at : ℕ) (s : Syntax) (items : List Shape) (waiting : Waiting) (bytes tail : List ℕ) → IsReading want at (s ∷ stack_of items) waiting bytes tail → depth s + length items ≤ 16
reading_room want at s items waiting bytes tail r = omega (arith, r.shallow.0, open_length items)

text_length : (s : Syntax) (i : Item) (bytes behind : List ℕ) → Comes s i bytes behind → length bytes ≡ length (item_text i) + length behind
text_length s (tag n) bytes behind c = ap length c.1 ∙ length-append (item_text (tag n)) behind
text_length s (value v) bytes behind c = ap length c.2 ∙ length-append (item_text (value v)) behind

-- an item is passed
item_step : (want : Want) (at len : ℕ) (s : Syntax) (k new : List Syntax) (waiting after : Waiting) (bytes tail : List ℕ) → IsReading want at (s ∷ k) waiting bytes tail → len ≤ length tail → PassesItem s k waiting tail len new after → IsReading want (at + len) new after bytes (drop len tail)
item_step want at len s k new waiting after bytes tail r within a =
    let item : Item = a.item in
    let comes : Comes s item tail (drop len tail) = a.comes in
    let plain = (start_means want).plain in
    let sizes = text_length s item tail (drop len tail) comes in
    let behind : length (drop len tail) ≡ length tail - len = length-drop len tail in
    let size : length (item_text item) ≡ len = omega (arith, sizes, behind, within) in
    let stepped = at_step (start_of want) bytes r.front s k tail item (drop len tail) plain r.reached comes in
    let P : List Syntax → Type 0 = λ opened. At (start_of want) bytes (r.front ++ item ∷ []) opened (drop len tail) in
    let taken = steps want bytes r.front s k tail item (drop len tail) waiting plain r.reached comes r.folded in
    let longer : length (spell (r.front ++ item ∷ [])) ≡ length (spell r.front) + length (item_text item) =
    ap length (spell-snoc r.front item) ∙ length-append (spell r.front) (item_text item) in
    record {
      front = r.front ++ item ∷ [];
      reached = subst P (sym a.opened_is) stepped;
      shallow = subst AreShallow (sym a.opened_is) (step_shallow s item k r.shallow);
      place = omega (arith, r.place, longer, size);
      folded = taken.2 ∙ ap (λ w. Some w) (sym (a.taken taken.0 taken.1));
    }

-- the items of a leg fold to it
leg_folds : (leg : Leg) (waiting : Waiting) → fold waiting (put LEG (leg_said leg) []) ≡ Some (keep_leg leg waiting)
leg_folds leg waiting = refl

-- a whole leg is passed
leg_step : (want : Want) (at len : ℕ) (s : Syntax) (k new : List Syntax) (waiting after : Waiting) (bytes tail : List ℕ) → IsReading want at (s ∷ k) waiting bytes tail → len ≤ length tail → PassesLeg s k waiting tail len new after → IsReading want (at + len) new after bytes (drop len tail)
leg_step want at len s k new waiting after bytes tail r within a =
    let w : List Item = put LEG (leg_said a.leg) [] in
    let P : Syntax → Type 0 = λ t. At (start_of want) bytes r.front (t ∷ k) tail in
    let Q : List ℕ → Type 0 = At (start_of want) bytes r.front (legs_of a.low a.high ∷ k) in
    let here = subst Q a.reads.parts (subst P a.of_legs r.reached) in
    let passed = at_part (start_of want) bytes (start_means want).plain r.front a.low a.high LEG (text_shape (names.TRIP + 1)) k (leg_said a.leg) (drop len tail) here a.room a.reads.fits in
    let R : List Syntax → Type 0 = λ opened. At (start_of want) bytes (r.front ++ w) opened (drop len tail) in
    let S : Syntax → Type 0 = λ t. AreShallow (t ∷ k) in
    let whole : length tail ≡ length (spell w) + length (drop len tail) = ap length a.reads.parts ∙ length-append (spell w) (drop len tail) in
    let behind : length (drop len tail) ≡ length tail - len = length-drop len tail in
    let size : length (spell w) ≡ len = omega (arith, whole, behind, within) in
    let longer : length (spell (r.front ++ w)) ≡ length (spell r.front) + length (spell w) =
    ap length (spell-append r.front w) ∙ length-append (spell r.front) (spell w) in
    let folded : fold nothing (r.front ++ w) ≡ Some (keep_leg a.leg waiting) =
    fold-append nothing r.front w ∙ (ap (λ (o : Option Waiting). onward o (λ v. fold v w)) r.folded ∙ leg_folds a.leg waiting) in
    record {
      front = r.front ++ w;
      reached = subst R (sym a.opened_is) passed;
      shallow = subst AreShallow (sym a.opened_is) (subst S a.of_legs r.shallow);
      place = omega (arith, r.place, longer, size);
      folded = folded ∙ ap (λ v. Some v) (sym a.kept);
    }

pub reading_step : (want : Want) (at len : ℕ) (s : Syntax) (k new : List Syntax) (waiting after : Waiting) (bytes tail : List ℕ) → IsReading want at (s ∷ k) waiting bytes tail → Advances (s ∷ k) waiting tail (passes.Over len) new after → IsReading want (at + len) new after bytes (drop len tail)
reading_step want at len s k new waiting after bytes tail r a = elim a.2 [
  | inl item ↦ item_step want at len s k new waiting after bytes tail r a.1 item
  | inr leg ↦ leg_step want at len s k new waiting after bytes tail r a.1 leg
]

pub advances_text : (s : Syntax) (k new : List Syntax) (waiting after : Waiting) (bytes t : List ℕ) (n : ℕ) → t ≡ text n → Finds s bytes (founds.Text n) → new ≡ enter n s k → ((w : Waiting) → take_text n waiting ≡ Some w → after ≡ w) → Advances (s ∷ k) waiting bytes (passes.Over (length t)) new after
advances_text s k new waiting after bytes t n e found opened taken =
    let P : List ℕ → Type 0 = λ x. Advances (s ∷ k) waiting bytes (passes.Over (length x)) new after in
    subst P (sym e) (found.1, found.0, inl (record { item = tag n; comes = found.2; opened_is = opened; taken = taken }))

pub advances_field : (s : Syntax) (k new : List Syntax) (waiting after : Waiting) (bytes : List ℕ) (len : ℕ) (v : FieldValue) → Finds s bytes (founds.Field len v) → new ≡ leave s k → after ≡ push_value v waiting → Advances (s ∷ k) waiting bytes (passes.Over len) new after
advances_field s k new waiting after bytes len v found opened taken =
    (found.1, found.0, inl (record { item = value v; comes = found.2; opened_is = opened; taken = λ w e. taken ∙ (let same : push_value v waiting ≡ w = cc in same) }))

leg_is_long : (leg : Leg) → 0 < length (spell (put LEG (leg_said leg) []))
unfolding text
leg_is_long leg = omega arith

-- a whole leg was read and kept
pub advances_leg : (s : Syntax) (k new : List Syntax) (waiting after : Waiting) (bytes left : List ℕ) (low high len : ℕ) (leg : Leg) → s ≡ legs_of low high → 0 < high → ReadsLeg bytes leg left → len ≡ length bytes - length left → new ≡ legs_of (low - 1) (high - 1) ∷ k → after ≡ keep_leg leg waiting → Advances (s ∷ k) waiting bytes (passes.Over len) new after
advances_leg s k new waiting after bytes left low high len leg of_legs room reads size opened kept =
    let w : List ℕ = spell (put LEG (leg_said leg) []) in
    let whole : length bytes ≡ length w + length left = ap length reads.parts ∙ length-append w left in
    let count : len ≡ length w = omega (arith, whole, size) in
    let some : 0 < length w = leg_is_long leg in
    let behind : drop len bytes ≡ left = ap (λ n. drop n bytes) count ∙ (ap (λ b. drop (length w) b) reads.parts ∙ drop-append_seam w left) in
    let P : List ℕ → Type 0 = λ rest. ReadsLeg bytes leg rest in
    (omega (arith, some, count), omega (arith, whole, count), inr (record { low = low; high = high; leg = leg; of_legs = of_legs; room = room; reads = subst P (sym behind) reads; opened_is = opened; kept = kept }))

pub three_open : (i0 i1 i2 i3 : List Shape) (x y z : Shape) → i0 ≡ [] → i1 ≡ i0 ++ x ∷ [] → i2 ≡ i1 ++ y ∷ [] → i3 ≡ i2 ++ z ∷ [] → stack_of i3 ≡ syntax_of z ∷ syntax_of y ∷ syntax_of x ∷ []
three_open i0 i1 i2 i3 x y z a b c d =
    ap stack_of d ∙ (stack_of-snoc i2 z
    ∙ ap (λ k. syntax_of z ∷ k) (ap stack_of c ∙ (stack_of-snoc i1 y
    ∙ ap (λ k. syntax_of y ∷ k) (ap stack_of b ∙ (stack_of-snoc i0 x ∙ ap (λ i. syntax_of x ∷ stack_of i) a)))))

-- the bytes from a place on, as a slice gives them
pub rest_of : (bytes : List ℕ) (at : ℕ) (P : List ℕ → Type 0) → P (take (length bytes - at) (drop at bytes)) → P (drop at bytes)
rest_of bytes at P p = subst P (take_all (length bytes - at) (drop at bytes) (omega (arith, length-drop at bytes))) p

-- the machine stands within a wanted document, so its place is small
pub reading_short : (want : Want) (at : ℕ) (k : List Syntax) (waiting : Waiting) (bytes tail : List ℕ) → IsReading want at k waiting bytes tail → at < 2 ^ 41
reading_short want at k waiting bytes tail r = omega (arith, r.place, front_short want bytes r.front k tail r.reached)

-- what is left behind what was taken, as one place
pub dropped_on : (want : Want) (at : ℕ) (k : List Syntax) (waiting : Waiting) (fed bytes : List ℕ) (took len : ℕ) → IsReading want at k waiting fed (drop len (drop took bytes)) → IsReading want at k waiting fed (drop (took + len) bytes)
dropped_on want at k waiting fed bytes took len r = subst (IsReading want at k waiting fed) (drop-drop len took bytes) r
