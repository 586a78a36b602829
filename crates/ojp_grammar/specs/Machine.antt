-- What the machine finds at its place, and what it knows.
use Rattle.std.specs.Prelude.{◌≡◌, take, ℕ, ◌<◌, ◌≤◌, true, List, [], ◌∷◌, ◌++◌, length, drop, nat_eq, Option, Some, None, MatchOption, ◌⊎◌}
use Rattle.std.specs.List.{starts_with}
use Rattle.ojp_values.specs.declared.kinds.Kind.{Kind}
use Rattle.ojp_grammar.specs.declared.fields.FieldValue.{FieldValue}
use Rattle.ojp_grammar.specs.declared.refusals.Reason.{Reason}
use Rattle.ojp_grammar.specs.declared.refusals.Reason.TheVariants as reasons
use Rattle.ojp_grammar.specs.declared.machine.Passed.{Passed}
use Rattle.ojp_grammar.specs.declared.machine.Passed.TheVariants as passes
use Rattle.ojp_grammar.specs.declared.machine.Cut.{Cut}
use Rattle.ojp_grammar.specs.declared.machine.Cut.TheVariants as cuts
use Rattle.ojp_grammar.specs.declared.machine.Found.{Found}
use Rattle.ojp_grammar.specs.declared.machine.Found.TheVariants as founds
use Rattle.ojp_grammar.specs.Fields.{kind_of, IsFieldValue, field_text}
use Rattle.ojp_grammar.specs.Items.{Item, tag, value, text}
use Rattle.ojp_grammar.specs.Syntax.{Syntax}
use Rattle.ojp_grammar.specs.Places.{Run, BeginsMarkup, IsProperPrefix, IsOpenRun}
use Rattle.ojp_grammar.specs.Steps.{begins, wants, step, Comes, Sticks}
use Rattle.ojp_grammar.specs.Folding.{Waiting}
use Rattle.ojp_grammar.specs.Folding as folding
use Rattle.ojp_grammar.specs.Fronts.{PassesLeg}

-- the text that stands in front, of those that may come first; none exactly where none does
abbrev pub IsFront : Syntax → List ℕ → Option ℕ → Type 0
IsFront s bytes found =
    MatchOption found ((n : ℕ) → begins n s ≡ true → starts_with nat_eq bytes (text n) ≡ true → ⊥)
    (λ n. (begins n s ≡ true) × (starts_with nat_eq bytes (text n) ≡ true))

-- the text that the bytes may still become, of those that may come first; none exactly where there is none
abbrev pub IsCutText : Syntax → List ℕ → Option ℕ → Type 0
IsCutText s bytes found =
    MatchOption found ((n : ℕ) → begins n s ≡ true → IsProperPrefix bytes (text n) → ⊥)
    (λ n. (begins n s ≡ true) × IsProperPrefix bytes (text n))

-- the item in front is cut short, and may still become this
abbrev pub IsCutItem : Syntax → List ℕ → Cut → Type 0
IsCutItem s bytes (cuts.Text n) = (begins n s ≡ true) × IsProperPrefix bytes (text n)
IsCutItem s bytes cuts.Field = (kind : Kind) × (wants s ≡ Some kind) × IsOpenRun bytes

-- what the next item may still become, where that is known
abbrev pub IsCutAt : Option Cut → List Syntax → List ℕ → Type 0
IsCutAt None open_shapes bytes = Unit {0}
IsCutAt (Some cut) [] bytes = ⊥
IsCutAt (Some cut) (s ∷ more) bytes = IsCutItem s bytes cut

-- an item that is cut short behind so many bytes is cut short behind the piece too
abbrev pub StaysCut : Cut → ℕ → List ℕ → Type 0
StaysCut cut passed piece =
    (s : Syntax) (bytes : List ℕ) → length bytes ≡ passed → IsCutItem s bytes cut → IsCutItem s (bytes ++ piece) cut

-- a field of the kind stands whole in front of the last bytes
pub record FieldComes (kind : Kind) (bytes : List ℕ) (field : FieldValue) (behind : List ℕ) : Type 0 where
  pub kind_is : kind_of field ≡ kind
  pub is : IsFieldValue field
  pub parts : bytes ≡ field_text field ++ behind
  pub markup : BeginsMarkup behind

-- no field of the kind stands in front
abbrev pub HasNoField : Kind → List ℕ → Type 0
HasNoField kind bytes =
    (v : FieldValue) (behind : List ℕ) → kind_of v ≡ kind → IsFieldValue v → bytes ≡ field_text v ++ behind → BeginsMarkup behind → ⊥

-- why no field of the kind stands in front
abbrev pub IsFieldReason : Kind → List ℕ → Reason → Type 0
IsFieldReason kind bytes reasons.Trailing = ⊥
IsFieldReason kind bytes reasons.Markup = ⊥
IsFieldReason kind bytes reasons.Truncated = IsOpenRun bytes
IsFieldReason kind bytes (reasons.Field other) = (other ≡ kind) × (IsOpenRun bytes → ⊥) × HasNoField kind bytes

-- the field in front, or why none is there
abbrev pub IsField : Kind → List ℕ → Found → Type 0
IsField kind bytes (founds.Text n) = ⊥
IsField kind bytes (founds.Field len v) = (len ≤ length bytes) × (0 < len) × FieldComes kind bytes v (drop len bytes)
IsField kind bytes (founds.Stuck reason) = IsFieldReason kind bytes reason

-- the item that comes first, or why none does
abbrev pub Finds : Syntax → List ℕ → Found → Type 0
Finds s bytes (founds.Text n) =
    (length (text n) ≤ length bytes) × (0 < length (text n)) × Comes s (tag n) bytes (drop (length (text n)) bytes)
Finds s bytes (founds.Field len v) = (len ≤ length bytes) × (0 < len) × Comes s (value v) bytes (drop len bytes)
Finds s bytes (founds.Stuck reason) = Sticks s bytes reason

-- an item was passed, what stands behind it is open, and its value was taken
pub record PassesItem (s : Syntax) (more : List Syntax) (old : Waiting) (bytes : List ℕ) (len : ℕ) (opened : List Syntax) (new : Waiting) : Type 0 where
  pub item : Item
  pub comes : Comes s item bytes (drop len bytes)
  pub opened_is : opened ≡ step item s more
  pub taken : (w : Waiting) → folding.step item old ≡ Some w → new ≡ w

-- an item or a whole leg was passed; or nothing changed since no item comes
abbrev pub Advances : List Syntax → Waiting → List ℕ → Passed → List Syntax → Waiting → Type 0
Advances [] old bytes passed opened new = ⊥
Advances (s ∷ more) old bytes (passes.Nothing reason) opened new = Sticks s bytes reason × (opened ≡ s ∷ more) × (new ≡ old)
Advances (s ∷ more) old bytes (passes.Over len) opened new =
    (0 < len) × (len ≤ length bytes)
    × (PassesItem s more old bytes len opened new ⊎ PassesLeg s more old bytes len opened new)

-- the next shape does not come, for this reason
abbrev pub StopsFor : List Syntax → List ℕ → Reason → Type 0
StopsFor [] bytes reason = ⊥
StopsFor (s ∷ more) bytes reason = Sticks s bytes reason

-- the number of bytes before the first angle bracket, which stands behind at most 512
abbrev pub IsRun : List ℕ → Option ℕ → Type 0
IsRun bytes found =
    MatchOption found (Run (take 513 bytes))
    (λ len. (len < length bytes) × (len ≤ 512) × Run (take len bytes) × BeginsMarkup (drop len bytes))
