-- Shapes of items: what a shape says, and the items that say it.
use Rattle.std.specs.Prelude.{ℕ, ◌+◌, ◌≤◌, List, [], ◌∷◌, length, ◌⊎◌}
use Rattle.std.proofs.Common.{inl, inr}
use Rattle.std.specs.List.{AllByRecursion}
use Rattle.ojp_values.specs.declared.kinds.Kind.{Kind}
use Rattle.ojp_values.specs.declared.kinds.Kind.TheVariants as kinds
use Rattle.ojp_values.specs.declared.kinds.EventKind.{EventKind}
use Rattle.ojp_grammar.specs.declared.fields.FieldValue.{FieldValue}
use Rattle.ojp_grammar.specs.declared.fields.FieldValue.TheVariants as fields
use Rattle.ojp_grammar.specs.Fields.{IsFieldValue}
use Rattle.ojp_grammar.specs.Items.{Item, tag, value}

pub data Syntax : Type 0 where
  -- one markup text
  text : ℕ → Syntax
  -- a field of a kind, and the text behind it
  field : Kind → ℕ → Syntax
  -- one shape, then the other
  both : Syntax → Syntax → Syntax
  -- one shape or the other
  either : Syntax → Syntax → Syntax
  -- a shape so many to so many times, and what stands behind them
  many : ℕ → ℕ → Syntax → Syntax → Syntax

-- <E>, the content, </E>
abbrev pub element : ℕ → Syntax → Syntax
element name content = both (text name) (both content (text (name + 1)))

-- <E>, a field, </E>
abbrev pub leaf : ℕ → Kind → Syntax
leaf name kind = both (text name) (field kind (name + 1))

-- <E>, a shape so many to so many times, </E>
abbrev pub list_of : ℕ → ℕ → ℕ → Syntax → Syntax
list_of name low high content = both (text name) (many low high content (text (name + 1)))

-- what a field of a kind holds
abbrev pub FieldOf : Kind → Type 0
FieldOf kinds.StopRef = List ℕ
FieldOf kinds.Code = List ℕ
FieldOf kinds.Label = List ℕ
FieldOf kinds.Name = List ℕ
FieldOf kinds.Moment = ℕ
FieldOf kinds.Day = ℕ
FieldOf kinds.Seconds = ℕ
FieldOf kinds.Change = ℕ
FieldOf kinds.Number = ℕ
FieldOf kinds.Count = ℕ
FieldOf kinds.EventKind = EventKind

abbrev pub value_of : (kind : Kind) → FieldOf kind → FieldValue
value_of kinds.StopRef v = fields.StopRef v
value_of kinds.Code v = fields.Code v
value_of kinds.Label v = fields.Label v
value_of kinds.Name v = fields.Name v
value_of kinds.Moment v = fields.Moment v
value_of kinds.Day v = fields.Day v
value_of kinds.Seconds v = fields.Seconds v
value_of kinds.Change v = fields.Change v
value_of kinds.Number v = fields.Number v
value_of kinds.Count v = fields.Count v
value_of kinds.EventKind v = fields.EventKind v

-- what a shape says
abbrev pub Says : Syntax → Type 0
Says (text name) = Unit {0}
Says (field kind close) = FieldOf kind
Says (both a b) = Says a × Says b
Says (either a b) = Says a ⊎ Says b
Says (many low high a b) = List (Says a) × Says b

abbrev pub put_each : {A : Type 0} → (A → List Item → List Item) → List A → List Item → List Item
put_each f [] rest = rest
put_each f (x ∷ xs) rest = f x (put_each f xs rest)

-- the items that say it, and then the rest
abbrev pub put : (s : Syntax) → Says s → List Item → List Item
put (text name) v rest = tag name ∷ rest
put (field kind close) v rest = value (value_of kind v) ∷ tag close ∷ rest
put (both a b) v rest = put a v.0 (put b v.1 rest)
put (either a b) (inl v) rest = put a v rest
put (either a b) (inr v) rest = put b v rest
put (many low high a b) v rest = put_each (put a) v.0 (put b v.1 rest)

-- each field and the length of each list are within the limits of the shape
abbrev pub Fits : (s : Syntax) → Says s → Type 0
Fits (text name) v = Unit {0}
Fits (field kind close) v = IsFieldValue (value_of kind v)
Fits (both a b) v = Fits a v.0 × Fits b v.1
Fits (either a b) (inl v) = Fits a v
Fits (either a b) (inr v) = Fits b v
Fits (many low high a b) v = (low ≤ length v.0) × (length v.0 ≤ high) × AllByRecursion (Fits a) v.0 × Fits b v.1
