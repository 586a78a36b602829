-- One item at a time: what may come next, and what is open behind it.
use Rattle.std.specs.Prelude.{◌≡◌, ℕ, ◌+◌, ◌-◌, max, ◌<◌, ◌≤◌, Bool, true, false, ◌==◌, ◌||◌, ◌&&◌, if◌then◌else◌, not, List, [], ◌∷◌, ◌++◌, Option, Some, None, ◌⊎◌, map, reverse, length}
use Rattle.ojp_values.specs.declared.kinds.Kind.{Kind}
use Rattle.ojp_grammar.specs.declared.fields.FieldValue.{FieldValue}
use Rattle.ojp_grammar.specs.declared.shapes.Shape.{Shape, Text, Field, Both', Either', Many', Legs}
use Rattle.ojp_grammar.specs.declared.refusals.Reason.{Reason}
use Rattle.ojp_grammar.specs.declared.refusals.Reason.TheVariants as reasons
use Rattle.ojp_grammar.specs.Fields.{kind_of, IsFieldValue, field_text}
use Rattle.ojp_grammar.specs.Items.{Item, tag, value, spell}
use Rattle.ojp_grammar.specs.Items as items
use Rattle.ojp_grammar.specs.Syntax.{Syntax, text, field, both, either, many}
use Rattle.ojp_grammar.specs.Grammar.{legs_of}
use Rattle.ojp_grammar.specs.Places.{BeginsMarkup, IsProperPrefix, IsOpenRun}

-- the shape of a table's entry
abbrev pub syntax_of : Shape → Syntax
syntax_of (Text n) = text n
syntax_of (Field kind close) = field kind close
syntax_of (Both' p a q b) = both (syntax_of a) (syntax_of b)
syntax_of (Either' p a q b) = either (syntax_of a) (syntax_of b)
syntax_of (Many' low high p a q b) = many low high (syntax_of a) (syntax_of b)
syntax_of (Legs low high) = legs_of low high

-- the shapes that are open, where the last is the next
abbrev pub stack_of : List Shape → List Syntax
stack_of shapes = map syntax_of (reverse shapes)

-- ---- texts

-- the text may come first
abbrev pub begins : ℕ → Syntax → Bool
begins n (text m) = m == n
begins n (field kind close) = false
begins n (both a b) = begins n a
begins n (either a b) = begins n a || begins n b
begins n (many low high a b) = (low == 0 && begins n b) || (not (high == 0) && begins n a)

-- what is open behind that text
abbrev pub enter : ℕ → Syntax → List Syntax → List Syntax
enter n (text m) more = more
enter n (field kind close) more = more
enter n (both a b) more = enter n a (b ∷ more)
enter n (either a b) more = if begins n a then enter n a more else enter n b more
enter n (many low high a b) more =
    if begins n b then enter n b more else enter n a (many (low - 1) (high - 1) a b ∷ more)

-- ---- fields

-- the kind of the field that comes first
abbrev pub wants : Syntax → Option Kind
wants (text m) = None
wants (field kind close) = Some kind
wants (both a b) = wants a
wants (either a b) = None
wants (many low high a b) = None

-- what is open behind that field
abbrev pub leave : Syntax → List Syntax → List Syntax
leave (text m) more = more
leave (field kind close) more = text close ∷ more
leave (both a b) more = leave a (b ∷ more)
leave (either a b) more = more
leave (many low high a b) more = more

-- ---- how many shapes are open

-- how many shapes are open at most, itself among them, until it is read
abbrev pub depth : Syntax → ℕ
depth (text n) = 1
depth (field kind close) = 1
depth (both a b) = max (depth a + 1) (depth b)
depth (either a b) = max (depth a) (depth b)
depth (many low high a b) = max (depth a + 1) (depth b)

-- no more than 16 shapes are open until they are read
abbrev pub AreShallow : List Syntax → Type 0
AreShallow [] = Unit {0}
AreShallow (s ∷ more) = (depth s + length more ≤ 16) × AreShallow more

-- ---- items

-- the items are those of the open shapes, from the first to the last
abbrev pub Accepts : List Item → List Syntax → Type 0
Accepts [] [] = Unit {0}
Accepts [] (s ∷ more) = ⊥
Accepts (item ∷ items) [] = ⊥
Accepts (tag n ∷ items) (s ∷ more) = (begins n s ≡ true) × Accepts items (enter n s more)
Accepts (value v ∷ items) (s ∷ more) =
    (wants s ≡ Some (kind_of v)) × (IsFieldValue v × Accepts items (leave s more))

-- what is open behind an item
abbrev pub step : Item → Syntax → List Syntax → List Syntax
step (tag n) s more = enter n s more
step (value v) s more = leave s more

-- the item may come next, and stands whole in front of the bytes behind it
abbrev pub Comes : Syntax → Item → List ℕ → List ℕ → Type 0
Comes s (tag n) bytes behind = (begins n s ≡ true) × (bytes ≡ items.text n ++ behind)
Comes s (value v) bytes behind =
    (wants s ≡ Some (kind_of v)) × IsFieldValue v × (bytes ≡ field_text v ++ behind) × BeginsMarkup behind

-- no item comes next, for this reason
abbrev pub Sticks : Syntax → List ℕ → Reason → Type 0
Sticks s bytes reasons.Trailing = ⊥
Sticks s bytes reasons.Markup =
    (wants s ≡ None)
    × ((n : ℕ) → begins n s ≡ true → (behind : List ℕ) → bytes ≡ items.text n ++ behind → ⊥)
    × ((n : ℕ) → begins n s ≡ true → IsProperPrefix bytes (items.text n) → ⊥)
Sticks s bytes (reasons.Field kind) =
    (wants s ≡ Some kind)
    × (IsOpenRun bytes → ⊥)
    × ((v : FieldValue) (behind : List ℕ) → kind_of v ≡ kind → IsFieldValue v → bytes ≡ field_text v ++ behind → BeginsMarkup behind → ⊥)
Sticks s bytes reasons.Truncated =
    ((n : ℕ) × (begins n s ≡ true) × IsProperPrefix bytes (items.text n))
    ⊎ ((kind : Kind) × (wants s ≡ Some kind) × IsOpenRun bytes)

-- ---- shapes that are read from the front

-- a choice and a list are decided by the next text, and each list may be filled
abbrev pub IsPlain : Syntax → Type 0
IsPlain (text n) = n < 99
IsPlain (field kind close) = close < 99
IsPlain (both a b) = IsPlain a × IsPlain b
IsPlain (either a b) =
    IsPlain a × IsPlain b × (wants a ≡ None) × (wants b ≡ None) × ((n : ℕ) → begins n a ≡ true → begins n b ≡ true → ⊥)
IsPlain (many low high a b) =
    IsPlain a × IsPlain b × (wants a ≡ None) × (wants b ≡ None) × ((n : ℕ) → begins n a ≡ true → begins n b ≡ true → ⊥)
    × (low ≤ high)

abbrev pub ArePlain : List Syntax → Type 0
ArePlain [] = Unit {0}
ArePlain (s ∷ more) = IsPlain s × ArePlain more
