-- The items of documents: markup texts and fields, and how they are spelled.
use Rattle.std.specs.Prelude.{ℕ, List, [], slice_index_or}
use Rattle.std.specs.List.{flat_map}
use Rattle.ojp_tables.specs.Markup.{MARKUP_TEXTS}
use Rattle.ojp_grammar.specs.declared.fields.FieldValue.{FieldValue}
use Rattle.ojp_grammar.specs.Fields.{field_text}

-- an item is one markup text, by its number, or one field
pub data Item : Type 0 where
  tag : ℕ → Item
  value : FieldValue → Item

-- the markup text of a number
unfoldable pub text : ℕ → List ℕ
text n = slice_index_or MARKUP_TEXTS n []

-- the bytes of an item
abbrev pub item_text : Item → List ℕ
item_text (tag n) = text n
item_text (value v) = field_text v

-- the bytes of the items, one after another
abbrev pub spell : List Item → List ℕ
spell items = flat_map item_text items
