-- The ids of a file.
use Rattle.std.specs.Prelude.{◌≡◌, ℕ, List, map, string_bytes, Some}
use Rattle.ojp_values.specs.Texts.{Text}
use Rattle.ojp_feed_lines.specs.Rows.{Record, at_place}
use Rattle.ojp_feed_lines.specs.declared.ids.Ids.{Ids}

-- the texts of the ids, in their order
abbrev pub id_texts : Ids → List Text
id_texts ids = map string_bytes ids.ids.keys

-- the ids are those of the rows
abbrev pub HoldsIds : Ids → ℕ → List Record → Type 0
HoldsIds ids place rows = id_texts ids ≡ map (λ row. at_place row (Some place)) rows
