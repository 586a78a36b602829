-- Requests are short.
use Rattle.std.specs.Prelude.{◌≤◌, length}
use Rattle.ojp_values.specs.declared.documents.Doc.{Doc}
use Rattle.ojp_grammar.specs.declared.refusals.Want.TheVariants.{Request}
use Rattle.ojp_grammar.specs.Items.{spell}
use Rattle.ojp_grammar.specs.Documents.{items, IsWanted}

-- the document of a request has at most 1,048,576 bytes
abbrev pub RequestsAreShort : Type 0
RequestsAreShort = (doc : Doc) → IsWanted Request doc → length (spell (items doc)) ≤ 1048576
