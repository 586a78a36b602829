-- The words for the reasons of refused documents.
use Rattle.std.specs.Prelude.{ℕ, ◌++◌, ◌∷◌, [], codes}
use Rattle.std.specs.Fmt.{decimal}
use Rattle.ojp_values.specs.Texts.{Text}
use Rattle.ojp_values.specs.declared.kinds.Kind.{Kind}
use Rattle.ojp_values.specs.declared.kinds.Kind.TheVariants as kinds
use Rattle.ojp_grammar.specs.declared.refusals.Reason.{Reason}
use Rattle.ojp_grammar.specs.declared.refusals.Reason.TheVariants.{Markup, Field, Truncated, Trailing}

-- a field that is no text of the kind
abbrev pub field_words : Kind → Text
field_words kinds.StopRef = codes "Field StopRef"
field_words kinds.Code = codes "Field Code"
field_words kinds.Label = codes "Field Label"
field_words kinds.Name = codes "Field Name"
field_words kinds.Moment = codes "Field Moment"
field_words kinds.Day = codes "Field Day"
field_words kinds.Seconds = codes "Field Seconds"
field_words kinds.Change = codes "Field Change"
field_words kinds.Number = codes "Field Number"
field_words kinds.Count = codes "Field Count"
field_words kinds.EventKind = codes "Field EventKind"

-- why a document is refused
abbrev pub document_words : Reason → Text
document_words Markup = codes "Markup"
document_words (Field kind) = field_words kind
document_words Truncated = codes "Truncated"
document_words Trailing = codes "Trailing"

-- where a document is refused, and why
abbrev pub refusal_text : ℕ → Reason → Text
refusal_text at reason = codes "byte " ++ decimal at ++ codes ": " ++ document_words reason

-- the same as a line
abbrev pub refusal_line : ℕ → Reason → Text
refusal_line at reason = refusal_text at reason ++ 10 ∷ []
