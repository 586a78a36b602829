-- Fields are short.
use Rattle.std.proofs.Common.{ℕ, ◌≤◌, List, length, IsTrue}
use Rattle.ojp_values.specs.Texts.{is_stop_ref, is_code, is_label, is_name, escaped}
use Rattle.ojp_grammar.specs.declared.fields.FieldValue.TheVariants.{StopRef, Code, Label, Name}
use Rattle.ojp_grammar.specs.Fields.{field_text}
use Rattle.ojp_grammar.proofs.FieldLaws.{bare}

pub stop_is_short : (s : List ℕ) → IsTrue (is_stop_ref s) → length s ≤ 512
unfolding field_text
stop_is_short s h = (bare (StopRef s) h).short

pub code_is_short : (s : List ℕ) → IsTrue (is_code s) → length s ≤ 512
unfolding field_text
code_is_short s h = (bare (Code s) h).short

pub label_is_short : (s : List ℕ) → IsTrue (is_label s) → length s ≤ 512
unfolding field_text
label_is_short s h = (bare (Label s) h).short

pub name_is_short : (s : List ℕ) → IsTrue (is_name s) → length (escaped s) ≤ 512
unfolding field_text
name_is_short s h = (bare (Name s) h).short
