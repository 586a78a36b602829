-- Values of one kind.
use Rattle.std.proofs.Common.{◌≡◌, ℕ, ◌<◌, ◌^◌, List, Some, ap, sym, ◌∙◌, subst}
use Rattle.ojp_values.specs.declared.kinds.Kind.{Kind}
use Rattle.ojp_grammar.specs.declared.fields.FieldValue.{FieldValue}
use Rattle.ojp_grammar.specs.Fields.{IsFieldValue, field_text, Spells}
use Rattle.ojp_grammar.specs.Syntax.{FieldOf, value_of}
use Rattle.ojp_grammar.proofs.Words.{holds}

-- where no value that the kind holds has the text, the text spells none of the kind
pub none_of_kind : (kind : Kind) (text : List ℕ) → ((x : FieldOf kind) → IsFieldValue (value_of kind x) → field_text (value_of kind x) ≡ text → ⊥) → (v : FieldValue) → Spells kind v text → ⊥
none_of_kind kind text none v s =
    let h = holds v kind (ap Some (sym s.kind_is)) in
    none h.0 (subst IsFieldValue (sym h.1) s.is) (ap field_text h.1 ∙ s.text_is)

-- two numbers with one text are one number
pub same_number : (text_of : ℕ → List ℕ) → ((m n : ℕ) → m < 2 ^ 64 → n < 2 ^ 64 → text_of m ≡ text_of n → m ≡ n) → (m n : ℕ) (text : List ℕ) → m < 2 ^ 64 → n < 2 ^ 64 → text_of m ≡ text → text_of n ≡ text → m ≡ n
same_number text_of one m n text h k e f = one m n h k (e ∙ sym f)
