-- Whole bytes and the documents that they spell.
use Rattle.std.specs.Prelude.{◌≡◌, ℕ, ◌<◌, List, Some, None, ◌⊎◌}
use Rattle.ojp_values.specs.declared.documents.Doc.{Doc}
use Rattle.ojp_grammar.specs.declared.machine.Ran.{Ran}
use Rattle.ojp_grammar.specs.declared.refusals.Want.{Want}
use Rattle.ojp_grammar.specs.declared.refusals.Reason.{Reason}
use Rattle.ojp_grammar.specs.declared.refusals.Reason.TheVariants.{Trailing}
use Rattle.ojp_grammar.specs.declared.refusals.WholeRefused.{WholeRefused}
use Rattle.ojp_grammar.specs.declared.refusals.WholeRefused.TheVariants.{At, NoMemory}
use Rattle.ojp_grammar.specs.Documents.{IsWanted, Spells}
use Rattle.ojp_grammar.specs.Places.{IsDocumentRefused}

-- the bytes spell a wanted document
abbrev pub IsWhole : Want → List ℕ → Type 0
IsWhole want bytes = (doc : Doc) × IsWanted want doc × Spells doc bytes

-- the refusal has its place and its reason; want of memory is free
abbrev pub IsWholeRefused : Want → List ℕ → WholeRefused → Type 0
IsWholeRefused want bytes (At refused) = IsDocumentRefused want bytes refused.at refused.reason
IsWholeRefused want bytes NoMemory = Unit {0}

-- the run stopped for the reason, or bytes stand behind a whole document
abbrev pub IsWhyNot : Ran → ℕ → Reason → Type 0
IsWhyNot ran length reason = (ran.stop ≡ Some reason) ⊎ ((ran.stop ≡ None) × (ran.took < length) × (reason ≡ Trailing))
