-- What a case states, and which cases of a table are wrong.
use Rattle.std.specs.Prelude.{◌≡◌, ℕ, List, ◌<◌, length, slice_get, Option, Some, None, Result, Ok, Err}
use Rattle.ojp_grammar.specs.declared.refusals.Want.{Want}
use Rattle.ojp_values.specs.declared.memory.NoMemory.{NoMemory}
use Rattle.ojp_decode.specs.declared.fed.ReadRefused.{ReadRefused}
use Rattle.ojp_decode.specs.declared.fed.ReadRefused.TheVariants as refusals
use Rattle.ojp_grammar.specs.Whole.{IsWhole}
use Rattle.ojp_grammar.specs.Places.{IsDocumentRefused}
use Rattle.ojp_vectors.specs.declared.case.Case.{Case}
use Rattle.ojp_vectors.specs.declared.case.CaseOutcome.{CaseOutcome}
use Rattle.ojp_vectors.specs.declared.case.CaseOutcome.TheVariants.{Document, At}

-- the bytes spell a wanted document, or are refused at this place for this reason
abbrev pub IsOutcome : Want → List ℕ → CaseOutcome → Type 0
IsOutcome want bytes Document = IsWhole want bytes
IsOutcome want bytes (At at reason) = IsDocumentRefused want bytes at reason

-- bytes, and what they are stated to be
pub record Stated : Type 0 where
  pub want : Want
  pub bytes : List ℕ
  pub outcome : CaseOutcome

-- what a case states
abbrev pub stated : Case → Stated
stated case = record { want = case.want; bytes = case.bytes.now; outcome = case.outcome }

-- the bytes are what is stated
abbrev pub Holds : Stated → Type 0
Holds case = IsOutcome case.want case.bytes case.outcome

-- each case of a number below the bound holds
abbrev pub HoldBelow : List Stated → ℕ → Type 0
HoldBelow cases bound = (number : ℕ) (case : Stated) → number < bound → slice_get cases number ≡ Some case → Holds case

-- each case holds; or this is the number of the first that does not
abbrev pub IsFirstWrong : List Stated → Option ℕ → Type 0
IsFirstWrong cases None = HoldBelow cases (length cases)
IsFirstWrong cases (Some number) =
    HoldBelow cases number × ((case : Stated) × (slice_get cases number ≡ Some case) × (Holds case → ⊥))

-- the outcome that a reader's refusal is
abbrev pub outcome_by : ReadRefused → Result CaseOutcome NoMemory
outcome_by (refusals.At refused) = Ok (At refused.at refused.reason)
outcome_by refusals.NoMemory = Err (record {})
