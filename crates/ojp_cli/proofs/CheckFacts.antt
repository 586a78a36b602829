-- Which status is due to `check`.
use Rattle.std.proofs.Common.{◌≡◌, ℕ, ◌⊎◌, Result, Ok, Err, inl, inr}
use Rattle.ojp_grammar.specs.declared.refusals.Want.TheVariants.{Either}
use Rattle.ojp_outside.specs.Seen.{SourceView, SinkView}
use Rattle.ojp_steps.specs.Lent.{Lent, before, after}
use Rattle.ojp_cli.specs.Checks.{Checked, CheckFails, CheckIsDue, no_document, a_name}
use Rattle.ojp_steps.specs.Endings.{HasEnding, Concludes}
use Rattle.ojp_steps.specs.declared.failures.Failure.{Failure}
use Rattle.ojp_steps.specs.declared.failures.Failure.TheVariants.{Document, Words, Unread, TooLong, Input, Output, Memory, Line, Twice, TooMany, Disagree, Region, Doors}
use Rattle.ojp_steps.proofs.FileFacts.{rests_or_rose}
use Rattle.ojp_steps.proofs.InputFacts.{reads, spelled_or_refused, refused_or_spelled}

module _ {I O : Type 0} (input : Lent I SourceView) (output : Lent O SinkView) where
  pub due_to_check : {E : Type 0} (ended : Result (Unit {0}) Failure) (faults : Lent E SinkView) (result status : ℕ)
      → HasEnding (Checked input output) (CheckFails input output) ended → Concludes ended faults result
      → CheckIsDue input output status → (result ≡ 5) ⊎ (result ≡ status)
  due_to_check (Ok nothing) faults result status e c (no_document bytes heard at reason refused) = absurd (spelled_or_refused Either input bytes heard e.doc at reason e.of_input refused)
  due_to_check (Err (Document place cause)) faults result status e c (no_document bytes heard at reason refused) = inr c.0
  due_to_check (Err Words) faults result status e c (no_document bytes heard at reason refused) = absurd e
  due_to_check (Err (Twice code)) faults result status e c (no_document bytes heard at reason refused) = absurd e
  due_to_check (Err TooMany) faults result status e c (no_document bytes heard at reason refused) = absurd e
  due_to_check (Err (Disagree point left right)) faults result status e c (no_document bytes heard at reason refused) = absurd e
  due_to_check (Err (Region code)) faults result status e c (no_document bytes heard at reason refused) = absurd e
  due_to_check (Err Doors) faults result status e c (no_document bytes heard at reason refused) = absurd e
  due_to_check (Err (Unread name)) faults result status e c (no_document bytes heard at reason refused) = absurd e
  due_to_check (Err (TooLong name)) faults result status e c (no_document bytes heard at reason refused) = absurd e
  due_to_check (Err Input) faults result status e c (no_document bytes heard at reason refused) = absurd (reads Either input bytes heard e.0)
  due_to_check (Err Output) faults result status e c (no_document bytes heard at reason refused) = absurd (spelled_or_refused Either input bytes heard e.doc at reason e.of_input refused)
  due_to_check (Err Memory) faults result status e c (no_document bytes heard at reason refused) = inl c.0
  due_to_check (Err (Line name line why)) faults result status e c (no_document bytes heard at reason refused) = absurd e
  due_to_check (Ok nothing) faults result status e c (a_name bytes heard doc wanted spells rests) = inr c.0
  due_to_check (Err (Document place cause)) faults result status e c (a_name bytes heard doc wanted spells rests) =
      absurd (refused_or_spelled Either input bytes heard doc place cause e.0 wanted spells)
  due_to_check (Err Words) faults result status e c (a_name bytes heard doc wanted spells rests) = absurd e
  due_to_check (Err (Twice code)) faults result status e c (a_name bytes heard doc wanted spells rests) = absurd e
  due_to_check (Err TooMany) faults result status e c (a_name bytes heard doc wanted spells rests) = absurd e
  due_to_check (Err (Disagree point left right)) faults result status e c (a_name bytes heard doc wanted spells rests) = absurd e
  due_to_check (Err (Region code)) faults result status e c (a_name bytes heard doc wanted spells rests) = absurd e
  due_to_check (Err Doors) faults result status e c (a_name bytes heard doc wanted spells rests) = absurd e
  due_to_check (Err (Unread name)) faults result status e c (a_name bytes heard doc wanted spells rests) = absurd e
  due_to_check (Err (TooLong name)) faults result status e c (a_name bytes heard doc wanted spells rests) = absurd e
  due_to_check (Err Input) faults result status e c (a_name bytes heard doc wanted spells rests) = absurd (reads Either input bytes heard e.0)
  due_to_check (Err Output) faults result status e c (a_name bytes heard doc wanted spells rests) =
      absurd (rests_or_rose (before output).faults (after output).faults rests e.gained.rose)
  due_to_check (Err Memory) faults result status e c (a_name bytes heard doc wanted spells rests) = inl c.0
  due_to_check (Err (Line name line why)) faults result status e c (a_name bytes heard doc wanted spells rests) = absurd e
