-- How a run of `load` ends by how its command ended.
use Rattle.std.proofs.Common.{◌≡◌, ℕ, ◌⊎◌, Result, Ok, Err, inl, inr, sym, ◌∙◌}
use Rattle.ojp_values.specs.Texts.{Text}
use Rattle.ojp_outside.specs.Seen.{SinkView}
use Rattle.ojp_steps.specs.Lent.{Lent, before, after}
use Rattle.ojp_steps.specs.Endings.{HasEnding, Concludes}
use Rattle.ojp_steps.specs.declared.failures.Failure.{Failure}
use Rattle.ojp_steps.specs.declared.failures.Failure.TheVariants.{Document, Words, Unread, TooLong, Input, Output, Memory, Line, Twice, TooMany, Disagree, Region, Doors}
use Rattle.ojp_steps.proofs.EndFacts.{ends_as}
use Rattle.ojp_steps.proofs.FileFacts.{rests_or_rose}
use Rattle.ojp_load.specs.Loads.{Loaded, LoadFails, LoadIsDue}
use Rattle.ojp_cli.specs.Words.{IsNumber}
use Rattle.ojp_cli.specs.Runs.{LoadDue, RunsLoad}

module _ {O : Type 0} (word : Text) (output : Lent O SinkView) where
  -- `load` ran over the network of its word
  pub runs_load : {E : Type 0} (faults : Lent E SinkView) (number : ℕ) (ended : Result (Unit {0}) Failure) (status : ℕ) → IsNumber word number
      → HasEnding (Loaded number output) (LoadFails number output) ended → Concludes ended faults status → RunsLoad word output faults status
  runs_load faults number ended status is ends concludes =
      inl (number, is, ends_as (Loaded number output) (LoadFails number output) ended faults status ends concludes)

  due_by : {E : Type 0} (faults : Lent E SinkView) (number : ℕ) (ended : Result (Unit {0}) Failure) (status due : ℕ)
      → HasEnding (Loaded number output) (LoadFails number output) ended → Concludes ended faults status → LoadIsDue output due → (status ≡ 5) ⊎ (status ≡ due)
  due_by faults number (Ok nothing) status due e c d = inr (c.0 ∙ sym d.1)
  due_by faults number (Err Output) status due e c d = absurd (rests_or_rose (before output).faults (after output).faults d.0 e.gained.rose)
  due_by faults number (Err Memory) status due e c d = inl c.0
  due_by faults number (Err (Document at reason)) status due e c d = absurd e
  due_by faults number (Err Words) status due e c d = absurd e
  due_by faults number (Err (Unread name)) status due e c d = absurd e
  due_by faults number (Err (TooLong name)) status due e c d = absurd e
  due_by faults number (Err Input) status due e c d = absurd e
  due_by faults number (Err (Line name line reason)) status due e c d = absurd e
  due_by faults number (Err (Twice code)) status due e c d = absurd e
  due_by faults number (Err TooMany) status due e c d = absurd e
  due_by faults number (Err (Disagree point left right)) status due e c d = absurd e
  due_by faults number (Err (Region code)) status due e c d = absurd e
  due_by faults number (Err Doors) status due e c d = absurd e

  -- the status that is due to `load`
  pub due_to_load : {E : Type 0} (faults : Lent E SinkView) (number : ℕ) (ended : Result (Unit {0}) Failure) (status : ℕ) → IsNumber word number
      → HasEnding (Loaded number output) (LoadFails number output) ended → Concludes ended faults status
      → (due : ℕ) → LoadDue word output due → (status ≡ 5) ⊎ (status ≡ due)
  due_to_load faults number ended status is ends concludes due (inl d) = due_by faults number ended status due ends concludes d.2
  due_to_load faults number ended status is ends concludes due (inr d) = absurd (d.0 number is)

  -- the status that is due where its word names no number
  pub due_to_none : (status : ℕ) → ((number : ℕ) → IsNumber word number → ⊥) → status ≡ 2 → (due : ℕ) → LoadDue word output due → (status ≡ 5) ⊎ (status ≡ due)
  due_to_none status none two due (inl d) = absurd (none d.0 d.1)
  due_to_none status none two due (inr d) = inr (two ∙ sym d.1)
