-- Which status is due to `ask`.
use Rattle.std.proofs.Common.{◌≡◌, ℕ, ◌⊎◌, Result, Ok, Err, inl, inr}
use Rattle.ojp_values.specs.Texts.{Text}
use Rattle.ojp_values.specs.declared.documents.Doc.TheVariants as docs
use Rattle.ojp_grammar.specs.declared.refusals.Want.TheVariants.{Request}
use Rattle.ojp_outside.specs.Seen.{SourceView, SinkView}
use Rattle.ojp_links.specs.Seen.{View}
use Rattle.ojp_steps.specs.Lent.{Lent, before, after}
use Rattle.ojp_steps.specs.Endings.{HasEnding, Concludes}
use Rattle.ojp_steps.specs.declared.failures.Failure.{Failure}
use Rattle.ojp_steps.specs.declared.failures.Failure.TheVariants.{Document, Words, Unread, TooLong, Input, Output, Memory, Line, Twice, TooMany, Disagree, Region, Doors}
use Rattle.ojp_steps.proofs.FileFacts.{rests_or_rose}
use Rattle.ojp_steps.proofs.InputFacts.{reads, spelled_or_refused, refused_or_spelled}
use Rattle.ojp_online.specs.Added.{HasFailed, HasFailedNone}
use Rattle.ojp_online.specs.Asks.{Asked, AskFails, AskIsDue, no_request, an_answer}

-- a region failed, or none did
none_or_failed : (v : View) (code : Text) → HasFailedNone v → HasFailed v code → ⊥
none_or_failed v code none (region, below, is, rose) = rests_or_rose 0 (v.faults region) (none region below) rose

module _ {I O L : Type 0} (host : Text) (port : ℕ) (input : Lent I SourceView) (output : Lent O SinkView) (links : Lent L View) where
  pub due_to_ask : {E : Type 0} (ended : Result (Unit {0}) Failure) (faults : Lent E SinkView) (result status : ℕ)
      → HasEnding (Asked host port input output links) (AskFails host port input output links) ended → Concludes ended faults result
      → AskIsDue input output links status → (result ≡ 5) ⊎ (result ≡ status)
  due_to_ask (Ok nothing) faults result status e c (no_request bytes heard at reason refused) = absurd (spelled_or_refused Request input bytes heard (docs.Ask e.answer.ask) at reason e.answer.of_input refused)
  due_to_ask (Err (Document at_ cause)) faults result status e c (no_request bytes heard at reason refused) = inr c.0
  due_to_ask (Err Words) faults result status e c (no_request bytes heard at reason refused) = absurd e
  due_to_ask (Err (Unread name)) faults result status e c (no_request bytes heard at reason refused) = absurd e
  due_to_ask (Err (TooLong name)) faults result status e c (no_request bytes heard at reason refused) = absurd e
  due_to_ask (Err Input) faults result status e c (no_request bytes heard at reason refused) = absurd (reads Request input bytes heard e.0)
  due_to_ask (Err Output) faults result status e c (no_request bytes heard at reason refused) = absurd (spelled_or_refused Request input bytes heard (docs.Ask e.answer.ask) at reason e.answer.of_input refused)
  due_to_ask (Err Memory) faults result status e c (no_request bytes heard at reason refused) = inl c.0
  due_to_ask (Err (Line name line_ why)) faults result status e c (no_request bytes heard at reason refused) = absurd e
  due_to_ask (Err (Twice code)) faults result status e c (no_request bytes heard at reason refused) = absurd e
  due_to_ask (Err TooMany) faults result status e c (no_request bytes heard at reason refused) = absurd e
  due_to_ask (Err (Disagree point left right)) faults result status e c (no_request bytes heard at reason refused) = absurd e
  due_to_ask (Err (Region code)) faults result status e c (no_request bytes heard at reason refused) = absurd (spelled_or_refused Request input bytes heard (docs.Ask e.1.0) at reason e.1.1 refused)
  due_to_ask (Err Doors) faults result status e c (no_request bytes heard at reason refused) = absurd e
  due_to_ask (Ok nothing) faults result status e c (an_answer bytes heard ask spells none rests) = inr c.0
  due_to_ask (Err (Document at_ cause)) faults result status e c (an_answer bytes heard ask spells none rests) = absurd (refused_or_spelled Request input bytes heard (docs.Ask ask) at_ cause e.0 spells.wanted spells.spells)
  due_to_ask (Err Words) faults result status e c (an_answer bytes heard ask spells none rests) = absurd e
  due_to_ask (Err (Unread name)) faults result status e c (an_answer bytes heard ask spells none rests) = absurd e
  due_to_ask (Err (TooLong name)) faults result status e c (an_answer bytes heard ask spells none rests) = absurd e
  due_to_ask (Err Input) faults result status e c (an_answer bytes heard ask spells none rests) = absurd (reads Request input bytes heard e.0)
  due_to_ask (Err Output) faults result status e c (an_answer bytes heard ask spells none rests) = absurd (rests_or_rose (before output).faults (after output).faults rests e.gained.rose)
  due_to_ask (Err Memory) faults result status e c (an_answer bytes heard ask spells none rests) = inl c.0
  due_to_ask (Err (Line name line_ why)) faults result status e c (an_answer bytes heard ask spells none rests) = absurd e
  due_to_ask (Err (Twice code)) faults result status e c (an_answer bytes heard ask spells none rests) = absurd e
  due_to_ask (Err TooMany) faults result status e c (an_answer bytes heard ask spells none rests) = absurd e
  due_to_ask (Err (Disagree point left right)) faults result status e c (an_answer bytes heard ask spells none rests) = absurd e
  due_to_ask (Err (Region code)) faults result status e c (an_answer bytes heard ask spells none rests) = absurd (none_or_failed (after links) code none e.3)
  due_to_ask (Err Doors) faults result status e c (an_answer bytes heard ask spells none rests) = absurd e
