-- Which status is due to `region`.
use Rattle.std.proofs.Common.{◌≡◌, ℕ, ◌⊎◌, Option, Result, Ok, Err, inl, inr}
use Rattle.ojp_values.specs.Texts.{Text}
use Rattle.ojp_outside.specs.Seen.{SinkView, StoreView}
use Rattle.ojp_steps.specs.Lent.{Lent, before, after}
use Rattle.ojp_grammar.specs.Answering.{AnswersBody}
use Rattle.ojp_timetable.specs.Answers.{RegionAnswers}
use Rattle.ojp_timetable.specs.Tables.{Timetable}
use Rattle.ojp_steps.specs.Files.{IsFileOf}
use Rattle.ojp_steps.specs.Serving.{DoorsSeen, ServesAt}
use Rattle.ojp_steps.specs.declared.serving.NotServed.TheVariants as servings
use Rattle.ojp_online.specs.Regions.{RegionServed, RegionFails, RegionIsDue, too_long, no_table, all_served}
use Rattle.ojp_steps.specs.Endings.{HasEnding, Concludes}
use Rattle.ojp_steps.specs.declared.failures.Failure.{Failure}
use Rattle.ojp_steps.specs.declared.failures.Failure.TheVariants.{Document, Words, Unread, TooLong, Input, Output, Memory, Line, Twice, TooMany, Disagree, Region, Doors}
use Rattle.ojp_steps.proofs.FileFacts.{rests_or_rose, opens, long_or_short, within_limit, refused_within, accepted_or_refused, refused_or_accepted}

module _ {F O D : Type 0} (file : Text) (port : ℕ) (count : Option ℕ) (store : Lent F StoreView) (output : Lent O SinkView) (doors : Lent D DoorsSeen) where
  -- the doors could not listen, or gave no connection
  pub fails_for_doors : (table : Timetable) → IsFileOf file store table → ServesAt (AnswersBody (RegionAnswers table)) port count output doors (Err servings.Doors)
      → RegionFails file port count store output doors Doors
  fails_for_doors table is (inl s) = inl ((table, is), s.1, s.0)
  fails_for_doors table is (inr s) = inr (record { table = table; of_file = is; is_ready = s.0; serves = s.1 })

  pub due_to_region : {E : Type 0} (ended : Result (Unit {0}) Failure) (faults : Lent E SinkView) (result status : ℕ)
      → HasEnding (RegionServed file port count store output doors) (RegionFails file port count store output doors) ended → Concludes ended faults result
      → RegionIsDue file store output doors status → (result ≡ 5) ⊎ (result ≡ status)
  -- the file is too long
  due_to_region (Ok nothing) faults result status e c (too_long bytes r long) = absurd (within_limit file store bytes r e.table e.of_file long)
  due_to_region (Err (Document at reason)) faults result status e c (too_long bytes r long) = absurd e
  due_to_region (Err Words) faults result status e c (too_long bytes r long) = absurd e
  due_to_region (Err (Twice code)) faults result status e c (too_long bytes r long) = absurd e
  due_to_region (Err TooMany) faults result status e c (too_long bytes r long) = absurd e
  due_to_region (Err (Disagree point left right)) faults result status e c (too_long bytes r long) = absurd e
  due_to_region (Err (Region code)) faults result status e c (too_long bytes r long) = absurd e
  due_to_region (Err (Unread name)) faults result status e c (too_long bytes r long) = absurd (opens file store bytes r e.1)
  due_to_region (Err (TooLong name)) faults result status e c (too_long bytes r long) = inr c.0
  due_to_region (Err Input) faults result status e c (too_long bytes r long) = absurd e
  due_to_region (Err Output) faults result status e c (too_long bytes r long) = absurd (within_limit file store bytes r e.0.0 e.0.1 long)
  due_to_region (Err Memory) faults result status e c (too_long bytes r long) = inl c.0
  due_to_region (Err (Line name line reason)) faults result status e c (too_long bytes r long) = absurd (refused_within file store bytes r line reason e.1 long)
  due_to_region (Err Doors) faults result status (inl e) c (too_long bytes r long) = absurd (within_limit file store bytes r e.0.0 e.0.1 long)
  due_to_region (Err Doors) faults result status (inr e) c (too_long bytes r long) = absurd (within_limit file store bytes r e.table e.of_file long)
  -- the file is no timetable
  due_to_region (Ok nothing) faults result status e c (no_table bytes r short n why refused) = absurd (accepted_or_refused file store bytes r e.table n why e.of_file refused)
  due_to_region (Err (Document at reason)) faults result status e c (no_table bytes r short n why refused) = absurd e
  due_to_region (Err Words) faults result status e c (no_table bytes r short n why refused) = absurd e
  due_to_region (Err (Twice code)) faults result status e c (no_table bytes r short n why refused) = absurd e
  due_to_region (Err TooMany) faults result status e c (no_table bytes r short n why refused) = absurd e
  due_to_region (Err (Disagree point left right)) faults result status e c (no_table bytes r short n why refused) = absurd e
  due_to_region (Err (Region code)) faults result status e c (no_table bytes r short n why refused) = absurd e
  due_to_region (Err (Unread name)) faults result status e c (no_table bytes r short n why refused) = absurd (opens file store bytes r e.1)
  due_to_region (Err (TooLong name)) faults result status e c (no_table bytes r short n why refused) = absurd (long_or_short file store bytes r e.1 short)
  due_to_region (Err Input) faults result status e c (no_table bytes r short n why refused) = absurd e
  due_to_region (Err Output) faults result status e c (no_table bytes r short n why refused) = absurd (accepted_or_refused file store bytes r e.0.0 n why e.0.1 refused)
  due_to_region (Err Memory) faults result status e c (no_table bytes r short n why refused) = inl c.0
  due_to_region (Err (Line name line reason)) faults result status e c (no_table bytes r short n why refused) = inr c.0
  due_to_region (Err Doors) faults result status (inl e) c (no_table bytes r short n why refused) = absurd (accepted_or_refused file store bytes r e.0.0 n why e.0.1 refused)
  due_to_region (Err Doors) faults result status (inr e) c (no_table bytes r short n why refused) = absurd (accepted_or_refused file store bytes r e.table n why e.of_file refused)
  -- all is in order
  due_to_region (Ok nothing) faults result status e c (all_served table good rests stands) = inr c.0
  due_to_region (Err (Document at reason)) faults result status e c (all_served table good rests stands) = absurd e
  due_to_region (Err Words) faults result status e c (all_served table good rests stands) = absurd e
  due_to_region (Err (Twice code)) faults result status e c (all_served table good rests stands) = absurd e
  due_to_region (Err TooMany) faults result status e c (all_served table good rests stands) = absurd e
  due_to_region (Err (Disagree point left right)) faults result status e c (all_served table good rests stands) = absurd e
  due_to_region (Err (Region code)) faults result status e c (all_served table good rests stands) = absurd e
  due_to_region (Err (Unread name)) faults result status e c (all_served table good rests stands) = absurd (opens file store good.bytes good.readable e.1)
  due_to_region (Err (TooLong name)) faults result status e c (all_served table good rests stands) = absurd (long_or_short file store good.bytes good.readable e.1 good.within)
  due_to_region (Err Input) faults result status e c (all_served table good rests stands) = absurd e
  due_to_region (Err Output) faults result status e c (all_served table good rests stands) =
      absurd (rests_or_rose (before output).faults (after output).faults rests e.1.rose)
  due_to_region (Err Memory) faults result status e c (all_served table good rests stands) = inl c.0
  due_to_region (Err (Line name line reason)) faults result status e c (all_served table good rests stands) =
      absurd (refused_or_accepted file store good.bytes good.readable table line reason e.1 good.is_text)
  due_to_region (Err Doors) faults result status (inl e) c (all_served table good rests stands) = absurd (rests_or_rose (before doors).faults (after doors).faults stands e.1.rose)
  due_to_region (Err Doors) faults result status (inr e) c (all_served table good rests stands) =
      absurd (rests_or_rose (before doors).faults (after doors).faults stands e.serves.rose)
