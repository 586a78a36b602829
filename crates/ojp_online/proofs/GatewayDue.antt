-- Which status is due to `gateway`.
use Rattle.std.proofs.Common.{◌≡◌, ℕ, ◌⊎◌, ◌<◌, ◌≤◌, List, Option, Some, length, map, Result, Ok, Err, inl, inr, sym, ◌∙◌, ap, subst, arith}
use Rattle.std.proofs.lemmas.Option.{same_Some}
use Rattle.ojp_values.specs.Texts.{Text}
use Rattle.ojp_outside.specs.Files.{IsContents}
use Rattle.ojp_outside.specs.Seen.{SinkView, StoreView}
use Rattle.ojp_outside.specs.declared.store.TheConstants.{FILE_LIMIT}
use Rattle.ojp_timetable.specs.Tables.{Timetable}
use Rattle.ojp_timetable.specs.declared.file.lines.TableReason.{TableReason}
use Rattle.ojp_exchange.specs.Book.{Book, points_of}
use Rattle.ojp_exchange.specs.Joins.{IsJoined, JoinFails as IsBookRefused}
use Rattle.ojp_exchange.specs.declared.region_points.RegionPoints.{RegionPoints}
use Rattle.ojp_exchange.specs.declared.refusals.BookRefused.{BookRefused}
use Rattle.ojp_exchange.specs.declared.refusals.BookRefused.TheVariants as refusals
use Rattle.ojp_links.specs.Seen.{View, TellsTables}
use Rattle.ojp_regions.specs.RegionsText.{IsListRefused, IsText}
use Rattle.ojp_regions.specs.declared.line.RegionLine.{RegionLine}
use Rattle.ojp_regions.proofs.RegionFacts.{text_not_refused}
use Rattle.ojp_gateway.specs.Learning.{FailsFirst, IsLearned, IsRefusedHeard}
use Rattle.ojp_steps.specs.Lent.{Lent, before, after}
use Rattle.ojp_steps.specs.Endings.{HasEnding, Concludes}
use Rattle.ojp_steps.specs.Files.{IsReadable}
use Rattle.ojp_steps.specs.Serving.{DoorsSeen}
use Rattle.ojp_steps.specs.declared.failures.Failure.{Failure}
use Rattle.ojp_steps.specs.declared.failures.Failure.TheVariants.{Document, Words, Unread, TooLong, Input, Output, Memory, Line, Twice, TooMany, Disagree, Region, Doors}
use Rattle.ojp_steps.proofs.FileFacts.{rests_or_rose, told_is, opens, long_or_short}
use Rattle.ojp_online.specs.Added.{as_added, HasFailedNone}
use Rattle.ojp_online.specs.RegionFiles.{IsFileOf, IsRefusedFile}
use Rattle.ojp_online.specs.Gateways.{GatewayServed, GatewayFails, GatewayIsDue, MakeBook, too_long, no_regions, no_book, all_served}
use Rattle.ojp_gateway.proofs.BookFacts.{joined_or_refused}

-- ---- the file

module _ {F : Type 0} (file : Text) (store : Lent F StoreView) (bytes : Text) (r : IsReadable file store bytes) where
  same_bytes : (held : Text) → IsContents (before store).contents file held → held ≡ bytes
  same_bytes held is = same_Some held bytes (sym (told_is (λ (files : Text → Option Text). files file ≡ Some held) (before store).contents r.files r.told is) ∙ r.held)

  within_limit : (regions : List RegionLine) → IsFileOf file store regions → FILE_LIMIT < length bytes → ⊥
  within_limit regions is long =
      let short : length is.bytes ≤ FILE_LIMIT = is.within in
      omega (arith, ap length (same_bytes is.bytes is.held), short, long)

  refused_within : (line : ℕ) (reason : TableReason) → IsRefusedFile file store line reason → FILE_LIMIT < length bytes → ⊥
  refused_within line reason is long =
      let short : length is.bytes ≤ FILE_LIMIT = is.within in
      omega (arith, ap length (same_bytes is.bytes is.held), short, long)

  accepted_or_refused : (regions : List RegionLine) (line : ℕ) (reason : TableReason) → IsFileOf file store regions → IsListRefused bytes line reason → ⊥
  accepted_or_refused regions line reason is refused =
      text_not_refused bytes regions line reason (subst (λ (b : Text). IsText b regions) (same_bytes is.bytes is.held) is.is_text) refused

  refused_or_accepted : (regions : List RegionLine) (line : ℕ) (reason : TableReason) → IsRefusedFile file store line reason → IsText bytes regions → ⊥
  refused_or_accepted regions line reason is text =
      text_not_refused bytes regions line reason text (subst (λ (b : Text). IsListRefused b line reason) (same_bytes is.bytes is.held) is.refused)

-- ---- the book

-- the timetables of which a book was learned make one
made : (v : View) (tables : List Timetable) (book : Book) → TellsTables v tables → IsLearned v book → MakeBook tables
made v tables book tells l = (book, subst (λ (lists : List RegionPoints). IsJoined lists book) (l.heard.told tables tells) l.joined)

-- timetables that make a book are not refused
made_or_refused : (v : View) (tables : List Timetable) (reason : BookRefused) → TellsTables v tables → MakeBook tables → IsRefusedHeard v reason → ⊥
made_or_refused v tables reason tells (book, joined) r =
    joined_or_refused (map points_of tables) book reason joined (subst (λ (lists : List RegionPoints). IsBookRefused lists reason) (r.heard.told tables tells) r.refused) r.some

-- a region failed, or none did
none_or_first : (v : View) (code : Text) → HasFailedNone v → FailsFirst (as_added v) v code → ⊥
none_or_first v code none f = rests_or_rose 0 (v.faults f.region) (none f.region f.below) f.rose

module _ {F O D L : Type 0} (file : Text) (port : ℕ) (count : Option ℕ) (store : Lent F StoreView) (output : Lent O SinkView) (doors : Lent D DoorsSeen) (links : Lent L View) where
  pub due_to_gateway : {E : Type 0} (ended : Result (Unit {0}) Failure) (faults : Lent E SinkView) (result status : ℕ)
      → HasEnding (GatewayServed file port count store output doors links) (GatewayFails file port count store output doors links) ended → Concludes ended faults result
      → GatewayIsDue file store output doors links status → (result ≡ 5) ⊎ (result ≡ status)
  due_to_gateway (Ok nothing) faults result status e c (too_long bytes r long) = absurd (within_limit file store bytes r e.learned.has_file.regions e.learned.has_file.of_file long)
  due_to_gateway (Err (Document at_ cause)) faults result status e c (too_long bytes r long) = absurd e
  due_to_gateway (Err Words) faults result status e c (too_long bytes r long) = absurd e
  due_to_gateway (Err (Unread name)) faults result status e c (too_long bytes r long) = absurd (opens file store bytes r e.1)
  due_to_gateway (Err (TooLong name)) faults result status e c (too_long bytes r long) = inr c.0
  due_to_gateway (Err Input) faults result status e c (too_long bytes r long) = absurd e
  due_to_gateway (Err Output) faults result status e c (too_long bytes r long) = absurd (within_limit file store bytes r e.0.1.has_file.regions e.0.1.has_file.of_file long)
  due_to_gateway (Err Memory) faults result status e c (too_long bytes r long) = inl c.0
  due_to_gateway (Err (Line name line_ why)) faults result status e c (too_long bytes r long) = absurd (refused_within file store bytes r line_ why e.1 long)
  due_to_gateway (Err (Twice code)) faults result status e c (too_long bytes r long) = absurd e
  due_to_gateway (Err TooMany) faults result status e c (too_long bytes r long) = absurd (within_limit file store bytes r e.0.regions e.0.of_file long)
  due_to_gateway (Err (Disagree point left right)) faults result status e c (too_long bytes r long) = absurd (within_limit file store bytes r e.0.regions e.0.of_file long)
  due_to_gateway (Err (Region code)) faults result status e c (too_long bytes r long) = absurd (within_limit file store bytes r e.0.regions e.0.of_file long)
  due_to_gateway (Err Doors) faults result status (inl e) c (too_long bytes r long) = absurd (within_limit file store bytes r e.0.1.has_file.regions e.0.1.has_file.of_file long)
  due_to_gateway (Err Doors) faults result status (inr e) c (too_long bytes r long) = absurd (within_limit file store bytes r e.learned.has_file.regions e.learned.has_file.of_file long)
  due_to_gateway (Ok nothing) faults result status e c (no_regions bytes r short line reason refused) = absurd (accepted_or_refused file store bytes r e.learned.has_file.regions line reason e.learned.has_file.of_file refused)
  due_to_gateway (Err (Document at_ cause)) faults result status e c (no_regions bytes r short line reason refused) = absurd e
  due_to_gateway (Err Words) faults result status e c (no_regions bytes r short line reason refused) = absurd e
  due_to_gateway (Err (Unread name)) faults result status e c (no_regions bytes r short line reason refused) = absurd (opens file store bytes r e.1)
  due_to_gateway (Err (TooLong name)) faults result status e c (no_regions bytes r short line reason refused) = absurd (long_or_short file store bytes r e.1 short)
  due_to_gateway (Err Input) faults result status e c (no_regions bytes r short line reason refused) = absurd e
  due_to_gateway (Err Output) faults result status e c (no_regions bytes r short line reason refused) = absurd (accepted_or_refused file store bytes r e.0.1.has_file.regions line reason e.0.1.has_file.of_file refused)
  due_to_gateway (Err Memory) faults result status e c (no_regions bytes r short line reason refused) = inl c.0
  due_to_gateway (Err (Line name line_ why)) faults result status e c (no_regions bytes r short line reason refused) = inr c.0
  due_to_gateway (Err (Twice code)) faults result status e c (no_regions bytes r short line reason refused) = absurd e
  due_to_gateway (Err TooMany) faults result status e c (no_regions bytes r short line reason refused) = absurd (accepted_or_refused file store bytes r e.0.regions line reason e.0.of_file refused)
  due_to_gateway (Err (Disagree point left right)) faults result status e c (no_regions bytes r short line reason refused) = absurd (accepted_or_refused file store bytes r e.0.regions line reason e.0.of_file refused)
  due_to_gateway (Err (Region code)) faults result status e c (no_regions bytes r short line reason refused) = absurd (accepted_or_refused file store bytes r e.0.regions line reason e.0.of_file refused)
  due_to_gateway (Err Doors) faults result status (inl e) c (no_regions bytes r short line reason refused) = absurd (accepted_or_refused file store bytes r e.0.1.has_file.regions line reason e.0.1.has_file.of_file refused)
  due_to_gateway (Err Doors) faults result status (inr e) c (no_regions bytes r short line reason refused) = absurd (accepted_or_refused file store bytes r e.learned.has_file.regions line reason e.learned.has_file.of_file refused)
  due_to_gateway (Ok nothing) faults result status e c (no_book regions good tables tells none unmade) = absurd (unmade (made (after links) tables e.book tells e.learned.learned))
  due_to_gateway (Err (Document at_ cause)) faults result status e c (no_book regions good tables tells none unmade) = absurd e
  due_to_gateway (Err Words) faults result status e c (no_book regions good tables tells none unmade) = absurd e
  due_to_gateway (Err (Unread name)) faults result status e c (no_book regions good tables tells none unmade) = absurd (opens file store good.bytes good.readable e.1)
  due_to_gateway (Err (TooLong name)) faults result status e c (no_book regions good tables tells none unmade) = absurd (long_or_short file store good.bytes good.readable e.1 good.within)
  due_to_gateway (Err Input) faults result status e c (no_book regions good tables tells none unmade) = absurd e
  due_to_gateway (Err Output) faults result status e c (no_book regions good tables tells none unmade) = absurd (unmade (made (after links) tables e.0.0 tells e.0.1.learned))
  due_to_gateway (Err Memory) faults result status e c (no_book regions good tables tells none unmade) = inl c.0
  due_to_gateway (Err (Line name line_ why)) faults result status e c (no_book regions good tables tells none unmade) = absurd (refused_or_accepted file store good.bytes good.readable regions line_ why e.1 good.is_text)
  due_to_gateway (Err (Twice code)) faults result status e c (no_book regions good tables tells none unmade) = absurd e
  due_to_gateway (Err TooMany) faults result status e c (no_book regions good tables tells none unmade) = inr c.0
  due_to_gateway (Err (Disagree point left right)) faults result status e c (no_book regions good tables tells none unmade) = inr c.0
  due_to_gateway (Err (Region code)) faults result status e c (no_book regions good tables tells none unmade) = absurd (none_or_first (after links) code none e.1)
  due_to_gateway (Err Doors) faults result status (inl e) c (no_book regions good tables tells none unmade) = absurd (unmade (made (after links) tables e.0.0 tells e.0.1.learned))
  due_to_gateway (Err Doors) faults result status (inr e) c (no_book regions good tables tells none unmade) = absurd (unmade (made (after links) tables e.book tells e.learned.learned))
  due_to_gateway (Ok nothing) faults result status e c (all_served regions good tables tells none makes rests stands) = inr c.0
  due_to_gateway (Err (Document at_ cause)) faults result status e c (all_served regions good tables tells none makes rests stands) = absurd e
  due_to_gateway (Err Words) faults result status e c (all_served regions good tables tells none makes rests stands) = absurd e
  due_to_gateway (Err (Unread name)) faults result status e c (all_served regions good tables tells none makes rests stands) = absurd (opens file store good.bytes good.readable e.1)
  due_to_gateway (Err (TooLong name)) faults result status e c (all_served regions good tables tells none makes rests stands) = absurd (long_or_short file store good.bytes good.readable e.1 good.within)
  due_to_gateway (Err Input) faults result status e c (all_served regions good tables tells none makes rests stands) = absurd e
  due_to_gateway (Err Output) faults result status e c (all_served regions good tables tells none makes rests stands) = absurd (rests_or_rose (before output).faults (after output).faults rests e.1.rose)
  due_to_gateway (Err Memory) faults result status e c (all_served regions good tables tells none makes rests stands) = inl c.0
  due_to_gateway (Err (Line name line_ why)) faults result status e c (all_served regions good tables tells none makes rests stands) = absurd (refused_or_accepted file store good.bytes good.readable regions line_ why e.1 good.is_text)
  due_to_gateway (Err (Twice code)) faults result status e c (all_served regions good tables tells none makes rests stands) = absurd e
  due_to_gateway (Err TooMany) faults result status e c (all_served regions good tables tells none makes rests stands) = absurd (made_or_refused (after links) tables refusals.TooMany tells makes e.1)
  due_to_gateway (Err (Disagree point left right)) faults result status e c (all_served regions good tables tells none makes rests stands) = absurd (made_or_refused (after links) tables (refusals.Disagree point left right) tells makes e.1)
  due_to_gateway (Err (Region code)) faults result status e c (all_served regions good tables tells none makes rests stands) = absurd (none_or_first (after links) code none e.1)
  due_to_gateway (Err Doors) faults result status (inl e) c (all_served regions good tables tells none makes rests stands) = absurd (rests_or_rose (before doors).faults (after doors).faults stands e.1.rose)
  due_to_gateway (Err Doors) faults result status (inr e) c (all_served regions good tables tells none makes rests stands) = absurd (rests_or_rose (before doors).faults (after doors).faults stands e.serves.rose)
