-- What a run writes to its output, and what it refuses.
use Rattle.std.specs.Prelude.{◌≡◌, ℕ, ◌⊎◌, Bool, true, List, Option}
use Rattle.ojp_values.specs.Texts.{Text}
use Rattle.ojp_outside.specs.Seen.{SinkView}
use Rattle.ojp_steps.specs.Lent.{Lent, IsUnused, Gains, GainsInPart}
use Rattle.ojp_timetable.specs.Tables.{Timetable}
use Rattle.ojp_timetable.specs.TableText.{IsText}
use Rattle.ojp_feed_lines.specs.Folders.{Files}
use Rattle.ojp_feed_rows.specs.declared.feed.Feed.{Feed}
use Rattle.ojp_feed_rows.specs.declared.settings.Settings.{Settings}
use Rattle.ojp_feed_plans.specs.Plans.{AddsUp, IsComplete, IsSound}
use Rattle.ojp_feed_plans.specs.declared.plans.Plan.{Plan}
use Rattle.ojp_feed.specs.Texts.{text_of}
use Rattle.ojp_gtfs_cli.specs.Feeds.{AreSettings, IsFeedOf, Stored}
use Rattle.ojp_gtfs_cli.specs.Refused.{IsRefusedFor}
use Rattle.ojp_gtfs_cli.specs.Words.{AskFor, Wanted}

-- the text is a timetable's and spells a plan of the feed, in which each trip is counted once, each journey stems from one, and
-- each departure of a trip that is written has its journeys on all days of the trip
pub record IsTextOf (feed : Feed) (settings : Settings) (text : Text) : Type 0 where
  pub table : Timetable
  pub is_text : IsText text table
  pub plan : Plan
  pub spelled : text ≡ text_of settings plan
  pub adds_up : AddsUp feed plan
  pub sound : IsSound feed plan
  pub complete : IsComplete feed plan

-- the text is that of the folder's feed, with the settings that are asked for
pub record IsConverted (wanted : Wanted) (zoneinfo : Text) (contents : Option Files) (stored : Stored) (text : Text) : Type 0 where
  pub feed : Feed
  pub settings : Settings
  pub of_folder : IsFeedOf contents feed
  pub as_asked : AreSettings wanted zoneinfo stored feed settings
  pub is : IsTextOf feed settings text

-- a timetable was written: 10 only where it is asked for
abbrev pub IsDone : Bool → ℕ → Type 0
IsDone strict status = (status ≡ 0) ⊎ ((status ≡ 10) × (strict ≡ true))

-- the text was written whole, with this status; or a write failed, and the output gained a front of it
abbrev pub Puts : {O : Type 0} → Lent O SinkView → Text → ℕ → ℕ → Type 0
Puts output text done status = ((status ≡ done) × Gains output text) ⊎ ((status ≡ 4) × GainsInPart output text)

-- the text was written whole, or in part where a write failed, or not at all where memory was wanted
abbrev pub PutsAs : {O : Type 0} → Bool → Lent O SinkView → Text → ℕ → Type 0
PutsAs strict output text status =
    (IsDone strict status × Gains output text) ⊎ (((status ≡ 4) × GainsInPart output text) ⊎ ((status ≡ 5) × IsUnused output))

-- the words ask for the timetable of the folder's feed, and the output gained just its text
pub record IsWritten {O : Type 0} (words : List Text) (zoneinfo : Text) (contents : Option Files) (stored : Stored) (output : Lent O SinkView) (status : ℕ) : Type 0 where
  pub wanted : Wanted
  pub asked : AskFor words wanted
  pub text : Text
  pub converted : IsConverted wanted zoneinfo contents stored text
  pub done : IsDone wanted.chosen.strict status
  pub gained : Gains output text

-- the words ask for the timetable of the folder's feed, a write failed, and the output gained a front of its text
pub record IsWrittenInPart {O : Type 0} (words : List Text) (zoneinfo : Text) (contents : Option Files) (stored : Stored) (output : Lent O SinkView) : Type 0 where
  pub wanted : Wanted
  pub asked : AskFor words wanted
  pub text : Text
  pub converted : IsConverted wanted zoneinfo contents stored text
  pub gained : GainsInPart output text

-- the words ask for a timetable, and a file is refused
pub record IsRefused {E : Type 0} (words : List Text) (zoneinfo : Text) (contents : Option Files) (stored : Stored) (report : Lent E SinkView) : Type 0 where
  pub wanted : Wanted
  pub asked : AskFor words wanted
  pub why : IsRefusedFor wanted zoneinfo contents stored report

-- bad words, a file that was not read, want of memory, or a refused file
abbrev pub IsFailed : ℕ → Type 0
IsFailed status = (status ≡ 2) ⊎ ((status ≡ 3) ⊎ ((status ≡ 5) ⊎ (status ≡ 6)))

-- what the status says of the output
abbrev pub WritesAs : {O : Type 0} → List Text → Text → Option Files → Stored → Lent O SinkView → ℕ → Type 0
WritesAs words zoneinfo contents stored output status =
    IsWritten words zoneinfo contents stored output status
    ⊎ (((status ≡ 4) × IsWrittenInPart words zoneinfo contents stored output) ⊎ (IsFailed status × IsUnused output))
