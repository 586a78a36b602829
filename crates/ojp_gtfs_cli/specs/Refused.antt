-- Why a feed, or another file, is refused: what is wrong with it, and the line that names this on standard error.
use Rattle.std.specs.Prelude.{◌≡◌, ℕ, ◌⊎◌, ⊤, false, List, Option, Some, None, IsUtf8, codes, string_bytes}
use Rattle.ojp_values.specs.Texts.{Text}
use Rattle.ojp_outside.specs.Files.{IsContents}
use Rattle.ojp_outside.specs.Seen.{SinkView}
use Rattle.ojp_timetable.specs.TableText.{IsTextRefused}
use Rattle.ojp_timetable.specs.Views.{reason_words}
use Rattle.ojp_timetable.specs.declared.file.lines.TableReason.{TableReason}
use Rattle.ojp_calendars.specs.Files.{HasNoRule, IsZoned}
use Rattle.ojp_feed_rows.specs.declared.feed.Feed.{Feed}
use Rattle.ojp_feed_rows.specs.declared.settings.Settings.{Settings}
use Rattle.ojp_feed_rows.specs.declared.settings.Window.{Window}
use Rattle.ojp_feed_lines.specs.Folders.{Files}
use Rattle.ojp_feed_lines.specs.Refusals.{ExplainsAll}
use Rattle.ojp_feed_lines.specs.ReasonWords.{row_words}
use Rattle.ojp_feed_lines.specs.Rows.{or_nothing}
use Rattle.ojp_feed_lines.specs.declared.files.FeedFile.{FeedFile}
use Rattle.ojp_feed_lines.specs.declared.refusals.FeedRefused.TheVariants as feeds
use Rattle.ojp_feed_lines.specs.declared.refusals.RowReason.{RowReason}
use Rattle.ojp_feed.specs.Converting.{IsCause}
use Rattle.ojp_feed.specs.declared.converting.ConvertRefused.{ConvertRefused}
use Rattle.ojp_steps.specs.Lent.{Lent, Tells}
use Rattle.ojp_gtfs_cli.specs.Failures.{failure_of_conversion}
use Rattle.ojp_gtfs_cli.specs.Feeds.{AreSettings, IsFeedOf, OfStored, Stored, held_day, is_zone_name, zone_file}
use Rattle.ojp_gtfs_cli.specs.Lines.{conversion_lines, file_name, no_rule_line, refused_line, zone_name_line}
use Rattle.ojp_gtfs_cli.specs.Words.{Wanted, StandsBehind}
use Rattle.ojp_gtfs_cli.specs.declared.failures.Failure.TheVariants.{Refused}

-- a file of another region, which stands behind `--against`, is no timetable: its first line that is refused, and why
pub record IsOtherRefused {E : Type 0} (options : List Text) (stored : Stored) (report : Lent E SinkView) : Type 0 where
  pub file : Text
  pub line : ℕ
  pub reason : TableReason
  pub bytes : Text
  pub named : StandsBehind options (codes "--against") file
  pub held : IsContents stored file bytes
  pub refused : IsTextRefused bytes line reason
  pub told : Tells report (refused_line file line (reason_words reason))

-- the bytes of the operator's file are those of the file of this name in the store; there are none where no file is named
abbrev pub IsOperatorOf : Stored → Option Text → Option Text → Type 0
IsOperatorOf stored None None = ⊤
IsOperatorOf stored None (Some bytes) = ⊥
IsOperatorOf stored (Some name) None = ⊥
IsOperatorOf stored (Some name) (Some bytes) = IsContents stored name bytes

-- a line of the feed or of the operator's file, which has this name in the store, is refused for the region of the code, for a
-- reason that the folder's files or the operator's explain
pub record IsRowRefused {E : Type 0} (contents : Option Files) (stored : Stored) (code : Text) (name : Option Text) (report : Lent E SinkView) : Type 0 where
  pub file : FeedFile
  pub line : ℕ
  pub reason : RowReason
  pub operator : Option Text
  pub held : IsOperatorOf stored name operator
  pub explained : ExplainsAll contents code operator (feeds.At file line reason)
  pub told : Tells report (refused_line (file_name (or_nothing name) file) line (row_words reason))

-- ---- no zone

-- no rule that is tried has the noons of the zone file on each day of the window, or one that has is no text
abbrev pub FindsNoRule : Text → Window → Type 0
FindsNoRule bytes window =
    HasNoRule bytes (held_day window.first) (held_day window.last)
    ⊎ ((zone : Text) × IsZoned bytes (held_day window.first) (held_day window.last) zone × (¬ IsUtf8 zone))

-- the feed's zone is no name of a zone file
pub record HasBadZoneName {E : Type 0} (feed : Feed) (report : Lent E SinkView) : Type 0 where
  pub bad : is_zone_name (string_bytes feed.zone_name) ≡ false
  pub told : Tells report zone_name_line

-- for the file of the feed's zone no rule is found
pub record HasNoZoneRule {E : Type 0} (zoneinfo : Text) (stored : Stored) (feed : Feed) (report : Lent E SinkView) : Type 0 where
  pub none : OfStored stored (zone_file zoneinfo feed) (λ bytes. FindsNoRule bytes feed.window)
  pub told : Tells report (no_rule_line (string_bytes feed.zone_name) feed.window)

-- no zone is asked for, and the feed's is of no use
pub record HasNoZone {E : Type 0} (asked : Option Text) (zoneinfo : Text) (stored : Stored) (feed : Feed) (report : Lent E SinkView) : Type 0 where
  pub unasked : asked ≡ None
  pub why : HasBadZoneName feed report ⊎ HasNoZoneRule zoneinfo stored feed report

-- ---- no timetable

-- the feed is refused as a timetable
pub record IsUnconverted {E : Type 0} (feed : Feed) (settings : Settings) (report : Lent E SinkView) : Type 0 where
  pub refused : ConvertRefused
  pub fits : Option ℕ
  pub is : failure_of_conversion refused ≡ Refused
  pub why : IsCause feed settings refused
  pub told : Tells report (conversion_lines feed.stops.items feed.trips.items fits refused)

-- ---- what is refused of all that the words name

-- the feed of the folder has no zone
pub record IsFeedUnzoned {E : Type 0} (wanted : Wanted) (zoneinfo : Text) (contents : Option Files) (stored : Stored) (report : Lent E SinkView) : Type 0 where
  pub feed : Feed
  pub of_folder : IsFeedOf contents feed
  pub why : HasNoZone wanted.chosen.zone zoneinfo stored feed report

-- the feed of the folder makes no timetable, with the settings that are asked for
pub record IsFeedUnconverted {E : Type 0} (wanted : Wanted) (zoneinfo : Text) (contents : Option Files) (stored : Stored) (report : Lent E SinkView) : Type 0 where
  pub feed : Feed
  pub settings : Settings
  pub of_folder : IsFeedOf contents feed
  pub as_asked : AreSettings wanted zoneinfo stored feed settings
  pub why : IsUnconverted feed settings report

-- a file of another region, a line of the feed or of the operator's file, its zone, or the timetable that would be made
abbrev pub IsRefusedFor : {E : Type 0} → Wanted → Text → Option Files → Stored → Lent E SinkView → Type 0
IsRefusedFor wanted zoneinfo contents stored report =
    IsOtherRefused wanted.options stored report
    ⊎ (IsRowRefused contents stored wanted.code wanted.chosen.exchange report
    ⊎ (IsFeedUnzoned wanted zoneinfo contents stored report ⊎ IsFeedUnconverted wanted zoneinfo contents stored report))
