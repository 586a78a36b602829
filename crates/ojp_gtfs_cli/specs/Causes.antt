-- Why a run fails, and what it leaves as it was.
use Rattle.std.specs.Prelude.{◌≡◌, ◌<◌, ◌≤◌, ◌⊎◌, length, List, Option, IfSome, IsSomeAnd}
use Rattle.ojp_values.specs.Texts.{Text}
use Rattle.ojp_outside.specs.Causes.{Rose}
use Rattle.ojp_outside.specs.Seen.{SinkView, StoreView}
use Rattle.ojp_outside.specs.declared.store.TheConstants.{FILE_LIMIT}
use Rattle.ojp_calendars.specs.Files.{IsNoFile}
use Rattle.ojp_calendars.specs.declared.faults.ZoneFault.{ZoneFault}
use Rattle.ojp_calendars.specs.declared.faults.ZoneFault.TheVariants as zones
use Rattle.ojp_feed_lines.specs.Folders.{FolderView}
use Rattle.ojp_feed_rows.specs.declared.feed.Feed.{Feed}
use Rattle.ojp_feed_rows.specs.declared.settings.Settings.{Settings}
use Rattle.ojp_feed_rows.specs.declared.settings.Window.{Window}
use Rattle.ojp_steps.specs.Lent.{Lent, before, after}
use Rattle.ojp_gtfs_cli.specs.Feeds.{Stored, zone_path}
use Rattle.ojp_gtfs_cli.specs.Refused.{FindsNoRule, HasNoZone, IsOtherRefused, IsRefusedFor, IsRowRefused, IsUnconverted}
use Rattle.ojp_gtfs_cli.specs.Words.{Wanted}
use Rattle.ojp_gtfs_cli.specs.declared.failures.Failure.{Failure}
use Rattle.ojp_gtfs_cli.specs.declared.failures.Failure.TheVariants.{Words, Unread, Refused, Memory}

-- ---- what stays

-- the store tells what it told before, and its count of faults did not fall
pub record StoreGoesOn (old new : StoreView) : Type 0 where
  pub kept : new.contents ≡ old.contents
  pub later : old.faults ≤ new.faults

-- the folder tells what it told before, and its count of faults did not fall
pub record FolderGoesOn (old new : FolderView) : Type 0 where
  pub kept : new.contents ≡ old.contents
  pub later : old.faults ≤ new.faults

-- ---- a file that was not read

-- a file has more bytes than a file may have, where the store tells its files
abbrev pub HasTooLong : Stored → Type 0
HasTooLong stored = IfSome stored (λ files. (name : Text) × IsSomeAnd (files name) (λ bytes. FILE_LIMIT < length bytes))

-- the file of a zone is no zone file, where the store tells its files
abbrev pub HasNoZoneFile : Text → Stored → Type 0
HasNoZoneFile zoneinfo stored = IfSome stored (λ files. (zone : Text) × IsSomeAnd (files (zone_path zoneinfo zone)) IsNoFile)

-- a read of the store failed, or one of its files is too long
abbrev pub StoreFails : StoreView → StoreView → Type 0
StoreFails old new = Rose old.faults new.faults ⊎ HasTooLong old.contents

-- a file was not read: one of the folder, whose count of faults rose; one of the store; or a zone file, that is none
abbrev pub IsUnread : {D S : Type 0} → Text → Lent D FolderView → Lent S StoreView → Type 0
IsUnread zoneinfo folder store =
    Rose (before folder).faults (after folder).faults
    ⊎ (StoreFails (before store) (after store) ⊎ HasNoZoneFile zoneinfo (before store).contents)

-- why the bytes of a zone file give no zone for a window: they are none, or no rule is found; want of memory is free
abbrev pub GivesNone : Text → Window → ZoneFault → Type 0
GivesNone bytes window zones.Memory = Unit {0}
GivesNone bytes window zones.File = IsNoFile bytes
GivesNone bytes window zones.Rule = FindsNoRule bytes window

-- ---- the causes of a failure; want of memory is free

-- of the files of other regions, which stand among these options
abbrev pub OthersFailAs : {E : Type 0} → List Text → StoreView → StoreView → Lent E SinkView → Failure → Type 0
OthersFailAs options old new report Words = ⊥
OthersFailAs options old new report Unread = StoreFails old new
OthersFailAs options old new report Refused = IsOtherRefused options old.contents report
OthersFailAs options old new report Memory = Unit {0}

-- of the operator's file
abbrev pub FileFailsAs : StoreView → StoreView → Failure → Type 0
FileFailsAs old new Words = ⊥
FileFailsAs old new Unread = StoreFails old new
FileFailsAs old new Refused = ⊥
FileFailsAs old new Memory = Unit {0}

-- of the rows of the feed, read for the region of this code and with the operator's file of this name
abbrev pub RowsFailAs : {E : Type 0} → Text → Option Text → FolderView → FolderView → StoreView → StoreView → Lent E SinkView → Failure → Type 0
RowsFailAs code name folder folder_after store store_after report Words = ⊥
RowsFailAs code name folder folder_after store store_after report Unread = Rose folder.faults folder_after.faults ⊎ StoreFails store store_after
RowsFailAs code name folder folder_after store store_after report Refused = IsRowRefused folder.contents store.contents code name report
RowsFailAs code name folder folder_after store store_after report Memory = Unit {0}

-- of the zone of the feed, where this one is asked for
abbrev pub ZoneFailsAs : {E : Type 0} → Option Text → Text → Feed → StoreView → StoreView → Lent E SinkView → Failure → Type 0
ZoneFailsAs asked zoneinfo feed old new report Words = ⊥
ZoneFailsAs asked zoneinfo feed old new report Unread = StoreFails old new ⊎ HasNoZoneFile zoneinfo old.contents
ZoneFailsAs asked zoneinfo feed old new report Refused = HasNoZone asked zoneinfo old.contents feed report
ZoneFailsAs asked zoneinfo feed old new report Memory = Unit {0}

-- of the conversion
abbrev pub ConversionFailsAs : {E : Type 0} → Feed → Settings → Lent E SinkView → Failure → Type 0
ConversionFailsAs feed settings report Words = ⊥
ConversionFailsAs feed settings report Unread = ⊥
ConversionFailsAs feed settings report Refused = IsUnconverted feed settings report
ConversionFailsAs feed settings report Memory = Unit {0}

-- of all that comes before a timetable is written
abbrev pub FailsAs : {D S E : Type 0} → Wanted → Text → Lent D FolderView → Lent S StoreView → Lent E SinkView → Failure → Type 0
FailsAs wanted zoneinfo folder store report Words = ⊥
FailsAs wanted zoneinfo folder store report Unread = IsUnread zoneinfo folder store
FailsAs wanted zoneinfo folder store report Refused = IsRefusedFor wanted zoneinfo (before folder).contents (before store).contents report
FailsAs wanted zoneinfo folder store report Memory = Unit {0}
