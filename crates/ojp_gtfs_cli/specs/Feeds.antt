-- The feed of a folder, its zone, and the settings with which it is converted.
use Rattle.std.specs.Prelude.{◌≡◌, ℕ, ◌&&◌, ◌||◌, ◌==◌, Bool, not, nat_le, nat_eq, ◌++◌, Option, Some, None, IfSome, IsSomeAnd, codes, string_bytes, if◌then◌else◌}
use Rattle.std.specs.Char.{is_ascii_alphanumeric}
use Rattle.std.specs.List.{list_all, starts_with}
use Rattle.ojp_values.specs.Texts.{Text}
use Rattle.ojp_values.specs.declared.moments.TheConstants.{FIRST_DAY, LAST_DAY}
use Rattle.ojp_calendars.specs.Files.{IsZoned}
use Rattle.ojp_feed_lines.specs.Folders.{Files}
use Rattle.ojp_feed_lines.specs.Places.{AreRoutesOf, IsZoneOf}
use Rattle.ojp_feed_lines.specs.Rows.{OfFile}
use Rattle.ojp_feed_lines.specs.declared.files.FeedFile.TheVariants as files
use Rattle.ojp_feed_rows.specs.declared.feed.Feed.{Feed}
use Rattle.ojp_feed_rows.specs.declared.settings.Settings.{Settings}
use Rattle.ojp_gtfs_cli.specs.Words.{Wanted}

-- the feed is the one of the folder's files, where they are told: its zone name and its routes stand in them
pub record IsFeedOf (contents : Option Files) (feed : Feed) : Type 0 where
  pub zone : OfFile contents files.Agency (λ bytes. IsZoneOf bytes (string_bytes feed.zone_name))
  pub routes : OfFile contents files.Routes (λ bytes. AreRoutesOf bytes feed.routes.items)

-- ---- the zone

-- the files of a store by name, where they are told
abbrev pub Stored : Type 0
Stored = Option (Text → Option Text)

-- this holds of the told bytes of a file of the store
abbrev pub OfStored : Stored → Text → (Text → Type 0) → Type 0
OfStored stored name P = IfSome stored (λ files. IsSomeAnd (files name) P)

-- the file of a zone, below the folder of zone files
abbrev pub zone_path : Text → Text → Text
zone_path zoneinfo zone = zoneinfo ++ codes "/" ++ zone

-- the same of the feed's zone
abbrev pub zone_file : Text → Feed → Text
zone_file zoneinfo feed = zone_path zoneinfo (string_bytes feed.zone_name)

-- the day of that number, and the first operating day for a number that is none
abbrev pub held_day : ℕ → ℕ
held_day number = if nat_le FIRST_DAY number && nat_le number LAST_DAY then number else FIRST_DAY

-- letters, digits, `_`, `+`, `-` and `/`
abbrev pub is_zone_byte : ℕ → Bool
is_zone_byte byte = is_ascii_alphanumeric byte || byte == 95 || byte == 43 || byte == 45 || byte == 47

-- these, of which `/` is not the first, are a name below the folder of zone files
abbrev pub is_zone_name : Text → Bool
is_zone_name name = not (starts_with nat_eq name (codes "/")) && list_all is_zone_byte name

-- the zone is the one that is asked for, and where none is, one with the noons of the file of the feed's zone on each day of its window
abbrev pub IsZoneFor : Option Text → Text → Stored → Feed → Text → Type 0
IsZoneFor (Some rule) zoneinfo stored feed zone = zone ≡ rule
IsZoneFor None zoneinfo stored feed zone =
    OfStored stored (zone_file zoneinfo feed) (λ bytes. IsZoned bytes (held_day feed.window.first) (held_day feed.window.last) zone)

-- ---- settings

-- the settings are those that are asked for, with the zone for the feed
pub record AreSettings (wanted : Wanted) (zoneinfo : Text) (stored : Stored) (feed : Feed) (settings : Settings) : Type 0 where
  pub code : settings.code ≡ wanted.code
  pub zone : IsZoneFor wanted.chosen.zone zoneinfo stored feed (string_bytes settings.zone)
  pub change : settings.change ≡ wanted.change
  pub station_change : settings.station_change ≡ wanted.station_change
  pub as_open : settings.as_open ≡ wanted.chosen.as_open
