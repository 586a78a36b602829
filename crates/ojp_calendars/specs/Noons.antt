-- Noons by the table of a zone file.
use Rattle.std.specs.Prelude.{◌≡◌, ℕ, ℤ, pos, neg_ℤ, ◌+◌, ◌*◌, ◌-◌, ◌≤◌, ◌+ℤ◌, ◌-ℤ◌, ◌≤ℤ◌, List, Some, slice_index}
use Rattle.jiff_core.specs.Timestamp.{nanos_of_seconds}
use Rattle.jiff_tz.specs.declared.tzif.Tzif.{Tzif}
use Rattle.jiff_tz.specs.Tzif as Table
use Rattle.ojp_values.specs.declared.moments.TheConstants.{FIRST_DAY}
use Rattle.ojp_zones.specs.Parts.{Text}
use Rattle.ojp_zones.specs.Noons.{IsNoon}
use Rattle.ojp_zones.specs.Zones.{zone_of}
use Rattle.ojp_zones.specs.declared.zone.Zone.{Zone}

-- the seconds that the clock is ahead of UTC at a moment, in seconds since 1970-01-01T00:00:00Z
unfoldable pub clock_at : Tzif → ℤ → ℤ
clock_at table second = (Table.offset_at table (nanos_of_seconds second)).seconds

abbrev pub ClockWithin : ℤ → Type 0
ClockWithin east = (neg_ℤ (pos 93_599) ≤ℤ east) × (east ≤ℤ pos 93_599)

-- noon of the day, as the clock shows it
abbrev pub noon_shown : ℕ → ℤ
noon_shown day = pos (86_400 * day + 43_200)

-- the seconds that the clock is ahead of UTC about the noon of the day
unfoldable pub east_at : Tzif → ℕ → ℤ
east_at table day = clock_at table (noon_shown day -ℤ clock_at table (noon_shown day))

-- at the moment the clock shows noon of the day
abbrev pub ShowsNoon : Tzif → ℕ → ℕ → Type 0
ShowsNoon table day moment = pos moment +ℤ clock_at table (pos moment) ≡ noon_shown day

-- at each of these noons from the first day of the window to the last, the clock shows noon of the day
abbrev pub HaveNoons : Tzif → ℕ → ℕ → List ℕ → Type 0
HaveNoons table first last noons = (day : ℕ) → first ≤ day → day ≤ last → ShowsNoon table day (slice_index noons (day - FIRST_DAY))

-- the text names a zone, and on each day of the window the clock shows noon at the zone's noon
pub record Fits (table : Tzif) (first last : ℕ) (text : Text) : Type 0 where
  pub zone : Zone
  pub named : zone_of text ≡ Some zone
  pub noon : (day moment : ℕ) → first ≤ day → day ≤ last → IsNoon zone day moment → ShowsNoon table day moment
