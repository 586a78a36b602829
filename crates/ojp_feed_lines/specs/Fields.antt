-- Fields of the rows of a feed.
use Rattle.std.specs.Prelude.{◌≢◌, ◌≤◌, ℕ, ◌+◌, ◌-◌, ◌*◌, ◌==◌, ◌&&◌, Bool, true, false, cond, if◌then◌else◌, codes, bytes_eq, length, nat_le, nat_lt, slice_index, slice_range, not, ◌++◌, Option, Some, None}
use Rattle.ojp_values.specs.Dates.{date_of, two, four}
use Rattle.ojp_values.specs.declared.dates.CalendarDate.{CalendarDate}
use Rattle.ojp_values.specs.Numbers.{are_digits, number}
use Rattle.ojp_zones.specs.Numbers.{is_pair, number_if}
use Rattle.ojp_zones.specs.Parts.{Text}
use Rattle.ojp_feed_rows.specs.declared.stops.LocationKind.{LocationKind}
use Rattle.ojp_feed_rows.specs.declared.stops.LocationKind.TheVariants.{Platform, Station, Entrance, Node, BoardingArea}
use Rattle.ojp_feed_rows.specs.declared.trips.Access.{Access}
use Rattle.ojp_feed_rows.specs.declared.trips.Access.TheVariants.{Open, OnDemand, Closed}

-- one to ten digits that write a number up to most
unfoldable pub is_count : ℕ → Text → Bool
is_count most text = nat_le (length text) 10 && are_digits text && nat_le (number text) most

-- the hours of a time: what stands before its last six bytes
abbrev pub hours : Text → Text
hours text = slice_range text 0 (length text - 6)

-- the minutes of a time
abbrev pub minutes : Text → Text
minutes text = slice_range text (length text - 5) (length text - 3)

-- the seconds of a time
abbrev pub seconds : Text → Text
seconds text = slice_range text (length text - 2) (length text)

-- one to three digits of hours, a colon (58), two of minutes, a colon, two of seconds
unfoldable pub is_time : Text → Bool
is_time text =
    nat_le 7 (length text) && nat_le (length text) 9
    && slice_index text (length text - 6) == 58 && slice_index text (length text - 3) == 58
    && is_count 999 (hours text) && is_pair 59 (minutes text) && is_pair 59 (seconds text)

-- the seconds that the time has
abbrev pub time_of : Text → ℕ
time_of text = 3600 * number (hours text) + 60 * number (minutes text) + number (seconds text)

-- the value, where the text is of the form
abbrev pub value_if : {A : Type 0} → Bool → A → Option A
value_if is value = cond is (Some value) None

-- a time, where the field is not empty
abbrev pub empty_or_time : Text → Option (Option ℕ)
empty_or_time text = if length text == 0 then Some None else if is_time text then Some (Some (time_of text)) else None

-- a date is spelled YYYYMMDD
abbrev pub compact : CalendarDate → Text
compact date = four date.year ++ two date.month ++ two date.day

-- a day is spelled as its date
abbrev pub compact_day : ℕ → Text
compact_day day = compact (date_of day)

-- no date from 1970-01-03 to 2199-12-28
abbrev pub IsNoDate : Text → Type 0
IsNoDate text = (day : ℕ) → (2 ≤ day) × (day ≤ 84002) → compact_day day ≢ text

abbrev pub flag_of : Text → Option Bool
flag_of text = if bytes_eq text (codes "0") then Some false else if bytes_eq text (codes "1") then Some true else None

-- an `exact_times`, which may be empty
abbrev pub exact_of : Text → Option Bool
exact_of text = if length text == 0 then Some false else flag_of text

-- an `exception_type`: the service runs, or does not
abbrev pub exception_kind_of : Text → Option Bool
exception_kind_of text = if bytes_eq text (codes "1") then Some true else if bytes_eq text (codes "2") then Some false else None

-- the seconds between two departures: a count from 1 to 3,600,000
unfoldable pub is_headway : Text → Bool
is_headway text = is_count 3600000 text && nat_lt 0 (number text)

-- a `transfer_type`, which may be empty
abbrev pub transfer_kind_of : Text → Option ℕ
transfer_kind_of text = if length text == 0 then Some 0 else number_if (is_count 5 text) text

-- a `min_transfer_time`, where the field is not empty
abbrev pub empty_or_seconds : Text → Option (Option ℕ)
empty_or_seconds text = if length text == 0 then Some None else if is_count 4294967295 text then Some (Some (number text)) else None

-- a `pickup_type` or `drop_off_type`
abbrev pub access_of : Text → Option Access
access_of text =
    if bytes_eq text (codes "") then Some Open
    else if bytes_eq text (codes "0") then Some Open
    else if bytes_eq text (codes "1") then Some Closed
    else if bytes_eq text (codes "2") then Some OnDemand
    else if bytes_eq text (codes "3") then Some OnDemand
    else None

-- a `location_type`
abbrev pub location_of : Text → Option LocationKind
location_of text =
    if bytes_eq text (codes "") then Some Platform
    else if bytes_eq text (codes "0") then Some Platform
    else if bytes_eq text (codes "1") then Some Station
    else if bytes_eq text (codes "2") then Some Entrance
    else if bytes_eq text (codes "3") then Some Node
    else if bytes_eq text (codes "4") then Some BoardingArea
    else None

-- a `continuous_pickup` or `continuous_drop_off` that promises something
abbrev pub is_continuous : Text → Bool
is_continuous text = not (bytes_eq text (codes "")) && not (bytes_eq text (codes "1"))
