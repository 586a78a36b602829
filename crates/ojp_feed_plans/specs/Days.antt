-- The days of a service.
use Rattle.std.specs.Prelude.{◌≡◌, ℕ, ◌+◌, ◌-◌, ◌<◌, ◌==◌, ◌&&◌, Bool, false, cond, nat_le, min, max, List, [], Option, Some, None, length, slice_get, slice_index_or, unwrap_or}
use Rattle.std.specs.List.{AllZip, fold}
use Rattle.ojp_calendars.specs.Days.{boxes_over, weekday}
use Rattle.ojp_calendars.specs.declared.day_box.DayBox.{DayBox}
use Rattle.ojp_feed_rows.specs.declared.feed.Feed.{Feed}
use Rattle.ojp_feed_rows.specs.declared.services.Exception.{Exception}
use Rattle.ojp_feed_rows.specs.declared.services.Service.{Service}
use Rattle.ojp_feed_rows.specs.declared.services.Weekly.{Weekly}
use Rattle.ojp_feed_rows.specs.declared.settings.Window.{Window}

-- the row of `calendar.txt`, where there is one, has the day
abbrev pub runs_weekly : Option Weekly → ℕ → Bool
runs_weekly None day = false
runs_weekly (Some weekly) day = nat_le weekly.first day && nat_le day weekly.last && slice_index_or weekly.marks (weekday day) false

-- an exception decides on its day, and leaves each other as it was
abbrev pub excepted : ℕ → Bool → Exception → Bool
excepted day before exception = cond (exception.day == day) exception.runs before

-- the service runs on the day: by its row of `calendar.txt`, and where exceptions name the day by the last of these
unfoldable pub runs : Service → ℕ → Bool
runs service day = fold (excepted day) (runs_weekly service.weekly day) service.exceptions.items

-- the first and the last operating day of the window: operating days go from 1970-01-03, day 2, to 2199-12-28, day 84,002
abbrev pub first_of : Window → ℕ
first_of window = max window.first 2

abbrev pub last_of : Window → ℕ
last_of window = min window.last 84002

-- the day is an operating day of the window
abbrev pub is_within : Window → ℕ → Bool
is_within window day = nat_le (first_of window) day && nat_le day (last_of window)

-- for each day from the one to the other, whether the service runs on it
pub record AreDays (service : Service) (first last : ℕ) (days : List Bool) : Type 0 where
  pub long : length days ≡ (last + 1) - first
  pub each : (k : ℕ) → k < length days → slice_index_or days k false ≡ runs service (first + k)

-- each day of the window on which the service runs is under exactly one of the boxes, and no other day is under any
unfoldable pub AreBoxes : Service → Window → List DayBox → Type 0
AreBoxes service window boxes = (day : ℕ) → boxes_over day boxes ≡ cond (is_within window day && runs service day) 1 0

-- each service of the feed has such boxes
abbrev pub AreBoxesIn : Feed → List (List DayBox) → Type 0
AreBoxesIn feed all = AllZip (λ service boxes. AreBoxes service feed.window boxes) feed.services.items all

-- the boxes of the service of that number, and none where there is no such service
abbrev pub boxes_at : List (List DayBox) → ℕ → List DayBox
boxes_at all number = unwrap_or (slice_get all number) []

-- the boxes of the trip's service, and none where it has no service
abbrev pub boxes_of_service : List (List DayBox) → Option ℕ → List DayBox
boxes_of_service all None = []
boxes_of_service all (Some number) = boxes_at all number
