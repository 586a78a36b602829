-- The departures of a trip.
use Rattle.std.specs.Prelude.{◌≡◌, ℕ, zero, suc, ◌+◌, ◌-◌, ◌*◌, ◌<◌, ◌⊎◌, cond, nat_lt, List, [], ◌∷◌, ◌++◌, max}
use Rattle.std.specs.List.{All, Contains, flat_map}
use Rattle.ojp_feed_rows.specs.declared.trips.Frequency.{Frequency}
use Rattle.ojp_feed_rows.specs.declared.trips.Trip.{Trip}
use Rattle.ojp_feed_trips.specs.Halts.{first_departure}

-- a departure of the row: so many times its headway behind its start, before its end
pub record IsRepeat (row : Frequency) (start : ℕ) : Type 0 where
  pub times : ℕ
  pub at : start ≡ row.start + times * max row.headway 1
  pub before : start < row.end

-- a departure of a row of the list
pub record IsRepeatOf (rows : List Frequency) (start : ℕ) : Type 0 where
  pub row : Frequency
  pub among : Contains rows row
  pub repeats : IsRepeat row start

-- a departure of the trip from its first row: that of the row, or where it has rows of `frequencies.txt` one of theirs
abbrev pub IsStart : Trip → ℕ → Type 0
IsStart trip start = ((trip.frequencies.items ≡ []) × (start ≡ first_departure trip.stop_times.items)) ⊎ IsRepeatOf trip.frequencies.items start

-- departures from the next one on, the headway apart, each before the close, and at most n of them
abbrev pub repeats_from : ℕ → ℕ → ℕ → ℕ → List ℕ
repeats_from zero next close headway = []
repeats_from (suc n) next close headway = cond (nat_lt next close) (next ∷ repeats_from n (next + headway) close headway) []

-- the departures of a row, in their order; its headway is at least 1, so that there are no more than seconds
unfoldable pub repeats : Frequency → List ℕ
repeats row = repeats_from (row.end - row.start) row.start row.end (max row.headway 1)

-- the departures of rows, or the one at that time where there are no rows
abbrev pub departures_or : ℕ → List Frequency → List ℕ
departures_or first [] = first ∷ []
departures_or first (row ∷ rows) = flat_map repeats (row ∷ rows)

-- all departures of a trip from its first row, in their order; one that two rows have stands twice
abbrev pub departures : Trip → List ℕ
departures trip = departures_or (first_departure trip.stop_times.items) trip.frequencies.items

-- the new list is the old one and departures of the row
pub record AddsRepeats (row : Frequency) (old new : List ℕ) : Type 0 where
  pub more : List ℕ
  pub joined : new ≡ old ++ more
  pub each : All (IsRepeat row) more
