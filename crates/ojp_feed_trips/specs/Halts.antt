-- The halts of a trip, and the rows that they stem from.
use Rattle.std.specs.Prelude.{◌≡◌, ℕ, ◌<◌, ◌≤◌, ◌&&◌, ◌||◌, Bool, false, ◌==◌, List, cond, Option, Some, None, option_map, unwrap_or, slice_get, slice_index_or, length}
use Rattle.std.specs.List.{All, AllPairs, filter, find, fold}
use Rattle.std.specs.Option.{option_or}
use Rattle.ojp_feed_rows.specs.declared.trips.StopTime.{StopTime}
use Rattle.ojp_feed_rows.specs.declared.trips.Trip.{Trip}
use Rattle.ojp_feed_trips.specs.declared.halts.Halt.{Halt}
use Rattle.ojp_feed_trips.specs.declared.weighing.Pattern.{Pattern}

-- when a row arrives: at its arrival, and at its departure where that is empty
abbrev pub arrival_of : StopTime → Option ℕ
arrival_of row = option_or row.arrival row.departure

-- when a row departs: at its departure, and at its arrival where that is empty
abbrev pub departure_of : StopTime → Option ℕ
departure_of row = option_or row.departure row.arrival

-- the place of a stop
abbrev pub place_of : List ℕ → ℕ → ℕ
place_of places stop = slice_index_or places stop stop

-- where a row has a time, it is this one; where it has none, any is
abbrev pub IsTime : Option ℕ → ℕ → Type 0
IsTime None time = Unit {0}
IsTime (Some given) time = time ≡ given

-- the halt stems from two rows of a trip, or one, at its place: it arrives when the first does and departs when the last does
pub record IsHalt (rows : List StopTime) (places : List ℕ) (halt : Halt) : Type 0 where
  pub comes : StopTime
  pub goes : StopTime
  pub comes_at : slice_get rows halt.first ≡ Some comes
  pub goes_at : slice_get rows halt.last ≡ Some goes
  pub order : halt.first ≤ halt.last
  pub comes_to : place_of places comes.stop ≡ halt.place
  pub goes_from : place_of places goes.stop ≡ halt.place
  pub arrives : IsTime (arrival_of comes) halt.arrives
  pub departs : IsTime (departure_of goes) halt.departs

-- one halt of two at one place
abbrev pub joined : Halt → Halt → Halt
joined before halt = record {
  place = before.place;
  arrives = before.arrives;
  departs = halt.departs;
  first = before.first;
  last = halt.last;
  boards = before.boards || halt.boards;
  alights = before.alights || halt.alights;
}

-- the rows of the one halt stand above those of the other
abbrev pub IsAbove : Halt → Halt → Type 0
IsAbove halt other = halt.last < other.first

-- the halts stem from rows of a trip, in their order
pub record AreHalts (rows : List StopTime) (places : List ℕ) (halts : List Halt) : Type 0 where
  pub each : All (IsHalt rows places) halts
  pub order : AllPairs IsAbove halts

-- the same of halts that stem from the first n rows
pub record AreFirstHalts (rows : List StopTime) (places : List ℕ) (halts : List Halt) (n : ℕ) : Type 0 where
  pub are : AreHalts rows places halts
  pub within : All (λ (halt : Halt). halt.last < n) halts

-- the first row of the first halt where passengers may board
abbrev pub first_boarding : List Halt → Option ℕ
first_boarding halts = option_map (λ (halt : Halt). halt.first) (find (λ (halt : Halt). halt.boards) halts)

-- the first row of a halt where passengers may alight, where none behind it is
abbrev pub or_alighting : Option ℕ → Halt → Option ℕ
or_alighting found halt = cond halt.alights (Some halt.first) found

-- the first row of the last halt where passengers may alight
abbrev pub last_alighting : List Halt → Option ℕ
last_alighting halts = fold or_alighting None halts

-- the halt begins at that row
abbrev pub begins_at : Option ℕ → Halt → Bool
begins_at None halt = false
begins_at (Some row) halt = row == halt.first

-- whether a halt is written, where passengers may board first at the one and alight last at the other: passengers may do both
-- there; or they may do one, and it is such an end or counts as open
abbrev pub stays : Option ℕ → Option ℕ → Bool → Halt → Bool
stays first last as_open halt =
    (halt.boards && halt.alights) || ((begins_at first halt || begins_at last halt || as_open) && (halt.boards || halt.alights))

abbrev pub departure_or_zero : Option StopTime → ℕ
departure_or_zero None = 0
departure_or_zero (Some row) = unwrap_or (departure_of row) 0

-- the halts that are written
abbrev pub open_halts : Bool → List Halt → List Halt
open_halts as_open halts = filter (λ (halt : Halt). stays (first_boarding halts) (last_alighting halts) as_open halt) halts

-- when the first row departs, and 0 where there is no such row or time
abbrev pub first_departure : List StopTime → ℕ
first_departure rows = departure_or_zero (slice_get rows 0)

-- a pattern of the trip of that number, whose stops have these places
pub record IsPattern (trip : Trip) (number : ℕ) (places : List ℕ) (pattern : Pattern) : Type 0 where
  pub trip_is : pattern.trip ≡ number
  pub begin_is : pattern.begin ≡ first_departure trip.stop_times.items
  pub stem : AreHalts trip.stop_times.items places pattern.halts.items
  pub two : 2 ≤ length pattern.halts.items
