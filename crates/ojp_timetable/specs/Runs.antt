-- The runs of a timetable, their moments and their rides.
use Rattle.std.specs.Prelude.{◌≡◌, ◌≢◌, ℕ, ◌+◌, ◌-◌, ◌*◌, ◌%◌, ◌<◌, ◌≤◌, Bool, true, List, [], ◌∷◌, ◌⊎◌, Option, Some, None, IsSome, slice_get, slice_index, unwrap_or, length}
use Rattle.std.specs.List.{sum_by}
use Rattle.ojp_values.specs.Dates.{operating_days}
use Rattle.ojp_values.specs.Lists.{Among, Each}
use Rattle.ojp_values.specs.Texts.{Text, home, is_exchange}
use Rattle.ojp_values.specs.declared.moments.TheConstants.{FIRST_DAY, LAST_DAY, LAST_SECOND}
use Rattle.ojp_values.specs.declared.trips.Leg.{Leg}
use Rattle.ojp_values.specs.declared.trips.Point.{Point}
use Rattle.ojp_timetable.specs.Tables.{Timetable, Journey, Service, Call, Place, name_of}
use Rattle.ojp_timetable.specs.Points.{AreWellPoints}

-- the last moment that a document can spell: 2199-12-31T23:59:59Z
abbrev pub last_moment : ℕ
last_moment = LAST_SECOND

-- the requested day: a journey ends at most so many seconds after the asked start
abbrev pub day_long : ℕ
day_long = 86400

-- 0 for Monday; day 0 is Thursday 1970-01-01
abbrev pub weekday : ℕ → ℕ
weekday day = (day + 3) % 7

-- the service runs on the operating day
pub record RunsOn (table : Timetable) (service day : ℕ) : Type 0 where
  pub dates : Service
  pub at : slice_get table.services service ≡ Some dates
  pub first : dates.first ≤ day
  pub last : day ≤ dates.last
  pub marked : slice_get dates.marks (weekday day) ≡ Some true
  pub low : FIRST_DAY ≤ day
  pub high : day ≤ LAST_DAY

-- an operating day begins twelve hours before its noon
unfoldable pub moment : Timetable → ℕ → ℕ → ℕ
moment table day offset = (slice_index table.noons (day - FIRST_DAY) - 43200) + offset

-- the leg of a ride on the day, from one call to another
abbrev pub leg_of : Timetable → Journey → ℕ → Text → ℕ → Text → ℕ → Leg
leg_of table journey day board leaves alight comes =
    record {
      region = table.region;
      journey = journey.id;
      line = journey.line;
      day = day;
      board = board;
      board_name = unwrap_or (name_of table board) [];
      departs = moment table day leaves;
      alight = alight;
      alight_name = unwrap_or (name_of table alight) [];
      arrives = moment table day comes;
    }

-- the leg is that of a ride: of a run, from its call i to its later call j
pub record IsLeg (table : Timetable) (leg : Leg) : Type 0 where
  pub journey : Journey
  pub day : ℕ
  pub i : ℕ
  pub j : ℕ
  pub board : Call
  pub alight : Call
  pub leaves : ℕ
  pub comes : ℕ
  pub of_table : Among journey table.journeys
  pub runs : RunsOn table journey.service day
  pub later : i < j
  pub board_at : slice_get journey.calls i ≡ Some board
  pub alight_at : slice_get journey.calls j ≡ Some alight
  pub leaves_at : board.departs ≡ Some leaves
  pub comes_at : alight.arrives ≡ Some comes
  pub is : leg ≡ leg_of table journey day board.stop leaves alight.stop comes

-- no time in the call is before t
abbrev pub NotBefore : ℕ → Option ℕ → Type 0
NotBefore t None = Unit {0}
NotBefore t (Some u) = t ≤ u

-- the time that was seen last
abbrev pub latest : ℕ → Option ℕ → ℕ
latest t None = t
latest t (Some u) = u

-- no time of the calls is before one above it
abbrev pub NoneFalls : ℕ → List Call → Type 0
NoneFalls t [] = Unit {0}
NoneFalls t (call ∷ calls) =
    NotBefore t call.arrives × NotBefore (latest t call.arrives) call.departs × NoneFalls (latest (latest t call.arrives) call.departs) calls

-- the calls behind the first: each arrives, and each departs but the last
abbrev pub GoToEnd : List Call → Type 0
GoToEnd [] = ⊥
GoToEnd (call ∷ []) = IsSome call.arrives × (call.departs ≡ None)
GoToEnd (call ∷ next ∷ more) = IsSome call.arrives × IsSome call.departs × GoToEnd (next ∷ more)

-- at least two calls: the first departs and has no arrival, the last arrives and has no departure, each between has both
abbrev pub AreWhole : List Call → Type 0
AreWhole [] = ⊥
AreWhole (call ∷ calls) = (call.arrives ≡ None) × IsSome call.departs × GoToEnd calls

-- no two of the journeys have one label
abbrev pub HaveOwnLabels : List Journey → Type 0
HaveOwnLabels [] = Unit {0}
HaveOwnLabels (journey ∷ more) = Each (λ (other : Journey). journey.id ≢ other.id) more × HaveOwnLabels more

-- the first and the last day are operating days and do not fall, and there is a mark for each weekday
abbrev pub AreDays : ℕ → ℕ → List Bool → Type 0
AreDays first last marks = (FIRST_DAY ≤ first) × (first ≤ last) × (last ≤ LAST_DAY) × (length marks ≡ 7)

-- the exchange point is at the place, with its change time
abbrev pub IsAt : Point → Place → Type 0
IsAt point place = (point.stop ≡ place.stop) × (point.change ≡ place.change)

-- how many calls all journeys have
abbrev pub calls_of : List Journey → ℕ
calls_of journeys = sum_by (λ (journey : Journey). length journey.calls) journeys

-- at most 5,000 stops with the exchange points, 1,000 services, 20,000 journeys and 100,000 calls
pub record AreFew (places : List Place) (services : List Service) (journeys : List Journey) : Type 0 where
  pub places_few : length places ≤ 5000
  pub services_few : length services ≤ 1000
  pub journeys_few : length journeys ≤ 20000
  pub calls_few : calls_of journeys ≤ 100000

-- the offset is at most that of a day and a half
abbrev pub IsOffset : Option ℕ → Type 0
IsOffset None = Unit {0}
IsOffset (Some u) = u ≤ 129600

-- the stop is an own stop of the region, or one of its exchange points
abbrev pub IsOfRegion : Timetable → Text → Type 0
IsOfRegion table stop = (home stop ≡ Some table.region) ⊎ ((point : Point) × Among point table.points × (point.stop ≡ stop))

-- a call is at a place of the table, within a day and a half
pub record IsWellCall (table : Timetable) (call : Call) : Type 0 where
  pub place : Place
  pub is_place : Among place table.places
  pub at : place.stop ≡ call.stop
  pub of_region : IsOfRegion table call.stop
  pub arrives : IsOffset call.arrives
  pub departs : IsOffset call.departs

-- what each timetable that was read keeps
pub record IsWell (table : Timetable) : Type 0 where
  pub services : (journey : Journey) → Among journey table.journeys → journey.service < length table.services
  pub dates : (service : Service) → Among service table.services → AreDays service.first service.last service.marks
  pub labels : HaveOwnLabels table.journeys
  pub shape : (journey : Journey) → Among journey table.journeys → AreWhole journey.calls
  pub times : (journey : Journey) → Among journey table.journeys → NoneFalls 0 journey.calls
  pub calls : (journey : Journey) → Among journey table.journeys → (call : Call) → Among call journey.calls → IsWellCall table call
  pub changes : (place : Place) → Among place table.places → (1 ≤ place.change) × (place.change ≤ 7200)
  pub one_each : (x y : Place) → Among x table.places → Among y table.places → x.stop ≡ y.stop → x ≡ y
  pub points : AreWellPoints table.region table.points
  pub shared : (place : Place) → Among place table.places → is_exchange place.stop ≡ true → (point : Point) × Among point table.points × IsAt point place
  pub placed : (point : Point) → Among point table.points → (place : Place) × Among place table.places × IsAt point place
  pub few : AreFew table.places table.services table.journeys
  pub days : length table.noons ≡ operating_days
  pub noons_low : (day : ℕ) → FIRST_DAY ≤ day → day ≤ LAST_DAY → 86400 * day + 43200 ≤ slice_index table.noons (day - FIRST_DAY) + 57540
  pub noons_high : (day : ℕ) → FIRST_DAY ≤ day → day ≤ LAST_DAY → slice_index table.noons (day - FIRST_DAY) ≤ 86400 * day + 43200 + 57540
