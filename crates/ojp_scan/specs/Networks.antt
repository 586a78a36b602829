-- The network of a timetable: its hops with places in the stead of stops.
use Rattle.std.specs.Prelude.{◌≡◌, ℕ, ◌+◌, ◌*◌, ◌<◌, ◌≤◌, List, ◌++◌, map, Option, Some, length, slice_get, slice_index, position, bytes_eq, MatchOption}
use Rattle.indexmap.specs.IndexMap.{IndexMap, get}
use Rattle.ojp_values.specs.Texts.{Text}
use Rattle.ojp_timetable.specs.Tables.{Timetable, Journey, Place}
use Rattle.ojp_timetable.specs.declared.calls.Call.{Call}
use Rattle.ojp_timetable.specs.declared.kept.KeptCall.{KeptCall}
use Rattle.ojp_sweep.specs.declared.connections.Connection.{Connection}
use Rattle.ojp_sweep.specs.declared.connections.Connections.{Connections}
use Rattle.ojp_sweep.specs.declared.ranks.Counts.{Counts}
use Rattle.ojp_sweep.specs.declared.ranks.Ranks.{Ranks}
use Rattle.ojp_sweep.specs.Ranks.{AreCounted, ArePut}
use Rattle.ojp_sweep.specs.Rows.{IsNetworkOf}
use Rattle.ojp_scan.specs.Hops.{StandsBefore}

-- the number of the stop among the places of the table
abbrev pub place_number : Timetable → Text → Option ℕ
place_number table stop = position (λ (place : Place). bytes_eq stop place.stop) table.places

-- the call at that position of the journey is kept so: by the number of the place of its stop
pub record IsKeptAt (table : Timetable) (journey position : ℕ) (kept : KeptCall) : Type 0 where
  pub of : Journey
  pub call : Call
  pub at : slice_get table.journeys journey ≡ Some of
  pub call_at : slice_get of.calls position ≡ Some call
  pub arrives : kept.arrives ≡ call.arrives
  pub departs : kept.departs ≡ call.departs
  pub number : place_number table call.stop ≡ Some kept.place

-- the connection is a hop of the table: from a call of a journey to the next, between the places of their stops
pub record IsConnection (table : Timetable) (connection : Connection) : Type 0 where
  pub of : Journey
  pub board : Call
  pub alight : Call
  pub at : slice_get table.journeys connection.journey ≡ Some of
  pub board_at : slice_get of.calls connection.position ≡ Some board
  pub alight_at : slice_get of.calls (connection.position + 1) ≡ Some alight
  pub departs : board.departs ≡ Some connection.departs
  pub arrives : alight.arrives ≡ Some connection.arrives
  pub from : place_number table board.stop ≡ Some connection.from
  pub to : place_number table alight.stop ≡ Some connection.to

-- one of the rows is the hop from that position of the journey
pub record HasRow (rows : List Connection) (journey position : ℕ) : Type 0 where
  pub row : ℕ
  pub connection : Connection
  pub at : slice_get rows row ≡ Some connection
  pub journey_is : connection.journey ≡ journey
  pub position_is : connection.position ≡ position

-- the rows are the hops of the first journeys and the first of the next, by journey and position
pub record AreRowsUpTo (rows : List Connection) (table : Timetable) (journeys positions : ℕ) : Type 0 where
  pub sound : (row : ℕ) (connection : Connection) → slice_get rows row ≡ Some connection
      → IsConnection table connection × StandsBefore connection.journey connection.position journeys positions
  pub complete : (j p : ℕ) (journey : Journey) → slice_get table.journeys j ≡ Some journey → p + 1 < length journey.calls → StandsBefore j p journeys positions → HasRow rows j p
  pub rising : (i k : ℕ) (first last : Connection) → i < k → slice_get rows i ≡ Some first → slice_get rows k ≡ Some last
      → StandsBefore first.journey first.position last.journey last.position
  pub few : length rows ≤ 100000 * journeys + positions

-- the rows are the hops of all journeys
abbrev pub AreRowsOf : List Connection → Timetable → Type 0
AreRowsOf rows table = AreRowsUpTo rows table (length table.journeys) 0

-- the departures of the rows
abbrev pub departures : List Connection → List ℕ
departures rows = map (λ (connection : Connection). connection.departs) rows

-- the hops of the first journeys and the first of the next have been counted
pub record AreCountedUpTo (counts : Counts) (table : Timetable) (journeys positions : ℕ) : Type 0 where
  pub rows : List Connection
  pub rows_are : AreRowsUpTo rows table journeys positions
  pub counted : AreCounted counts (departures rows)

-- the hops of all journeys have been counted
abbrev pub AreCountedOf : Counts → Timetable → Type 0
AreCountedOf counts table = AreCountedUpTo counts table (length table.journeys) 0

-- the hops of all journeys have been counted, and those of the first journeys and the first of the next have been put
pub record ArePutUpTo (ranks : Ranks) (table : Timetable) (journeys positions : ℕ) : Type 0 where
  pub rows : List Connection
  pub more : List Connection
  pub rows_are : AreRowsUpTo rows table journeys positions
  pub all_are : AreRowsOf (rows ++ more) table
  pub put : ArePut ranks (departures (rows ++ more)) rows

-- the hops of all journeys have been put
abbrev pub ArePutOf : Ranks → Timetable → Type 0
ArePutOf ranks table = ArePutUpTo ranks table (length table.journeys) 0

-- each of the first journeys has its service
pub record HaveServices (services : List ℕ) (table : Timetable) (count : ℕ) : Type 0 where
  pub length_is : length services ≡ count
  pub is : (k : ℕ) (journey : Journey) → k < count → slice_get table.journeys k ≡ Some journey → slice_index services k ≡ journey.service

-- each of the first places has its change time
pub record HaveChanges (changes : List ℕ) (table : Timetable) (count : ℕ) : Type 0 where
  pub length_is : length changes ≡ count
  pub is : (k : ℕ) (place : Place) → k < count → slice_get table.places k ≡ Some place → slice_index changes k ≡ place.change

-- the network has the hops of the table, with the services of the journeys and the change times of the places
pub record IsNetworkFor (net : Connections) (table : Timetable) : Type 0 where
  pub rows : List Connection
  pub services : List ℕ
  pub changes : List ℕ
  pub rows_are : AreRowsOf rows table
  pub services_are : HaveServices services table (length table.journeys)
  pub changes_are : HaveChanges changes table (length table.places)
  pub is : IsNetworkOf net rows services changes

-- the first places have their numbers, and no other stop has one
abbrev pub HaveNumbers : {S : Type 0} → IndexMap Text ℕ S → Timetable → ℕ → Type 0
HaveNumbers numbers table count =
    (stop : Text) → MatchOption (get bytes_eq numbers stop)
    ((k : ℕ) (place : Place) → k < count → slice_get table.places k ≡ Some place → place.stop ≡ stop → ⊥)
    (λ number. place_number table stop ≡ Some number)
