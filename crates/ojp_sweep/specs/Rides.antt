-- Rides on the runs of four days, and chains of rides.
use Rattle.std.specs.Prelude.{◌≡◌, ℕ, ◌+◌, ◌*◌, ◌<◌, ◌≤◌, ◌^◌, ◌⊎◌, List, [], ◌∷◌, Some, true, false, length, slice_get, slice_index, slice_index_or}
use Rattle.std.specs.List.Sorted.{IsNonDecreasingBy}
use Rattle.ojp_sweep.specs.declared.connections.Connection.{Connection}
use Rattle.ojp_sweep.specs.declared.connections.Connections.{Connections}
use Rattle.ojp_sweep.specs.declared.connections.Walk.{Walk}
use Rattle.ojp_sweep.specs.declared.connections.Days.{Days}
use Rattle.ojp_sweep.specs.declared.connections.Asked.{Asked}

-- a chain ends at most so many seconds after the start
abbrev pub day_long : ℕ
day_long = 86400

-- the connection of that number
abbrev pub IsAt : Connections → ℕ → Connection → Type 0
IsAt net n connection = slice_get net.sorted.items n ≡ Some connection

-- the moment of the offset on the day
abbrev pub moment : Days → ℕ → ℕ → ℕ
moment days day offset = slice_index days.bases.items day + offset

-- the journey runs on the day
abbrev pub Runs : Connections → Days → ℕ → ℕ → Type 0
Runs net days journey day = slice_index_or days.running.items (4 * slice_index net.services.items journey + day) false ≡ true

-- the connection is between places, on a journey, and goes forward; its times are offsets in a day and a half
pub record IsWellAt (places journeys : ℕ) (connection : Connection) : Type 0 where
  pub from : connection.from < places
  pub to : connection.to < places
  pub journey : connection.journey < journeys
  pub forward : connection.departs ≤ connection.arrives
  pub offset : connection.arrives < 2 ^ 17

-- the walk is between places, takes a second at least, and stands among those of the place where it begins
pub record IsWellWalk (net : Connections) (k : ℕ) (walk : Walk) : Type 0 where
  pub from : walk.from < length net.changes.items
  pub to : walk.to < length net.changes.items
  pub seconds : 1 ≤ walk.seconds
  pub low : slice_index net.firsts.items walk.from ≤ k
  pub high : k < slice_index net.firsts.items (walk.from + 1)

-- the connections stand by their departures, and each change takes a second at least
pub record IsWell (net : Connections) : Type 0 where
  pub connections : (n : ℕ) (connection : Connection) → IsAt net n connection → IsWellAt (length net.changes.items) (length net.services.items) connection
  pub in_order : IsNonDecreasingBy (λ (connection : Connection). connection.departs) net.sorted.items
  -- those of one journey in the order of their positions, each once
  pub by_index : (n m : ℕ) (first last : Connection) → IsAt net n first → IsAt net m last → first.journey ≡ last.journey → n ≤ m → first.position ≤ last.position
  pub by_position : (n m : ℕ) (first last : Connection) → IsAt net n first → IsAt net m last → first.journey ≡ last.journey → first.position ≤ last.position → n ≤ m
  pub count : length net.sorted.items + 1 < 2 ^ 32
  pub changes : (place : ℕ) → place < length net.changes.items → 1 ≤ slice_index net.changes.items place
  pub walks : (k : ℕ) (walk : Walk) → slice_get net.walks.items k ≡ Some walk → IsWellWalk net k walk
  pub firsts : (place : ℕ) → slice_index net.firsts.items place ≤ length net.walks.items
  pub firsts_count : length net.firsts.items ≡ length net.changes.items + 1
  pub of_place : (place k : ℕ) (walk : Walk) → place < length net.changes.items → slice_index net.firsts.items place ≤ k → k < slice_index net.firsts.items (place + 1)
      → slice_get net.walks.items k ≡ Some walk → walk.from ≡ place

-- the days are those of the network's services
pub record AreDaysOf (days : Days) (net : Connections) : Type 0 where
  pub count : length days.bases.items ≡ 4
  pub bases : (day : ℕ) → slice_index days.bases.items day ≤ 2 ^ 40
  pub services : (journey : ℕ) → journey < length net.services.items → 4 * slice_index net.services.items journey + 4 ≤ length days.running.items

-- a search goes over the days of a network, from a moment on
pub record IsSearch (net : Connections) (days : Days) (asked : Asked) : Type 0 where
  pub well : IsWell net
  pub days_of : AreDaysOf days net
  pub start : asked.start ≤ 2 ^ 40

-- a ride of a run, from the connection that is boarded to that from which one alights, with the places and moments of its ends
pub record Ride : Type 0 where
  pub day : ℕ
  pub board : ℕ
  pub alight : ℕ
  pub from : ℕ
  pub departs : ℕ
  pub to : ℕ
  pub arrives : ℕ

-- the ride is on one run, from a connection to the same or a later one
pub record IsRide (net : Connections) (days : Days) (ride : Ride) : Type 0 where
  pub first : Connection
  pub last : Connection
  pub day : ride.day < 4
  pub first_at : IsAt net ride.board first
  pub last_at : IsAt net ride.alight last
  pub journey : first.journey ≡ last.journey
  pub in_order : first.position ≤ last.position
  pub runs : Runs net days first.journey ride.day
  pub from : ride.from ≡ first.from
  pub departs : ride.departs ≡ moment days ride.day first.departs
  pub to : ride.to ≡ last.to
  pub arrives : ride.arrives ≡ moment days ride.day last.arrives

-- the walk leads from the first place to the second, and takes so many seconds
pub record IsWalk (net : Connections) (p q seconds : ℕ) : Type 0 where
  pub k : ℕ
  pub walk : Walk
  pub at : slice_get net.walks.items k ≡ Some walk
  pub from : walk.from ≡ p
  pub to : walk.to ≡ q
  pub takes : walk.seconds ≡ seconds

-- one changes at the place in so many seconds
abbrev pub IsChange : Connections → ℕ → ℕ → ℕ → Type 0
IsChange net p q seconds = (p ≡ q) × (p < length net.changes.items) × (seconds ≡ slice_index net.changes.items p)

-- who arrived at the first place may board at the second so many seconds later: by a change, or by a walk
abbrev pub Transfers : Connections → ℕ → ℕ → ℕ → Type 0
Transfers net p q seconds = IsChange net p q seconds ⊎ IsWalk net p q seconds

-- who arrived at the place is in time for the ride
pub record Connects (net : Connections) (place arrived : ℕ) (ride : Ride) : Type 0 where
  pub seconds : ℕ
  pub transfer : Transfers net place ride.from seconds
  pub in_time : arrived + seconds ≤ ride.departs

-- from the place, where one arrived at the moment, the rides lead on to the place d, and arrive there at a
abbrev pub GoesOn : Connections → Days → ℕ → ℕ → List Ride → ℕ → ℕ → Type 0
GoesOn net days place arrived [] d a = (place ≡ d) × (arrived ≡ a)
GoesOn net days place arrived (ride ∷ rides) d a =
    IsRide net days ride × Connects net place arrived ride × GoesOn net days ride.to ride.arrives rides d a

-- the rides lead from the origin, not before the start, to the place d, and arrive there at a
abbrev pub Leads : Connections → Days → Asked → List Ride → ℕ → ℕ → Type 0
Leads net days asked [] d a = ⊥
Leads net days asked (ride ∷ rides) d a =
    IsRide net days ride × (ride.from ≡ asked.origin) × (asked.start ≤ ride.departs) × GoesOn net days ride.to ride.arrives rides d a

-- a chain of rides arrives at the place at the moment, within the day that begins at the start
abbrev pub Arrives : Connections → Days → Asked → ℕ → ℕ → Type 0
Arrives net days asked place a = (a ≤ asked.start + day_long) × ((rides : List Ride) × Leads net days asked rides place a)
