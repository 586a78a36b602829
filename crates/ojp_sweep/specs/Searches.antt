-- What a search keeps between its calls, and what it answers.
use Rattle.std.specs.Prelude.{◌≡◌, false, ℕ, ◌≤◌, ◌⊎◌}
use Rattle.ojp_sweep.specs.declared.connections.Connections.{Connections}
use Rattle.ojp_sweep.specs.declared.connections.Days.{Days}
use Rattle.ojp_sweep.specs.declared.connections.Asked.{Asked}
use Rattle.ojp_sweep.specs.declared.labels.Hop.{Hop}
use Rattle.ojp_sweep.specs.declared.searches.Sweep.{Sweep}
use Rattle.ojp_sweep.specs.Rides.{IsWell, Ride, IsRide, IsSearch, Arrives, Connects}
use Rattle.ojp_sweep.specs.Labels.{hop_of, AreLabels, IsClosed}
use Rattle.ojp_sweep.specs.Sweeps.{HasRoom}

-- the network is well, and there is room for it
pub record IsMade (sweep : Sweep) : Type 0 where
  pub well : IsWell sweep.net
  pub room : HasRoom sweep.progress sweep.net

-- what was found on the days from the origin at the start
pub record IsSweepOf (sweep : Sweep) (days : Days) (asked : Asked) : Type 0 where
  pub room : HasRoom sweep.progress sweep.net
  pub search : IsSearch sweep.net days asked
  pub start : sweep.asked.start ≡ asked.start
  pub whole : asked.in_round ≡ false
  pub labels : AreLabels sweep.progress.labels sweep.net days asked
  pub closed : IsClosed sweep.progress.labels.arrives.items sweep.progress.labels.ready.items sweep.net days

-- no chain arrives at the place
abbrev pub NeverArrives : Connections → Days → Asked → ℕ → Type 0
NeverArrives net days asked place = (a : ℕ) → Arrives net days asked place a → ⊥

-- a chain arrives at the moment, and none before
abbrev pub ArrivesFirst : Connections → Days → Asked → ℕ → ℕ → Type 0
ArrivesFirst net days asked place a = Arrives net days asked place a × ((b : ℕ) → Arrives net days asked place b → a ≤ b)

-- the ride begins at the origin, not before the start, or connects with the earliest arrival at a place
abbrev pub LeadsOn : Connections → Days → Asked → Ride → Type 0
LeadsOn net days asked ride =
    ((ride.from ≡ asked.origin) × (asked.start ≤ ride.departs)) ⊎ ((place : ℕ) × (a : ℕ) × ArrivesFirst net days asked place a × Connects net place a ride)

-- the hop is that of the last ride of a chain that arrives first, and the ride of its last but one ends with the earliest arrival there
pub record IsLastHop (net : Connections) (days : Days) (asked : Asked) (place : ℕ) (hop : Hop) : Type 0 where
  pub ride : Ride
  pub is_ride : IsRide net days ride
  pub hop_is : hop ≡ hop_of ride
  pub to : ride.to ≡ place
  pub first : ArrivesFirst net days asked place ride.arrives
  pub leads_on : LeadsOn net days asked ride
