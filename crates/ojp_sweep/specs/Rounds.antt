-- Rounds: in each a chain has one ride more.
use Rattle.std.specs.Prelude.{◌≡◌, true, ℕ, ◌+◌, ◌<◌, ◌≤◌, ◌⊎◌, List, length, slice_index}
use Rattle.ojp_sweep.specs.declared.connections.Connections.{Connections}
use Rattle.ojp_sweep.specs.declared.connections.Days.{Days}
use Rattle.ojp_sweep.specs.declared.connections.Asked.{Asked}
use Rattle.ojp_sweep.specs.declared.searches.Sweep.{Sweep}
use Rattle.ojp_sweep.specs.Rides.{Ride, IsSearch, Transfers, Leads, day_long}
use Rattle.ojp_sweep.specs.Sweeps.{HasRoom}

-- a chain of so many rides at most arrives at the place at the moment, within the day that begins at the start
pub record ArrivesBy (net : Connections) (days : Days) (asked : Asked) (count place a : ℕ) : Type 0 where
  pub rides : List Ride
  pub few : length rides ≤ count
  pub leads : Leads net days asked rides place a
  pub within : a ≤ asked.start + day_long

-- no such chain arrives at the place
abbrev pub NeverArrivesBy : Connections → Days → Asked → ℕ → ℕ → Type 0
NeverArrivesBy net days asked count place = (a : ℕ) → ArrivesBy net days asked count place a → ⊥

-- such a chain arrives at the moment, and none before
abbrev pub ArrivesFirstBy : Connections → Days → Asked → ℕ → ℕ → ℕ → Type 0
ArrivesFirstBy net days asked count place a = ArrivesBy net days asked count place a × ((b : ℕ) → ArrivesBy net days asked count place b → a ≤ b)

-- such a chain and a transfer make one ready at the place at the moment
pub record IsMadeReady (net : Connections) (days : Days) (asked : Asked) (count place at : ℕ) : Type 0 where
  pub last : ℕ
  pub seconds : ℕ
  pub arrival : ℕ
  pub arrives : ArrivesBy net days asked count last arrival
  pub transfer : Transfers net last place seconds
  pub ready : arrival + seconds ≤ at

-- the row has the moments from which one may board after such chains: at the origin from the start on
pub record IsReadyBy (row : List ℕ) (net : Connections) (days : Days) (asked : Asked) (count : ℕ) : Type 0 where
  pub late : (place : ℕ) → place < length net.changes.items → asked.start ≤ slice_index row place
  pub origin : slice_index row asked.origin ≤ asked.start
  pub complete : (p q seconds a : ℕ) → ArrivesBy net days asked count p a → Transfers net p q seconds → slice_index row q ≤ a + seconds
  pub sound : (place : ℕ) → place < length net.changes.items → slice_index row place ≤ asked.start + day_long
      → ((place ≡ asked.origin) × (asked.start ≤ slice_index row place)) ⊎ IsMadeReady net days asked count place (slice_index row place)

-- the search is between rounds, after chains of so many rides
pub record IsInRounds (sweep : Sweep) (days : Days) (count : ℕ) : Type 0 where
  pub room : HasRoom sweep.progress sweep.net
  pub search : IsSearch sweep.net days sweep.asked
  pub in_round : sweep.asked.in_round ≡ true
  pub next : IsReadyBy sweep.progress.labels.next.items sweep.net days sweep.asked count

-- it is between some rounds
pub record HasRounds (sweep : Sweep) (days : Days) : Type 0 where
  pub count : ℕ
  pub is : IsInRounds sweep days count

-- and its labels are the earliest arrivals of the last round
pub record IsRoundOf (sweep : Sweep) (days : Days) (asked : Asked) (count : ℕ) : Type 0 where
  pub rounds : IsInRounds sweep days count
  pub asked_is : sweep.asked ≡ asked
  pub low : (place a : ℕ) → ArrivesBy sweep.net days asked count place a → slice_index sweep.progress.labels.arrives.items place ≤ a
  pub arrives : (place : ℕ) → place < length sweep.net.changes.items → slice_index sweep.progress.labels.arrives.items place ≤ asked.start + day_long
      → ArrivesBy sweep.net days asked count place (slice_index sweep.progress.labels.arrives.items place)
