-- What the labels of a search say.
use Rattle.std.specs.Prelude.{◌≡◌, ◌≢◌, ℕ, ◌+◌, ◌<◌, ◌≤◌, List, ◌⊎◌, Some, length, slice_get, slice_index, slice_set, Bool, true, false, MatchBool}
use Rattle.ojp_sweep.specs.declared.connections.Connections.{Connections}
use Rattle.ojp_sweep.specs.declared.connections.Walk.{Walk}
use Rattle.ojp_sweep.specs.declared.connections.Days.{Days}
use Rattle.ojp_sweep.specs.declared.connections.Asked.{Asked}
use Rattle.ojp_sweep.specs.declared.labels.Hop.{Hop}
use Rattle.ojp_sweep.specs.declared.labels.Labels.{Labels}
use Rattle.ojp_sweep.specs.Rides.{Ride, IsRide, IsChange, Transfers, day_long}

-- the ride without its ends
abbrev pub hop_of : Ride → Hop
hop_of ride = record { day = ride.day; board = ride.board; alight = ride.alight }

-- the label of the place is the arrival of a ride that one is ready for
pub record IsExplained (arrives ready : List ℕ) (hops : List Hop) (net : Connections) (days : Days) (place : ℕ) : Type 0 where
  pub ride : Ride
  pub is_ride : IsRide net days ride
  pub to : ride.to ≡ place
  pub arrives_at : ride.arrives ≡ slice_index arrives place
  pub hop : slice_get hops place ≡ Some (hop_of ride)
  pub in_time : slice_index ready ride.from ≤ ride.departs

-- a transfer from the label of a place makes one ready at the moment
pub record IsTransferred (arrives : List ℕ) (net : Connections) (place at : ℕ) : Type 0 where
  pub last : ℕ
  pub seconds : ℕ
  pub within : last < length arrives
  pub transfer : Transfers net last place seconds
  pub ready : slice_index arrives last + seconds ≤ at

-- one may board at the place from the moment on: at the origin from the start, and elsewhere after a transfer
abbrev pub IsReady : List ℕ → Connections → Asked → ℕ → ℕ → Type 0
IsReady arrives net asked place at = ((place ≡ asked.origin) × (asked.start ≤ at)) ⊎ IsTransferred arrives net place at

-- the moments that arrivals make ready: in a round those of the next
abbrev pub row_of : Bool → List ℕ → List ℕ → List ℕ
row_of true ready next = next
row_of false ready next = ready

-- the labels are right
pub record AreRight (arrives ready next : List ℕ) (hops : List Hop) (net : Connections) (days : Days) (asked : Asked) : Type 0 where
  pub arrives_count : length arrives ≡ length net.changes.items
  pub ready_count : length ready ≡ length net.changes.items
  pub next_count : length next ≡ length net.changes.items
  pub hops_count : length hops ≡ length net.changes.items
  pub high : (place : ℕ) → place < length net.changes.items → slice_index arrives place ≤ asked.start + 86401
  pub low : (place : ℕ) → place < length net.changes.items → asked.start ≤ slice_index ready place
  pub explained : (place : ℕ) → place < length net.changes.items → slice_index arrives place ≤ asked.start + day_long → IsExplained arrives ready hops net days place
  pub sound : (place : ℕ) → place < length net.changes.items → slice_index (row_of asked.in_round ready next) place ≤ asked.start + day_long
      → IsReady arrives net asked place (slice_index (row_of asked.in_round ready next) place)
  pub complete : (p q seconds : ℕ) → Transfers net p q seconds → slice_index (row_of asked.in_round ready next) q ≤ slice_index arrives p + seconds
  pub origin : slice_index (row_of asked.in_round ready next) asked.origin ≤ asked.start

abbrev pub AreLabels : Labels → Connections → Days → Asked → Type 0
AreLabels labels net days asked = AreRight labels.arrives.items labels.ready.items labels.next.items labels.hops.items net days asked

-- no ride that one is ready for arrives before the label of its end
abbrev pub IsClosed : List ℕ → List ℕ → Connections → Days → Type 0
IsClosed arrives ready net days =
    (ride : Ride) → IsRide net days ride → slice_index ready ride.from ≤ ride.departs → slice_index arrives ride.to ≤ ride.arrives

-- where one may board after an arrival at the place: no moment rose, each transfer from there is counted in, and nothing else
pub record IsReadied (old new : List ℕ) (net : Connections) (place arrival : ℕ) : Type 0 where
  pub count : length new ≡ length old
  pub falls : (q : ℕ) → slice_index new q ≤ slice_index old q
  pub complete : (q seconds : ℕ) → Transfers net place q seconds → slice_index new q ≤ arrival + seconds
  pub sound : (q : ℕ) → (slice_index new q ≡ slice_index old q) ⊎ ((seconds : ℕ) × Transfers net place q seconds × (slice_index new q ≡ arrival + seconds))

-- the number at the place is the lesser of what it was and the bound, and the others are as they were
pub record IsAtMost (old new : List ℕ) (place bound : ℕ) : Type 0 where
  pub count : length new ≡ length old
  pub here : slice_index new place ≤ bound
  pub falls : slice_index new place ≤ slice_index old place
  pub is : (slice_index new place ≡ slice_index old place) ⊎ (slice_index new place ≡ bound)
  pub others : (q : ℕ) → q ≢ place → slice_index new q ≡ slice_index old q

-- the same after the change and the first walks
pub record IsReadying (old new : List ℕ) (net : Connections) (place arrival walks : ℕ) : Type 0 where
  pub count : length new ≡ length old
  pub falls : (q : ℕ) → slice_index new q ≤ slice_index old q
  pub change : (q seconds : ℕ) → IsChange net place q seconds → slice_index new q ≤ arrival + seconds
  pub walked : (k : ℕ) (walk : Walk) → slice_index net.firsts.items place ≤ k → k < walks → slice_get net.walks.items k ≡ Some walk → slice_index new walk.to ≤ arrival + walk.seconds
  pub sound : (q : ℕ) → (slice_index new q ≡ slice_index old q) ⊎ ((seconds : ℕ) × Transfers net place q seconds × (slice_index new q ≡ arrival + seconds))

-- an arrival at the place was counted in: in a round for the next, and else at once
abbrev pub IsConnected : Bool → Labels → Labels → Connections → ℕ → ℕ → Type 0
IsConnected in_round old new net place arrival =
    MatchBool in_round
    (IsReadied old.next.items new.next.items net place arrival × (new.ready.items ≡ old.ready.items))
    (IsReadied old.ready.items new.ready.items net place arrival × (new.next.items ≡ old.next.items))

-- the label of the place was lowered to the arrival, or was not above it
abbrev pub IsLowered : Labels → Labels → Connections → Bool → ℕ → ℕ → Hop → Type 0
IsLowered old new net in_round place arrival hop =
    ((arrival < slice_index old.arrives.items place) × (new.arrives.items ≡ slice_set old.arrives.items place arrival)
    × IsConnected in_round old new net place arrival × (new.hops.items ≡ slice_set old.hops.items place hop))
    ⊎ ((slice_index old.arrives.items place ≤ arrival) × (new.arrives.items ≡ old.arrives.items) × (new.ready.items ≡ old.ready.items) × (new.next.items ≡ old.next.items) × (new.hops.items ≡ old.hops.items))

-- labels fell, and at the moment and before one may board where one could before, and nowhere else
pub record FallAfter (at : ℕ) (old new : Labels) : Type 0 where
  pub arrives : (place : ℕ) → slice_index new.arrives.items place ≤ slice_index old.arrives.items place
  pub ready : (place : ℕ) → slice_index new.ready.items place ≤ slice_index old.ready.items place
  pub final : (place t : ℕ) → t ≤ at → slice_index new.ready.items place ≤ t → slice_index old.ready.items place ≤ t

-- one may board at the origin alone, from the start on
pub record IsRestarted (old new : List ℕ) (asked : Asked) : Type 0 where
  pub count : length new ≡ length old
  pub others : (place : ℕ) → place < length old → place ≢ asked.origin → slice_index new place ≡ asked.start + 86401
  pub origin : asked.origin < length old → slice_index new asked.origin ≡ asked.start

-- no place was reached, and arrivals made nothing ready
pub record IsCleared (old new : Labels) (asked : Asked) : Type 0 where
  pub arrives_count : length new.arrives.items ≡ length old.arrives.items
  pub hops : new.hops.items ≡ old.hops.items
  pub arrives : (place : ℕ) → place < length old.arrives.items → slice_index new.arrives.items place ≡ asked.start + 86401
  pub rows : MatchBool asked.in_round
      (IsRestarted old.next.items new.next.items asked × (new.ready.items ≡ old.ready.items))
      (IsRestarted old.ready.items new.ready.items asked × (new.next.items ≡ old.next.items))

-- in a round one boards by the same row
abbrev pub KeepsReady : Asked → Labels → Labels → Type 0
KeepsReady asked old new = asked.in_round ≡ true → new.ready.items ≡ old.ready.items

-- in a round nobody boards before the start
abbrev pub BoardsLate : Labels → Asked → Type 0
BoardsLate labels asked = asked.in_round ≡ true → (place : ℕ) → place < length labels.ready.items → asked.start ≤ slice_index labels.ready.items place
