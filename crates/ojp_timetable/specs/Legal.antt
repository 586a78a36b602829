-- Where a leg boards and alights among the calls of a journey.
use Rattle.std.specs.Prelude.{◌≡◌, ℕ, ◌<◌, ◌≤◌, ◌+◌, List, Some, slice_get}
use Rattle.ojp_values.specs.Texts.{Text}
use Rattle.ojp_values.specs.declared.trips.Leg.{Leg}
use Rattle.ojp_timetable.specs.declared.calls.Call.{Call}
use Rattle.ojp_timetable.specs.Tables.{Timetable, change_of, name_of}
use Rattle.ojp_timetable.specs.Runs.{IsLeg, IsOffset, day_long, moment}

-- the times of the calls are in range
abbrev pub AreOffsets : List Call → Type 0
AreOffsets calls = (k : ℕ) (call : Call) → slice_get calls k ≡ Some call → IsOffset call.arrives × IsOffset call.departs

-- the leg boards at the call
pub record Boards (table : Timetable) (leg : Leg) (call : Call) : Type 0 where
  pub stop : call.stop ≡ leg.board
  pub leaves : ℕ
  pub leaves_at : call.departs ≡ Some leaves
  pub departs : moment table leg.day leaves ≡ leg.departs

-- the leg alights at the call
pub record Alights (table : Timetable) (leg : Leg) (call : Call) : Type 0 where
  pub stop : call.stop ≡ leg.alight
  pub comes : ℕ
  pub comes_at : call.arrives ≡ Some comes
  pub arrives : moment table leg.day comes ≡ leg.arrives

-- the leg boards at the call of that number, and at none before it
pub record IsFirstBoard (table : Timetable) (leg : Leg) (calls : List Call) (i : ℕ) : Type 0 where
  pub call : Call
  pub at : slice_get calls i ≡ Some call
  pub boards : Boards table leg call
  pub before : (k : ℕ) (other : Call) → slice_get calls k ≡ Some other → k < i → Boards table leg other → ⊥

abbrev pub BoardsNowhere : Timetable → Leg → List Call → Type 0
BoardsNowhere table leg calls = (k : ℕ) (call : Call) → slice_get calls k ≡ Some call → Boards table leg call → ⊥

-- the leg alights at a call behind the one of that number
pub record AlightsBehind (table : Timetable) (leg : Leg) (calls : List Call) (from : ℕ) : Type 0 where
  pub number : ℕ
  pub behind : from < number
  pub call : Call
  pub at : slice_get calls number ≡ Some call
  pub alights : Alights table leg call

-- the leg has the names of its stops
abbrev pub HasNames : Timetable → Leg → Type 0
HasNames table leg = (name_of table leg.board ≡ Some leg.board_name) × (name_of table leg.alight ≡ Some leg.alight_name)

-- the leg is that of a ride which leaves the stop not before the moment
abbrev pub Begins : Timetable → Text → ℕ → Leg → Type 0
Begins table stop t leg = (leg.board ≡ stop) × (t ≤ leg.departs) × IsLeg table leg

-- the change time of the stop has passed between the moments
abbrev pub HasChanged : Timetable → Text → ℕ → ℕ → Type 0
HasChanged table stop arrives departs = (change : ℕ) × (change_of table stop ≡ Some change) × (arrives + change ≤ departs)

-- the leg is that of a ride which may follow the other
abbrev pub GoesOnBy : Timetable → Leg → Leg → Type 0
GoesOnBy table last leg = (leg.board ≡ last.alight) × HasChanged table last.alight last.arrives leg.departs × IsLeg table leg

-- the leg ends at the stop within the day from the moment on
abbrev pub Ends : Leg → Text → ℕ → Type 0
Ends leg stop t = (leg.alight ≡ stop) × (leg.arrives ≤ t + day_long)
