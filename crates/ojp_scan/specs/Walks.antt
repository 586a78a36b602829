-- Legs that are found from the last to the first.
use Rattle.std.specs.Prelude.{◌≡◌, ℕ, ◌+◌, ◌<◌, ◌≤◌, List, ◌⊎◌, Some}
use Rattle.ojp_values.specs.Texts.{Text}
use Rattle.ojp_values.specs.declared.trips.Leg.{Leg}
use Rattle.ojp_timetable.specs.Tables.{Timetable, change_of}
use Rattle.ojp_timetable.specs.Runs.{IsLeg, leg_of}
use Rattle.ojp_timetable.specs.Journeys.{Standing, IsAt, reached, AllFollow, Follows}
use Rattle.ojp_sweep.specs.declared.connections.Connection.{Connection}
use Rattle.ojp_sweep.specs.Searches.{ArrivesFirst}
use Rattle.ojp_scan.specs.declared.scans.Scan.{Scan}
use Rattle.ojp_scan.specs.Networks.{place_number, IsConnection}

-- the one connection is boarded, and one alights from the same or a later one of its journey
pub record AreEnds (table : Timetable) (first last : Connection) : Type 0 where
  pub board : IsConnection table first
  pub alight : IsConnection table last
  pub journey : first.journey ≡ last.journey
  pub in_order : first.position ≤ last.position

-- the leg from the one to the other
abbrev pub leg_between : (table : Timetable) (day : ℕ) (first last : Connection) → AreEnds table first last → Leg
leg_between table day first last ends =
    leg_of table ends.board.of day ends.board.board.stop first.departs ends.alight.alight.stop last.arrives

-- the scan found that the first arrival at the place is at the moment
abbrev pub IsFirstAt : Scan → ℕ → ℕ → Type 0
IsFirstAt scan place a = ArrivesFirst scan.sweep.net scan.days scan.asked place a

-- the scan found an arrival at the place
abbrev pub IsArrivedAt : Scan → ℕ → Type 0
IsArrivedAt scan place = (a : ℕ) × IsFirstAt scan place a

-- one first arrives at the place in time to board there for the leg
pub record IsMet (scan : Scan) (table : Timetable) (leg : Leg) (place : ℕ) : Type 0 where
  pub arrival : ℕ
  pub first : IsFirstAt scan place arrival
  pub change : ℕ
  pub change_is : change_of table leg.board ≡ Some change
  pub in_time : arrival + change ≤ leg.departs

-- the leg begins at the origin, not before the start
abbrev pub Begins : Scan → Leg → ℕ → Type 0
Begins scan leg place = (place ≡ scan.asked.origin) × (scan.asked.start ≤ leg.departs)

-- the leg from the one place is the last to the other, where it arrives first
pub record IsLastLeg (scan : Scan) (table : Timetable) (leg : Leg) (from to : ℕ) : Type 0 where
  pub is_leg : IsLeg table leg
  pub board : place_number table leg.board ≡ Some from
  pub alight : place_number table leg.alight ≡ Some to
  pub first : IsFirstAt scan to leg.arrives
  pub leads_on : Begins scan leg from ⊎ IsMet scan table leg from

-- from where one stands, the legs lead on to the stop d, and arrive there at a
abbrev pub Onward : Timetable → Standing → List Leg → Text → ℕ → Type 0
Onward table at legs d a = AllFollow (Follows table) at legs × IsAt (reached at legs) d a

-- one walked back to the place, where the first arrival is before the moment, and the legs lead on from there to the stop d
pub record IsWalking (scan : Scan) (table : Timetable) (place before : ℕ) (legs : List Leg) (d : Text) (a : ℕ) : Type 0 where
  pub arrival : ℕ
  pub first : IsFirstAt scan place arrival
  pub early : arrival < before
  pub stop : Text
  pub at : place_number table stop ≡ Some place
  pub onward : Onward table (record { region = table.region; stop = stop; moment = arrival }) legs d a
