-- The journeys of a timetable and their calls, as the search reads them.
use Rattle.std.specs.Prelude.{◌≡◌, ℕ, ◌<◌, Some, length, slice_get}
use Rattle.ojp_timetable.specs.Tables.{Timetable, Journey}
use Rattle.ojp_timetable.specs.declared.calls.Call.{Call}
use Rattle.ojp_timetable.specs.declared.kept.JourneyView.{JourneyView}

-- the journey of that number
pub record IsJourneyAt (table : Timetable) (i : ℕ) (view : JourneyView) : Type 0 where
  pub journey : Journey
  pub at : slice_get table.journeys i ≡ Some journey
  pub id : view.id ≡ journey.id
  pub line : view.line ≡ journey.line
  pub service : view.service ≡ journey.service
  pub calls : view.calls ≡ length journey.calls

-- the journey of that number has a call there
pub record IsInJourney (table : Timetable) (i position : ℕ) : Type 0 where
  pub journey : Journey
  pub at : slice_get table.journeys i ≡ Some journey
  pub within : position < length journey.calls

-- the call at that position of the journey of that number
pub record IsCallOf (table : Timetable) (i position : ℕ) (call : Call) : Type 0 where
  pub journey : Journey
  pub at : slice_get table.journeys i ≡ Some journey
  pub call_at : slice_get journey.calls position ≡ Some call
