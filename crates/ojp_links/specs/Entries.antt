-- Lists of stop events and of exchange points that fit an ask.
use Rattle.std.specs.Prelude.{◌≡◌, ◌≢◌, ◌≤◌, List, [], ◌∷◌, length}
use Rattle.ojp_values.specs.Lists.{Each, IsRising}
use Rattle.ojp_values.specs.Texts.{Text}
use Rattle.ojp_values.specs.declared.asks.EventAsk.{EventAsk}
use Rattle.ojp_values.specs.declared.trips.Event.{Event}
use Rattle.ojp_values.specs.declared.trips.Neighbour.{Neighbour}
use Rattle.ojp_values.specs.declared.trips.Point.{Point}
use Rattle.ojp_timetable.specs.Answers.{event_lt}
use Rattle.ojp_timetable.specs.Points.{IsPointOf, neighbour_lt, point_lt}
use Rattle.ojp_links.specs.Fits.{FitsEvent}

-- at most the asked number of events of the region at the stop, in their order
abbrev pub AreEventsOf : Text → EventAsk → List Event → Type 0
AreEventsOf region ask events = (length events ≤ ask.number) × Each (FitsEvent region ask) events × IsRising event_lt events

-- at most 255 rising entries of the region
abbrev pub ArePointsOf : Text → List Point → Type 0
ArePointsOf region points = (length points ≤ 255) × Each (IsPointOf region) points × IsRising point_lt points

-- the neighbours rise by code, and none is the region itself
abbrev pub AreNeighboursOf : Text → List Neighbour → Type 0
AreNeighboursOf region neighbours = IsRising neighbour_lt neighbours × Each (λ (neighbour : Neighbour). neighbour.code ≢ region) neighbours

-- the entry is at the place, and of the region
abbrev pub IsPointAt : Text → Text → Point → Type 0
IsPointAt region place point = (point.stop ≡ place) × IsPointOf region point

-- the one entry of the place, and of the region
abbrev pub IsOnePoint : Text → Text → List Point → Type 0
IsOnePoint region place points = (point : Point) × (points ≡ point ∷ []) × (point.stop ≡ place) × IsPointOf region point
