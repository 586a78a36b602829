-- Journeys of one region and of many regions together. A journey is the list of its legs.
use Rattle.std.specs.Prelude.{◌≡◌, ◌≢◌, ℕ, ◌+◌, ◌≤◌, List, [], ◌∷◌, ◌⊎◌, Some, length, if◌then◌else◌}
use Rattle.ojp_values.specs.Lists.{Among, Each}
use Rattle.ojp_values.specs.Texts.{Text, same}
use Rattle.ojp_values.specs.declared.trips.Leg.{Leg}
use Rattle.ojp_values.specs.declared.trips.Point.{Point}
use Rattle.ojp_values.specs.declared.trips.Neighbour.{Neighbour}
use Rattle.ojp_timetable.specs.Tables.{Timetable, change_of}
use Rattle.ojp_timetable.specs.Runs.{IsLeg, IsWell, day_long}

-- ---- where one stands

-- by the region one has reached the stop at the moment
pub record Standing : Type 0 where
  pub region : Text
  pub stop : Text
  pub moment : ℕ

-- one stands at the stop d, at the moment a
abbrev pub IsAt : Standing → Text → ℕ → Type 0
IsAt at d a = (at.stop ≡ d) × (at.moment ≡ a)

-- where a ride leads
abbrev pub alighted : Leg → Standing
alighted leg = record { region = leg.region; stop = leg.alight; moment = leg.arrives }

-- where the next leg leads
abbrev pub after : Standing → Leg → Standing
after at leg = alighted leg

-- where the legs lead
abbrev pub reached : Standing → List Leg → Standing
reached at [] = at
reached at (leg ∷ legs) = reached (after at leg) legs

-- each leg may follow where those before it lead
abbrev pub AllFollow : (Standing → Leg → Type 0) → Standing → List Leg → Type 0
AllFollow May at [] = Unit {0}
AllFollow May at (leg ∷ legs) = May at leg × AllFollow May (after at leg) legs

-- ---- one region

-- there is time to board the leg: the region's change time has passed
abbrev pub HasTime : Timetable → Standing → Leg → Type 0
HasTime table at leg = (change : ℕ) × (change_of table at.stop ≡ Some change) × (at.moment + change ≤ leg.departs)

-- the leg is a ride of the region that leaves where one stands, and there is time to board it
abbrev pub Follows : Timetable → Standing → Leg → Type 0
Follows table at leg = IsLeg table leg × (leg.board ≡ at.stop) × HasTime table at leg

-- the legs are rides of the region, leave o not before t, and arrive at d at a
abbrev pub Leads : Timetable → Text → ℕ → List Leg → Text → ℕ → Type 0
Leads table o t [] d a = ⊥
Leads table o t (leg ∷ legs) d a =
    IsLeg table leg × (leg.board ≡ o) × (t ≤ leg.departs) × AllFollow (Follows table) (alighted leg) legs × IsAt (reached (alighted leg) legs) d a

-- a regional journey from o at t to d, which arrives at a within the requested day
abbrev pub Regional : Timetable → Text → ℕ → Text → ℕ → List Leg → Type 0
Regional table o t d a legs = (o ≢ d) × (a ≤ t + day_long) × Leads table o t legs d a

-- a regional journey has 1 to 86,401 legs, since each change takes a second at least
abbrev pub LegsAreBounded : Type 0
LegsAreBounded =
    (table : Timetable) → IsWell table → (o : Text) (t : ℕ) (d : Text) (a : ℕ) (legs : List Leg) → Regional table o t d a legs
    → (1 ≤ length legs) × (length legs ≤ 86401)

-- some regional journey arrives at a
abbrev pub ArrivesWithin : Timetable → Text → ℕ → Text → ℕ → Type 0
ArrivesWithin table o t d a = (legs : List Leg) × Regional table o t d a legs

-- ---- many regions

-- the region has an exchange point at the stop, and declares the other region there with this change time
pub record Declares (table : Timetable) (stop other : Text) (change : ℕ) : Type 0 where
  pub point : Point
  pub of_table : Among point table.points
  pub at : point.stop ≡ stop
  pub neighbour : Neighbour
  pub listed : Among neighbour point.neighbours
  pub code : neighbour.code ≡ other
  pub time : neighbour.change ≡ change

-- at the stop one may change from the one region to the other, in so many seconds: each declares the other there
pub record IsCrossing (left : Timetable) (stop : Text) (right : Timetable) (change : ℕ) : Type 0 where
  pub other : left.region ≢ right.region
  pub back : ℕ
  pub left_declares : Declares left stop right.region back
  pub right_declares : Declares right stop left.region change

-- the leg is a ride of the other region that leaves where one stands, and the time for the change has passed
abbrev pub Crosses : Timetable → Standing → Timetable → Leg → Type 0
Crosses left at right leg =
    IsLeg right leg × (leg.board ≡ at.stop) × (change : ℕ) × IsCrossing left at.stop right change × (at.moment + change ≤ leg.departs)

-- the leg may follow where one stands, in the same region or by a change of region
abbrev pub MayFollow : List Timetable → Standing → Leg → Type 0
MayFollow tables at leg =
    ((table : Timetable) × Among table tables × (at.region ≡ table.region) × Follows table at leg)
    ⊎ ((left : Timetable) × (right : Timetable) × Among left tables × Among right tables × (at.region ≡ left.region) × Crosses left at right leg)

-- a row of legs of one region: from which stop, and where it leads
pub record Row : Type 0 where
  pub from : Text
  pub to : Standing

-- the rows, where one began at the stop `from` and has come here
abbrev pub rows_from : Text → Standing → List Leg → List Row
rows_from from at [] = record { from = from; to = at } ∷ []
rows_from from at (leg ∷ legs) =
    if same at.region leg.region then rows_from from (after at leg) legs else record { from = from; to = at } ∷ rows_from leg.board (after at leg) legs

-- the row ends at another stop than it began
abbrev pub LeadsElsewhere : Row → Type 0
LeadsElsewhere row = row.from ≢ row.to.stop

-- the ride is one of the timetables
abbrev pub IsRide : List Timetable → Leg → Type 0
IsRide tables leg = (table : Timetable) × Among table tables × IsLeg table leg

-- a united journey over the timetables, from o at t to d, which arrives at a within the requested day
abbrev pub United : List Timetable → Text → ℕ → Text → ℕ → List Leg → Type 0
United tables o t d a [] = ⊥
United tables o t d a (leg ∷ legs) =
    (o ≢ d) × (a ≤ t + day_long) × IsRide tables leg × (leg.board ≡ o) × (t ≤ leg.departs)
    × AllFollow (MayFollow tables) (alighted leg) legs × IsAt (reached (alighted leg) legs) d a × Each LeadsElsewhere (rows_from leg.board (alighted leg) legs)

-- some united journey arrives at a
abbrev pub Arrives : List Timetable → Text → ℕ → Text → ℕ → Type 0
Arrives tables o t d a = (legs : List Leg) × United tables o t d a legs

-- the timetables are well, and have a code of their own each
pub record AreTables (tables : List Timetable) : Type 0 where
  pub well : (table : Timetable) → Among table tables → IsWell table
  pub one_each : (x y : Timetable) → Among x tables → Among y tables → x.region ≡ y.region → x ≡ y
