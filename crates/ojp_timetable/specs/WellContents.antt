-- What the contents of lines that pass keep.
use Rattle.std.specs.Prelude.{◌≡◌, ◌≤◌, ◌<◌, ℕ, true, false, List, [], ◌∷◌, None, IsSome, length}
use Rattle.ojp_values.specs.Dates.{operating_days}
use Rattle.ojp_values.specs.Lists.{Among, Each}
use Rattle.ojp_values.specs.Texts.{is_exchange}
use Rattle.ojp_values.specs.declared.trips.Point.{Point}
use Rattle.ojp_timetable.specs.Tables.{Call, Journey, Place, Service}
use Rattle.ojp_timetable.specs.Points.{AreWellPoints}
use Rattle.ojp_timetable.specs.Runs.{AreDays, AreFew, HaveOwnLabels, IsAt, AreWhole, IsWellCall, NoneFalls, latest}
use Rattle.ojp_timetable.specs.Contents.{Contents, timetable_of}
use Rattle.ojp_zones.specs.Noons.{AreNear, IsZone}
use Rattle.ojp_timetable.specs.Lines.{Above}
use Rattle.ojp_timetable.specs.Checks.{is_doubled, is_falling, is_foreign, is_full, lacks_service, lacks_stop}
use Rattle.ojp_timetable.specs.Said.{is_closed}
use Rattle.ojp_timetable.specs.declared.file.above.TheConstants.{BYTES}
use Rattle.ojp_timetable.specs.declared.file.lines.Line.{Line}
use Rattle.ojp_timetable.specs.declared.file.lines.Line.TheVariants.{Header, Region, Zone, Call as CallLine}
use Rattle.ojp_timetable.specs.declared.file.lines.Open.{Open}
use Rattle.ojp_timetable.specs.declared.file.lines.Open.TheVariants.{Nothing, Begun, Since}

-- the journeys are of services that stand above and have labels of their own, and their times do not fall; their
-- calls are at places that stand above; no two places have one reference; the exchange points are those among the
-- places; no limit is passed
pub record IsWellContents (contents : Contents) : Type 0 where
  pub services : (journey : Journey) → Among journey contents.journeys → journey.service < length contents.services
  pub dates : (service : Service) → Among service contents.services → AreDays service.first service.last service.marks
  pub labels : HaveOwnLabels contents.journeys
  pub times : (journey : Journey) → Among journey contents.journeys → NoneFalls 0 journey.calls
  pub calls : (journey : Journey) → Among journey contents.journeys → (call : Call) → Among call journey.calls → IsWellCall (timetable_of contents []) call
  pub changes : (place : Place) → Among place contents.places → (1 ≤ place.change) × (place.change ≤ 7200)
  pub one_each : (x y : Place) → Among x contents.places → Among y contents.places → x.stop ≡ y.stop → x ≡ y
  pub shared : (place : Place) → Among place contents.places → is_exchange place.stop ≡ true → (point : Point) × Among point contents.points × IsAt point place
  pub placed : (point : Point) → Among point contents.points → (place : Place) × Among place contents.places × IsAt point place
  pub few : AreFew contents.places contents.services contents.journeys

-- the last time of the calls, from t on
abbrev pub last_time : ℕ → List Call → ℕ
last_time t [] = t
last_time t (call ∷ calls) = last_time (latest (latest t call.arrives) call.departs) calls

-- the last journey has come to the time
abbrev pub HasCome : List Journey → ℕ → Type 0
HasCome [] time = Unit {0}
HasCome (journey ∷ []) time = last_time 0 journey.calls ≡ time
HasCome (journey ∷ next ∷ more) time = HasCome (next ∷ more) time

-- an open journey has come to what stands open
abbrev pub EndsOpen : Open → List Journey → Type 0
EndsOpen Nothing journeys = Unit {0}
EndsOpen Begun journeys = HasCome journeys 0
EndsOpen (Since departs) journeys = HasCome journeys departs

-- the calls of a journey that goes on: the first departs and has no arrival, and each other has both
abbrev pub AreBegun : List Call → Type 0
AreBegun [] = ⊥
AreBegun (call ∷ calls) = (call.arrives ≡ None) × IsSome call.departs × Each (λ (next : Call). IsSome next.arrives × IsSome next.departs) calls

-- the calls of the last journey, by what stands open
abbrev pub StandOpen : Open → List Call → Type 0
StandOpen Nothing calls = AreWhole calls
StandOpen Begun calls = calls ≡ []
StandOpen (Since departs) calls = AreBegun calls

-- each journey is whole, but that the last may stand open
abbrev pub AreWholeBut : Open → List Journey → Type 0
AreWholeBut left [] = Unit {0}
AreWholeBut left (journey ∷ []) = StandOpen left journey.calls
AreWholeBut left (journey ∷ next ∷ more) = AreWhole journey.calls × AreWholeBut left (next ∷ more)

-- the call goes on with what stands open: the first of a journey departs and has no arrival, and each other arrives
abbrev pub GoesOnFrom : Open → Call → Type 0
GoesOnFrom Nothing call = ⊥
GoesOnFrom Begun call = (call.arrives ≡ None) × IsSome call.departs
GoesOnFrom (Since departs) call = IsSome call.arrives

-- the line may stand behind what is left open
abbrev pub MayStand : Open → Line → Type 0
MayStand left Header = Unit {0}
MayStand left (Region code) = Unit {0}
MayStand left (Zone zone) = Unit {0}
MayStand left (CallLine call) = GoesOnFrom left call
MayStand left _ = is_closed left ≡ true

-- the line may stand where no journey is open
abbrev pub MayStandClosed : Line → Type 0
MayStandClosed line = (left : Open) → is_closed left ≡ true → MayStand left line

-- the line fails no check that speaks of the lines above
pub record Passes (contents : Contents) (left : Open) (line : Line) : Type 0 where
  pub own : is_foreign contents line ≡ false
  pub new : is_doubled contents line ≡ false
  pub stop : lacks_stop contents line ≡ false
  pub service : lacks_service contents line ≡ false
  pub times : is_falling left line ≡ false
  pub room : is_full contents line ≡ false

-- what lines that pass keep, with what they leave open; before the zone is named there is no journey
pub record IsWellSoFar (above : Above) : Type 0 where
  pub well : IsWellContents above.contents
  pub ends : EndsOpen above.left above.contents.journeys
  pub whole : AreWholeBut above.left above.contents.journeys
  pub fresh : above.lines < 3 → above.contents.journeys ≡ []

-- what is kept of the lines above is in range: there is a region behind the second, a zone whose offsets are in
-- range, and no more bytes than a file may have; the contents are well
pub record IsWellAbove (above : Above) : Type 0 where
  pub named : 2 ≤ above.lines → 0 < length above.contents.region
  pub zone : IsZone above.contents.zone
  pub bytes : above.bytes ≤ BYTES
  pub so_far : IsWellSoFar above

-- what is kept of a timetable beside what its lines say: the region is named, there is a noon for each operating
-- day, none is far from that of UTC, and the contents are well, the exchange points and each journey among them
pub record IsWhole (contents : Contents) (noons : List ℕ) : Type 0 where
  pub named : 0 < length contents.region
  pub days : length noons ≡ operating_days
  pub near : AreNear noons
  pub well : IsWellContents contents
  pub whole : AreWholeBut Nothing contents.journeys
  pub points : AreWellPoints contents.region contents.points
