-- The checks of a line that speak of the lines above it, in their order.
use Rattle.std.specs.Prelude.{ℕ, ◌+◌, Bool, false, ◌&&◌, ◌||◌, not, cond, nat_le, nat_lt, List, [], ◌∷◌, length, Option, Some, None, Ok, Err}
use Rattle.std.specs.List.{list_any}
use Rattle.ojp_values.specs.Texts.{Text, same, is_exchange, code_part}
use Rattle.ojp_values.specs.declared.trips.Neighbour.{Neighbour}
use Rattle.ojp_timetable.specs.Tables.{Call}
use Rattle.ojp_timetable.specs.Contents.{Contents, has_place, has_service, has_journey, neighbours_at, calls_in}
use Rattle.ojp_timetable.specs.Lines.{Above}
use Rattle.ojp_timetable.specs.Said.{Said, said, is_closed}
use Rattle.ojp_timetable.specs.Fields.{body}
use Rattle.ojp_timetable.specs.declared.file.above.TheConstants.{BYTES}
use Rattle.ojp_timetable.specs.declared.file.lines.Line.{Line}
use Rattle.ojp_timetable.specs.declared.file.lines.Line.TheVariants.{Place, Neighbour as NeighbourLine, Service, Journey, Call as CallLine}
use Rattle.ojp_timetable.specs.declared.file.lines.Open.{Open}
use Rattle.ojp_timetable.specs.declared.file.lines.Open.TheVariants.{Nothing, Begun, Since}
use Rattle.ojp_timetable.specs.declared.file.lines.TableReason.{TableReason}
use Rattle.ojp_timetable.specs.declared.file.lines.TableReason.TheVariants.{ForeignStop, DoubledName, UnknownStop, UnknownService, FallingTimes, Limit}

-- an own stop of another region
abbrev pub is_stop_elsewhere : Text → Text → Bool
is_stop_elsewhere region stop = not (is_exchange stop) && not (same (code_part stop) region)

unfoldable pub is_foreign : Contents → Line → Bool
is_foreign contents (Place stop change name) = is_stop_elsewhere contents.region stop
is_foreign contents (NeighbourLine stop neighbour) = is_stop_elsewhere contents.region stop
is_foreign contents (CallLine call) = is_stop_elsewhere contents.region call.stop
is_foreign contents _ = false

-- the point has a neighbour of that code
unfoldable pub has_neighbour : Contents → Text → Text → Bool
has_neighbour contents stop code = list_any (λ (neighbour : Neighbour). same code neighbour.code) (neighbours_at contents stop)

unfoldable pub is_doubled : Contents → Line → Bool
is_doubled contents (Place stop change name) = has_place contents stop
is_doubled contents (NeighbourLine stop neighbour) = has_neighbour contents stop neighbour.code
is_doubled contents (Service id dates) = has_service contents id
is_doubled contents (Journey id service line) = has_journey contents id
is_doubled contents _ = false

-- a neighbour line names an exchange point that stands above, and a call any stop that does
unfoldable pub lacks_stop : Contents → Line → Bool
lacks_stop contents (NeighbourLine stop neighbour) = not (is_exchange stop && has_place contents stop)
lacks_stop contents (CallLine call) = not (has_place contents call.stop)
lacks_stop contents _ = false

unfoldable pub lacks_service : Contents → Line → Bool
lacks_service contents (Journey id service line) = not (has_service contents service)
lacks_service contents _ = false

-- the time is before d
abbrev pub is_before : ℕ → Option ℕ → Bool
is_before d None = false
is_before d (Some t) = nat_lt t d

abbrev pub later_of : ℕ → Option ℕ → ℕ
later_of d None = d
later_of d (Some t) = t

-- an arrival before the departure of the call before, or a departure before the arrival of its call
abbrev pub falls_from : ℕ → Call → Bool
falls_from d call = is_before d call.arrives || is_before (later_of d call.arrives) call.departs

-- when the call before departs
abbrev pub departed : Open → ℕ
departed Nothing = 0
departed Begun = 0
departed (Since d) = d

unfoldable pub is_falling : Open → Line → Bool
is_falling left (CallLine call) = falls_from (departed left) call
is_falling left _ = false

-- a timetable has at most 5,000 stops with its exchange points, 255 exchange points, 31 neighbours at each,
-- 1,000 services, 20,000 journeys and 100,000 calls
unfoldable pub is_full : Contents → Line → Bool
is_full contents (Place stop change name) =
    nat_le 5000 (length contents.places) || (is_exchange stop && nat_le 255 (length contents.points))
is_full contents (NeighbourLine stop neighbour) = nat_le 31 (length (neighbours_at contents stop))
is_full contents (Service id dates) = nat_le 1000 (length contents.services)
is_full contents (Journey id service line) = nat_le 20000 (length contents.journeys)
is_full contents (CallLine call) = nat_le 100000 (calls_in contents)
is_full contents _ = false

-- the line ends past byte 16,777,216, the last that a file may have
unfoldable pub is_long : Above → Text → Bool
is_long above text = nat_lt BYTES (above.bytes + length text)

-- the first reason whose test holds
abbrev pub first_failing : List (Bool × TableReason) → Option TableReason
first_failing [] = None
first_failing (check ∷ more) = cond check.0 (Some check.1) (first_failing more)

-- the checks in their order
abbrev pub checks : Contents → Open → Bool → Line → List (Bool × TableReason)
checks contents left long line =
    (is_foreign contents line, ForeignStop)
    ∷ (is_doubled contents line, DoubledName)
    ∷ (lacks_stop contents line, UnknownStop)
    ∷ (lacks_service contents line, UnknownService)
    ∷ (is_falling left line, FallingTimes)
    ∷ (is_full contents line || long, Limit)
    ∷ []

abbrev pub verdict : Line → Option TableReason → Said
verdict line None = Ok line
verdict line (Some reason) = Err reason

-- the line, where it passes all checks; else the first that it fails
abbrev pub checked : Above → Text → Said → Said
checked above text (Err reason) = Err reason
checked above text (Ok line) = verdict line (first_failing (checks above.contents above.left (is_long above text) line))

-- what the line says under the lines above, or its reason
unfoldable pub read_line : Above → Text → Said
read_line above text = checked above text (said above.lines above.contents.region above.left (body text))

-- a file may not end here: the first three lines are not all there, or a journey is open
abbrev pub is_cut : Above → Bool
is_cut above = nat_lt above.lines 3 || not (is_closed above.left)
