-- The values that are drawn for the timetable of a region, and its text.
use Rattle.std.specs.Prelude.{ℕ, zero, suc, ◌+◌, ◌-◌, ◌*◌, ◌/◌, ◌%◌, ◌==◌, cond, nat_lt, min, max, List, [], ◌∷◌, ◌++◌, Some, None, codes}
use Rattle.std.specs.List.{flat_map}
use Rattle.ojp_values.specs.Texts.{Text}
use Rattle.ojp_values.specs.declared.trips.Neighbour.{Neighbour}
use Rattle.ojp_values.specs.declared.trips.Point.{Point}
use Rattle.ojp_timetable.specs.Tables.{Journey, Place}
use Rattle.ojp_timetable.specs.declared.calls.Call.{Call}
use Rattle.ojp_lines.specs.Lines.{call_text, head_text, journey_text, neighbour_text, place_text, service_text}
use Rattle.ojp_network.specs.Draws.{below, draw, state_after}

-- ---- texts: regions, own stops, exchange points and journeys are numbered from 1

-- the last digit of the number, as its byte
abbrev pub digit : ℕ → ℕ
digit n = 48 + n % 10

abbrev pub two_digits : ℕ → Text
two_digits n = digit (n / 10) ∷ digit n ∷ []

abbrev pub three_digits : ℕ → Text
three_digits n = digit (n / 100) ∷ two_digits n

-- `R` and the region's number
abbrev pub region_code : ℕ → Text
region_code region = codes "R" ++ two_digits region

abbrev pub own_stop : ℕ → ℕ → Text
own_stop region stop = region_code region ++ codes ":s" ++ two_digits stop

abbrev pub own_name : ℕ → ℕ → Text
own_name region stop = codes "Stop " ++ two_digits stop ++ codes " & " ++ region_code region

-- the local part of an exchange point, which is its name
abbrev pub point_name : ℕ → Text
point_name point = codes "E" ++ two_digits point

abbrev pub shared_stop : ℕ → Text
shared_stop point = codes "x:" ++ point_name point

abbrev pub journey_label : ℕ → Text
journey_label journey = codes "J" ++ three_digits journey

-- `L` and the last digit of the journey's number
abbrev pub line_label : ℕ → Text
line_label journey = codes "L" ++ digit journey ∷ []

-- ---- the twelve regions stand in a ring, and each exchange point joins the region of its number to the next one

abbrev pub region_before : ℕ → ℕ
region_before region = cond (region == 1) 12 (region - 1)

abbrev pub region_behind : ℕ → ℕ
region_behind region = cond (region == 12) 1 (region + 1)

-- the lower and the higher exchange point of a region
abbrev pub lower_point : ℕ → ℕ
lower_point region = min region (region_before region)

abbrev pub higher_point : ℕ → ℕ
higher_point region = max region (region_before region)

-- the region that the exchange point joins the region to
abbrev pub joined_region : ℕ → ℕ → ℕ
joined_region region point = cond (point == region) (region_behind region) (region_before region)

-- ---- values, drawn from a state on

-- so many minutes from one on, in seconds
abbrev pub minutes : ℕ → ℕ → ℕ → ℕ
minutes z k m = 60 * (1 + draw z k m)

-- the own stops
abbrev pub own_place : ℕ → ℕ → ℕ → Place
own_place z region k = record { stop = own_stop region (k + 1); change = minutes z k 5; name = own_name region (k + 1) }

abbrev pub own_places : ℕ → ℕ → List Place
own_places z region = below (own_place z region) 30

-- an exchange point, as a place and with its neighbour
abbrev pub shared_place : ℕ → ℕ → Place
shared_place z point = record { stop = shared_stop point; change = minutes z 0 5; name = point_name point }

abbrev pub shared_neighbour : ℕ → ℕ → ℕ → Neighbour
shared_neighbour z region point = record { code = region_code (joined_region region point); change = minutes z 1 10 }

abbrev pub shared_point : ℕ → ℕ → ℕ → Point
shared_point z region point =
    record { region = region_code region; stop = shared_stop point; change = minutes z 0 5; neighbours = shared_neighbour z region point ∷ [] }

-- one of the 32 stops of a region: its own ones, then its exchange points
unfoldable pub stop_at : ℕ → ℕ → Text
stop_at region k =
    cond (nat_lt k 30) (own_stop region (k + 1)) (shared_stop (cond (k == 30) (lower_point region) (higher_point region)))

-- the departure from the call behind so many others, from 14,400 to 86,340 at the first; and the arrival at the call behind
unfoldable pub departs_at : ℕ → ℕ → ℕ
departs_at z zero = 14_400 + 60 * draw z 0 1200
departs_at z (suc k) = departs_at z k + minutes z (3 * k + 2) 20 + 60 * draw z (3 * k + 4) 3

abbrev pub arrives_behind : ℕ → ℕ → ℕ
arrives_behind z k = departs_at z k + minutes z (3 * k + 2) 20

-- the six calls of a journey
abbrev pub first_call : ℕ → ℕ → Call
first_call z region = record { stop = stop_at region (draw z 1 32); arrives = None; departs = Some (departs_at z 0) }

abbrev pub middle_call : ℕ → ℕ → ℕ → Call
middle_call z region k = record {
  stop = stop_at region (draw z (3 * k + 3) 32);
  arrives = Some (arrives_behind z k);
  departs = Some (departs_at z (k + 1));
}

abbrev pub last_call : ℕ → ℕ → Call
last_call z region = record { stop = stop_at region (draw z 15 32); arrives = Some (arrives_behind z 4); departs = None }

abbrev pub calls : ℕ → ℕ → List Call
calls z region = first_call z region ∷ below (middle_call z region) 4 ++ last_call z region ∷ []

-- a journey takes 16 draws; its service is the only one
abbrev pub journey : ℕ → ℕ → ℕ → Journey
journey z region k =
    record { id = journey_label (k + 1); line = line_label (k + 1); service = 0; calls = calls (state_after z (16 * k)) region }

abbrev pub journeys : ℕ → ℕ → List Journey
journeys z region = below (journey z region) 120

-- ---- text

abbrev pub text_of_place : Text → Place → Text
text_of_place word place = place_text word place.stop place.change place.name

abbrev pub text_of_neighbour : Text → Neighbour → Text
text_of_neighbour stop neighbour = neighbour_text stop neighbour.code neighbour.change

-- an exchange point, followed at once by its neighbour
abbrev pub point_text : ℕ → ℕ → ℕ → Text
point_text z region point =
    text_of_place (codes "exchange") (shared_place z point) ++ text_of_neighbour (shared_stop point) (shared_neighbour z region point)

-- the label of the one service
abbrev pub service_label : Text
service_label = codes "D"

-- it runs on all days of a year
abbrev pub text_of_service : Text
text_of_service = service_text service_label (codes "2024-01-01") (codes "2024-12-31") (codes "1111111")

abbrev pub text_of_call : Call → Text
text_of_call call = call_text call.stop call.arrives call.departs

-- a journey and its calls
abbrev pub text_of_journey : Journey → Text
text_of_journey journey = journey_text journey.id service_label journey.line ++ flat_map text_of_call journey.calls

-- the timetable of a region, which takes 1,954 draws
unfoldable pub file : ℕ → ℕ → Text
file z region =
    head_text (region_code region) (codes "+00:00") ++ flat_map (text_of_place (codes "stop")) (own_places z region)
    ++ point_text (state_after z 30) region (lower_point region) ++ point_text (state_after z 32) region (higher_point region)
    ++ text_of_service ++ flat_map text_of_journey (journeys (state_after z 34) region)
