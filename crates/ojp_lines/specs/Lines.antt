-- The lines of a timetable's text, by their fields.
use Rattle.std.specs.Prelude.{ℕ, Bool, cond, List, [], ◌∷◌, ◌++◌, Option, Some, None, codes, map}
use Rattle.std.specs.List.{join_with_byte}
use Rattle.std.specs.Fmt.{decimal}
use Rattle.ojp_values.specs.Texts.{Text, is_exchange}

-- ---- how fields are spelled

-- an own stop stands behind `stop` and an exchange point behind `exchange`
abbrev pub place_word : Text → Text
place_word stop = cond (is_exchange stop) (codes "exchange") (codes "stop")

-- a weekday is `1` where the service runs and else `0`
abbrev pub marks_text : List Bool → Text
marks_text weekdays = map (λ (runs : Bool). cond runs 49 48) weekdays

-- a time is spelled by its seconds, and none by `-`
abbrev pub time_text : Option ℕ → Text
time_text None = codes "-"
time_text (Some seconds) = decimal seconds

-- ---- the fields of each line

abbrev pub title_fields : List Text
title_fields = codes "ojp-timetable" ∷ codes "1" ∷ []

-- the code of the region
abbrev pub region_fields : Text → List Text
region_fields region = codes "region" ∷ region ∷ []

abbrev pub zone_fields : Text → List Text
zone_fields zone = codes "zone" ∷ zone ∷ []

-- a place behind its word: the stop, the seconds of a change, and the name
abbrev pub place_fields : Text → Text → ℕ → Text → List Text
place_fields word stop change name = word ∷ stop ∷ decimal change ∷ name ∷ []

-- the exchange point, the code of the neighbour, and the seconds of a change from it
abbrev pub neighbour_fields : Text → Text → ℕ → List Text
neighbour_fields stop code change = codes "neighbour" ∷ stop ∷ code ∷ decimal change ∷ []

-- the label, the first and the last day, and the marks of the weekdays
abbrev pub service_fields : Text → Text → Text → Text → List Text
service_fields id first last marks = codes "service" ∷ id ∷ first ∷ last ∷ marks ∷ []

-- the label, and those of the service and of the line
abbrev pub journey_fields : Text → Text → Text → List Text
journey_fields id service line = codes "journey" ∷ id ∷ service ∷ line ∷ []

-- the stop, the arrival and the departure
abbrev pub call_fields : Text → Option ℕ → Option ℕ → List Text
call_fields stop arrives departs = codes "call" ∷ stop ∷ time_text arrives ∷ time_text departs ∷ []

-- ---- lines

-- a line is its fields with a space between each two, which is 32, and a line feed, which is 10
abbrev pub line_text : List Text → Text
line_text fields = join_with_byte 32 fields ++ 10 ∷ []

-- the first three lines, of a region and a zone
unfoldable pub head_text : Text → Text → Text
head_text region zone = line_text title_fields ++ line_text (region_fields region) ++ line_text (zone_fields zone)

unfoldable pub place_text : Text → Text → ℕ → Text → Text
place_text word stop change name = line_text (place_fields word stop change name)

unfoldable pub neighbour_text : Text → Text → ℕ → Text
neighbour_text stop code change = line_text (neighbour_fields stop code change)

unfoldable pub service_text : Text → Text → Text → Text → Text
service_text id first last marks = line_text (service_fields id first last marks)

unfoldable pub journey_text : Text → Text → Text → Text
journey_text id service line = line_text (journey_fields id service line)

unfoldable pub call_text : Text → Option ℕ → Option ℕ → Text
call_text stop arrives departs = line_text (call_fields stop arrives departs)
