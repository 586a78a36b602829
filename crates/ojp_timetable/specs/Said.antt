-- What a line says by its form and its values, or which of them is wrong.
use Rattle.std.specs.Prelude.{ℕ, zero, suc, ◌+◌, Bool, true, false, ◌&&◌, ◌||◌, not, ◌==◌, cond, nat_le, List, [], ◌∷◌, length, map, codes, Option, Some, None, Result, Ok, Err}
use Rattle.std.specs.List.{list_all}
use Rattle.ojp_values.specs.Texts.{Text, same, is_code, is_label, is_stop_ref, is_exchange, is_name}
use Rattle.ojp_zones.specs.Numbers.{is_number, number}
use Rattle.ojp_values.specs.Dates.{day_text, operating_days}
use Rattle.ojp_values.specs.declared.moments.TheConstants.{FIRST_DAY}
use Rattle.ojp_zones.specs.Zones.{zone_of}
use Rattle.ojp_zones.specs.declared.zone.Zone.{Zone as ZoneValue}
use Rattle.ojp_timetable.specs.Fields.{fields_of, joined}
use Rattle.ojp_timetable.specs.Tables.{Call, Place}
use Rattle.ojp_timetable.specs.Kept.{call_kept}
use Rattle.ojp_timetable.specs.declared.kept.KeptCall.{KeptCall}
use Rattle.ojp_timetable.specs.declared.kept.SaidCall.{SaidCall}
use Rattle.ojp_timetable.specs.declared.kept.SaidJourney.{SaidJourney}
use Rattle.ojp_timetable.specs.declared.kept.FoundJourney.{FoundJourney}
use Rattle.ojp_timetable.specs.declared.file.lines.Line.{Line}
use Rattle.ojp_timetable.specs.declared.file.lines.Line.TheVariants as lines
use Rattle.ojp_timetable.specs.declared.file.lines.Open.{Open}
use Rattle.ojp_timetable.specs.declared.file.lines.Open.TheVariants.{Nothing, Begun, Since}
use Rattle.ojp_timetable.specs.declared.file.lines.TableReason.{TableReason}
use Rattle.ojp_timetable.specs.declared.file.lines.TableReason.TheVariants.{LineForm, Value, BadZone}
use Rattle.ojp_timetable.specs.declared.file.words.Word.{Word}
use Rattle.ojp_timetable.specs.declared.file.words.Word.TheVariants as words

-- what a line says, or the first of its form, its values and its zone that is wrong
abbrev pub Said : Type 0
Said = Result Line TableReason

-- the word that a line begins with
unfoldable pub word_of : Text → Option Word
word_of text =
    cond (same text (codes "call")) (Some words.Call)
    (cond (same text (codes "journey")) (Some words.Journey)
    (cond (same text (codes "stop")) (Some words.Stop)
    (cond (same text (codes "exchange")) (Some words.Exchange)
    (cond (same text (codes "neighbour")) (Some words.Neighbour)
    (cond (same text (codes "service")) (Some words.Service) None)))))

-- ---- the values of a line of the right form

abbrev pub valued : Bool → Line → Said
valued well line = cond well (Ok line) (Err Value)

-- an exchange point where it is to be shared, and else an own stop
abbrev pub is_place : Bool → Text → Bool
is_place shared stop = is_stop_ref stop && cond shared (is_exchange stop) (not (is_exchange stop))

-- an own stop behind `stop` and an exchange point behind `exchange`, with a change time from 1 to 7,200 and a name
abbrev pub place_said : Bool → Text → Text → Text → Said
place_said shared stop change name =
    valued (is_place shared stop && is_number 1 7200 change && is_name name)
    (lines.Place stop (number change) name)

-- a stop, another region and its change time
abbrev pub neighbour_said : Text → Text → Text → Text → Said
neighbour_said region stop code change =
    valued (is_stop_ref stop && is_code code && not (same code region) && is_number 1 7200 change)
    (lines.Neighbour stop (record { code = code; change = number change }))

-- seven of `0` and `1`, which are 48 and 49
abbrev pub is_mark : ℕ → Bool
is_mark b = b == 48 || b == 49

abbrev pub are_marks : Text → Bool
are_marks text = length text == 7 && list_all is_mark text

abbrev pub marks_of : Text → List Bool
marks_of text = map (λ b. b == 49) text

-- of so many days from the first on the one that is spelled so
unfoldable pub day_from : ℕ → ℕ → Text → Option ℕ
day_from first zero text = None
day_from first (suc days) text = cond (same (day_text first) text) (Some first) (day_from (first + 1) days text)

-- the operating day that is spelled so
unfoldable pub day_of : Text → Option ℕ
day_of text = day_from FIRST_DAY operating_days text

-- the days do not fall
abbrev pub service_days : Text → Option ℕ → Option ℕ → Text → Said
service_days id (Some first) (Some last) marks =
    valued (are_marks marks && nat_le first last) (lines.Service id (record { first = first; last = last; marks = marks_of marks }))
service_days id _ _ marks = Err Value

abbrev pub service_said : Text → Text → Text → Text → Said
service_said id first last marks = cond (is_label id) (service_days id (day_of first) (day_of last) marks) (Err Value)

abbrev pub journey_said : Text → Text → Text → Said
journey_said id service line = valued (is_label id && is_label service && is_label line) (lines.Journey id service line)

-- `-`, which is 45, where there is no time
abbrev pub is_dash : Text → Bool
is_dash text = same text (45 ∷ [])

-- an offset from 0 to 129,600, or `-`
unfoldable pub is_offset : Text → Bool
is_offset text = is_dash text || is_number 0 129600 text

unfoldable pub offset : Text → Option ℕ
offset text = cond (is_dash text) None (Some (number text))

abbrev pub call_said : Text → Text → Text → Said
call_said stop arrives departs =
    valued (is_stop_ref stop && is_offset arrives && is_offset departs)
    (lines.Call (record { stop = stop; arrives = offset arrives; departs = offset departs }))

-- the call that a line says
abbrev pub call_of : SaidCall → Call
call_of said = record { stop = said.stop.now; arrives = said.arrives; departs = said.departs }

-- what a call line says, as what a line says
abbrev pub called : Result SaidCall TableReason → Said
called (Ok said) = Ok (lines.Call (call_of said))
called (Err reason) = Err reason

-- and so of a call as it is kept
abbrev pub kept_said : List Place → Result KeptCall TableReason → Said
kept_said places (Ok kept) = Ok (lines.Call (call_kept places kept))
kept_said places (Err reason) = Err reason

-- the line of a journey with these labels
abbrev pub journey_line : SaidJourney → Line
journey_line said = lines.Journey said.id said.service said.line

-- what the line of a journey says, as what a line says
abbrev pub journeyed : Result SaidJourney TableReason → Said
journeyed (Ok said) = Ok (journey_line said)
journeyed (Err reason) = Err reason

-- and so of a journey with the number of its service
abbrev pub numbered : Result FoundJourney TableReason → Said
numbered (Ok found) = Ok (journey_line found.said)
numbered (Err reason) = Err reason

-- ---- the form of a line

-- a declaration may stand here: no journey is open
abbrev pub is_closed : Open → Bool
is_closed Nothing = true
is_closed Begun = false
is_closed (Since departs) = false

-- the first call of a journey has no arrival but a departure; each other has an arrival; none stands elsewhere
abbrev pub may_call : Open → Text → Text → Bool
may_call Nothing arrives departs = false
may_call Begun arrives departs = is_dash arrives && not (is_dash departs)
may_call (Since d) arrives departs = not (is_dash arrives)

-- where the form is right, what comes next
abbrev pub formed : Bool → Said → Said
formed well next = cond well next (Err LineForm)

-- a name is the rest of its line
abbrev pub place_fields : Bool → List Text → Said
place_fields shared (stop ∷ change ∷ n ∷ ame) = place_said shared stop change (joined (n ∷ ame))
place_fields shared _ = Err LineForm

abbrev pub neighbour_fields : Text → List Text → Said
neighbour_fields region (stop ∷ code ∷ change ∷ []) = neighbour_said region stop code change
neighbour_fields region _ = Err LineForm

abbrev pub service_fields : List Text → Said
service_fields (id ∷ first ∷ last ∷ marks ∷ []) = service_said id first last marks
service_fields _ = Err LineForm

abbrev pub journey_fields : List Text → Said
journey_fields (id ∷ service ∷ line ∷ []) = journey_said id service line
journey_fields _ = Err LineForm

abbrev pub call_fields : Open → List Text → Said
call_fields left (stop ∷ arrives ∷ departs ∷ []) = formed (may_call left arrives departs) (call_said stop arrives departs)
call_fields left _ = Err LineForm

-- the fields behind the word: a call stands in an open journey, and a declaration where none is open
abbrev pub word_fields : Text → Open → Word → List Text → Said
word_fields region left words.Call fields = call_fields left fields
word_fields region left words.Journey fields = formed (is_closed left) (journey_fields fields)
word_fields region left words.Stop fields = formed (is_closed left) (place_fields false fields)
word_fields region left words.Exchange fields = formed (is_closed left) (place_fields true fields)
word_fields region left words.Neighbour fields = formed (is_closed left) (neighbour_fields region fields)
word_fields region left words.Service fields = formed (is_closed left) (service_fields fields)

unfoldable pub entry_fields : Text → Open → Option Word → List Text → Said
entry_fields region left None fields = Err LineForm
entry_fields region left (Some word) fields = word_fields region left word fields

-- a line below the third, of a word and its fields
abbrev pub entry_said : Text → Open → List Text → Said
entry_said region left [] = Err LineForm
entry_said region left (word ∷ fields) = entry_fields region left (word_of word) fields

-- line 1
abbrev pub header_said : Text → Said
header_said text = cond (same text (codes "ojp-timetable 1")) (Ok lines.Header) (Err LineForm)

-- line 2
abbrev pub region_said : List Text → Said
region_said (word ∷ code ∷ []) = formed (same word (codes "region")) (valued (is_code code) (lines.Region code))
region_said _ = Err LineForm

abbrev pub zoned : Option ZoneValue → Said
zoned None = Err BadZone
zoned (Some zone) = Ok (lines.Zone zone)

-- line 3
abbrev pub zone_said : List Text → Said
zone_said (word ∷ zone ∷ []) = formed (same word (codes "zone")) (zoned (zone_of zone))
zone_said _ = Err LineForm

-- by the number of lines above, the region, and what the last of the lines leaves open
unfoldable pub said : ℕ → Text → Open → Text → Said
said above region left text =
    cond (above == 0) (header_said text)
    (cond (above == 1) (region_said (fields_of text))
    (cond (above == 2) (zone_said (fields_of text)) (entry_said region left (fields_of text))))
