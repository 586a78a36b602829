-- The lines of a trace, one for each event.
use Rattle.std.specs.Prelude.{◌≡◌, ℕ, Bool, true, false, List, [], ◌++◌, codes}
use Rattle.std.specs.List.{flat_map}
use Rattle.std.specs.Fmt.{decimal}
use Rattle.ojp_values.specs.Texts.{Text}
use Rattle.ojp_values.specs.Dates.{moment_text}
use Rattle.ojp_records.specs.declared.queries.Query.{Query}
use Rattle.ojp_records.specs.declared.queries.Query.TheVariants.{Check, Reach}
use Rattle.ojp_traces.specs.declared.events.Event.{Event}
use Rattle.ojp_traces.specs.declared.events.Event.TheVariants.{Asked, Replied, Failed, Dropped}

-- the line of a place check that is asked in the turn with the number
abbrev pub check_line : ℕ → ℕ → Text → Text → Text
check_line turn number region stop = decimal turn ++ (codes " check " ++ (decimal number ++ (codes " " ++ (region ++ (codes " " ++ (stop ++ codes "\n"))))))

-- the line of a pair that is asked in the turn with the number
abbrev pub reach_line : ℕ → ℕ → Text → Text → ℕ → Text
reach_line turn number region stop start =
    decimal turn ++ (codes " ask " ++ (decimal number ++ (codes " " ++ (region ++ (codes " " ++ (stop ++ (codes " " ++ (moment_text start ++ codes "\n"))))))))

-- the line of a query that is asked in the turn with the number
abbrev pub query_line : ℕ → ℕ → Query → Text
query_line turn number (Check region stop) = check_line turn number region stop
query_line turn number (Reach region stop start) = reach_line turn number region stop start

-- the line of what came of the ask with the number
abbrev pub word_line : ℕ → Text → ℕ → Text
word_line turn words number = decimal turn ++ (words ++ (decimal number ++ codes "\n"))

-- the line of an event in the turn
abbrev pub event_line : ℕ → Event → Text
event_line turn (Asked number query) = query_line turn number query
event_line turn (Replied number) = word_line turn (codes " reply ") number
event_line turn (Failed number) = word_line turn (codes " fail ") number
event_line turn (Dropped number) = word_line turn (codes " drop ") number

-- the lines of events in the turn, one behind another
abbrev pub event_lines : ℕ → List Event → Text
event_lines turn events = flat_map (event_line turn) events

-- a trace as its callers see it: whether it is on, and its lines
pub record TraceView : Type 0 where
  pub on : Bool
  pub lines : Text

-- the text, where the trace is on
abbrev pub shown : Bool → Text → Text
shown true text = text
shown false text = []

-- the trace with the text behind its lines, where it is on
abbrev pub with_text : TraceView → Text → TraceView
with_text trace text = record { on = trace.on; lines = trace.lines ++ shown trace.on text }

-- the trace gained a text behind its lines; one that is off is as it was
pub record Gains (old new : TraceView) : Type 0 where
  pub text : Text
  pub is : new ≡ with_text old text
  pub stays_off : old.on ≡ false → new ≡ old
