-- What a turn adds to the trace of its search.
use Rattle.std.specs.Prelude.{◌≡◌, ◌⊎◌, ℕ, ◌+◌, Bool, true, false, List, [], ◌∷◌, ◌++◌, map, filter, length, get_or, not, Option, Some, None}
use Rattle.ojp_outside.specs.Causes.{next_count}
use Rattle.ojp_values.specs.Lists.{Among, Each}
use Rattle.ojp_values.specs.declared.asks.TripAsk.{TripAsk}
use Rattle.ojp_exchange.specs.Book.{Book}
use Rattle.ojp_records.specs.declared.queries.Query.{Query}
use Rattle.ojp_records.specs.declared.queries.Entry.{Entry}
use Rattle.ojp_records.specs.Wanted.{wanted}
use Rattle.ojp_labels.specs.Slots.{slots}
use Rattle.ojp_traces.specs.declared.events.Event.{Event}
use Rattle.ojp_traces.specs.declared.events.Event.TheVariants.{Asked, Failed}
use Rattle.ojp_traces.specs.Lines.{TraceView, event_lines, with_text}
use Rattle.ojp_traces.specs.TurnEvents.{LiveAsk, asked_query, ended, end_event, is_among, is_wanted, drop_event, new_queries, ask_event, ask_events, turn_events, begun_asks, live_after}
use Rattle.ojp_turns.specs.declared.kept.Kept.{Kept}
use Rattle.ojp_turns.specs.declared.search.Outcome.TheVariants as outcomes
use Rattle.ojp_turns.specs.declared.search.Search.{Search}
use Rattle.ojp_turns.specs.declared.search.Turn.{Turn}
use Rattle.ojp_turns.specs.declared.search.Turn.TheVariants as turns
use Rattle.ojp_turns.specs.Held.{NotAmong, query_of}
use Rattle.ojp_turns.specs.Slots.{IsLastAt}
use Rattle.ojp_turns.specs.Searches.{asked_for, asks_of, held_of, record_of}

-- the ask of a subrequest: its number and its query
abbrev pub live_ask : Kept → LiveAsk
live_ask kept = record { number = kept.number; query = kept.query }

-- the asks of the subrequests
abbrev pub live_asks : List Kept → List LiveAsk
live_asks subs = map live_ask subs

-- the trace, where it is on, has the lines of these events behind its own
abbrev pub Adds : ℕ → TraceView → TraceView → List Event → Type 0
Adds turn old new events = new ≡ with_text old (event_lines turn events)

-- the trace has the lines of some events behind its own
abbrev pub Grew : ℕ → TraceView → TraceView → Type 0
Grew turn old new = (events : List Event) × Adds turn old new events

-- ---- polls

-- how the ask with the number ended, by the entry
abbrev pub end_by : ℕ → Entry → Event
end_by number entry = ended number entry.reply

-- the number of the first of the subrequests
abbrev pub first_number : List Kept → ℕ
first_number [] = 0
first_number (kept ∷ subs) = kept.number

-- what the poll of the first of the subrequests told has its line
pub record TracesFirst (turn : ℕ) (subs : List Kept) (before after : List Entry) (old new : TraceView) : Type 0 where
  pub heard : List Entry
  pub tells : after ≡ before ++ heard
  pub adds : Adds turn old new (map (end_by (first_number subs)) heard)

-- what the polls told: each entry is of an ask that was live, and has its line
pub record TracesEnds (turn : ℕ) (start : List Kept) (before after : List Entry) (old new : TraceView) : Type 0 where
  pub heard : List Entry
  pub tells : after ≡ before ++ heard
  pub of_live : Each (λ (entry : Entry). Among entry.query (map query_of start)) heard
  pub adds : Adds turn old new (map (end_event (live_asks start)) heard)

-- ---- drops

-- the events of the subrequests that are not wanted
abbrev pub drops_of : Book → TripAsk → List Entry → List Kept → List Event
drops_of book ask told subs = map drop_event (filter (λ (live : LiveAsk). not (is_wanted book ask told live)) (live_asks subs))

-- ---- asks

-- the events of an ask with the number, which was refused or not
abbrev pub asked_events : ℕ → Query → Bool → List Event
asked_events number query true = Asked number query ∷ Failed number ∷ []
asked_events number query false = Asked number query ∷ []

-- the query is live with the number, behind the others; or it was refused, and its failure was told
abbrev pub IsAskedAs : ℕ → List Kept → List Kept → List Entry → List Entry → Query → Type 0
IsAskedAs number start subs before after query =
    ((kept : Kept) × (kept.query ≡ query) × (kept.number ≡ number) × (subs ≡ start ++ kept ∷ []) × (after ≡ before))
    ⊎ ((subs ≡ start) × (after ≡ before ++ record { query = query; reply = None } ∷ []))

-- the query that stands at the place was not live, and was asked with the next number
pub record AsksAt (book : Book) (ask : TripAsk) (place : ℕ) (start subs : List Kept) (before after : List Entry) (asks now : ℕ) (query : Query) : Type 0 where
  pub at : get_or (slots book ask before) place None ≡ Some query
  pub missing : NotAmong query (map query_of start)
  pub counted : now ≡ asks + 1
  pub became : IsAskedAs now start subs before after query

-- the query that was asked last at the place, where one was asked
abbrev pub AsksThis : Bool → Book → TripAsk → ℕ → List Kept → List Kept → List Entry → List Entry → ℕ → ℕ → List (Option Query) → Type 0
AsksThis true book ask place start subs before after asks now last = (query : Query) × IsLastAt last place query × AsksAt book ask place start subs before after asks now query
AsksThis false book ask place start subs before after asks now last = Unit {0}

-- the line of the ask at the place, where one was made
abbrev pub TracesThis : Bool → ℕ → Book → TripAsk → ℕ → List Kept → List Kept → List Entry → List Entry → ℕ → ℕ → TraceView → TraceView → Type 0
TracesThis true turn book ask place start subs before after asks now old new =
    (query : Query) × AsksAt book ask place start subs before after asks now query × Adds turn old new (ask_event after now query)
TracesThis false turn book ask place start subs before after asks now old new = new ≡ old

-- the wanted queries that are not live
abbrev pub missing_queries : Book → TripAsk → List Entry → List Kept → List Query
missing_queries book ask told start = filter (λ query. not (is_among (map asked_query (live_asks start)) query)) (wanted book ask told)

-- the wanted queries that are not live were asked in their order, and each has its line
pub record TracesAsks (turn : ℕ) (book : Book) (ask : TripAsk) (start subs : List Kept) (before after : List Entry) (asks now : ℕ) (old new : TraceView) : Type 0 where
  pub refused : List Entry
  pub tells : after ≡ before ++ refused
  pub of_missing : Each (λ (entry : Entry). Among entry.query (missing_queries book ask before start)) refused
  pub counted : now ≡ asks + length (missing_queries book ask before start)
  pub live : live_asks subs ≡ live_asks start ++ begun_asks after asks (missing_queries book ask before start)
  pub adds : Adds turn old new (ask_events after asks (missing_queries book ask before start))

-- ---- a turn

-- what a turn tells its trace: the ends of asks that were live, in the order polled, which is that of the record; then the asks that
-- are dropped, in the order asked; then those that are made, in the order wanted, each with its failure where it was refused at once
pub record TracesTurn (turn : ℕ) (book : Book) (ask : TripAsk) (start subs : List Kept) (before after : List Entry) (asks now : ℕ) (old new : TraceView) : Type 0 where
  pub heard : List Entry
  pub refused : List Entry
  pub tells : after ≡ (before ++ heard) ++ refused
  pub of_live : Each (λ (entry : Entry). Among entry.query (map query_of start)) heard
  pub of_new : Each (λ (entry : Entry). NotAmong entry.query (map query_of start)) refused
  pub counted : now ≡ asks + length (new_queries book ask (before ++ heard) (live_asks start))
  pub live : live_asks subs ≡ live_after book ask (live_asks start) asks (before ++ heard) after
  pub adds : Adds turn old new (turn_events book ask (live_asks start) asks before heard after)

-- the turns that the search made
abbrev pub turns_of : Search → ℕ
turns_of s = s.turns

-- P holds, unless memory ran out
abbrev pub UnlessLost : Turn → Type 0 → Type 0
UnlessLost turns.Waits P = P
UnlessLost turns.Moved P = P
UnlessLost (turns.Done (outcomes.Trip trip)) P = P
UnlessLost (turns.Done (outcomes.Fault fault)) P = P
UnlessLost (turns.Done outcomes.NoMemory) P = Unit {0}

-- what a turn does to a trace: one that is off stays as it is, and one that is on gains just the lines of the turn, which has the next
-- number; where memory ran out, it gained lines of that number, if any
pub record Traces (book : Book) (s now : Search) (old new : TraceView) (answer : Turn) : Type 0 where
  pub counted : turns_of now ≡ next_count (turns_of s)
  pub stays_off : old.on ≡ false → new ≡ old
  pub grew : Grew (turns_of now) old new
  pub lines : UnlessLost answer (TracesTurn (turns_of now) book (asked_for s) (held_of s) (held_of now) (record_of s) (record_of now) (asks_of s) (asks_of now) old new)
