-- The trace of a search whose replies come in a stated order, by turns.
use Rattle.std.specs.Prelude.{◌≡◌, ◌≢◌, ℕ, zero, suc, ◌+◌, ◌*◌, ◌%◌, ◌==◌, Bool, not, List, [], ◌∷◌, ◌++◌, map, filter, length, Option, Some, None, if◌then◌else◌}
use Rattle.ojp_values.specs.Texts.{Text}
use Rattle.ojp_values.specs.declared.asks.TripAsk.{TripAsk}
use Rattle.ojp_values.specs.declared.asks.Ask.{Ask}
use Rattle.ojp_values.specs.declared.asks.Ask.TheVariants as asks
use Rattle.ojp_values.specs.declared.replies.Delivery.{Delivery}
use Rattle.ojp_timetable.specs.Tables.{Timetable}
use Rattle.ojp_exchange.specs.Book.{Book}
use Rattle.ojp_records.specs.declared.queries.Query.{Query}
use Rattle.ojp_records.specs.declared.queries.Entry.{Entry}
use Rattle.ojp_records.specs.Wanted.{wanted}
use Rattle.ojp_records.specs.Headline.{AreTablesOf, AreGiven}
use Rattle.ojp_traces.specs.declared.events.Event.{Event}
use Rattle.ojp_traces.specs.declared.events.Event.TheVariants.{Asked, Replied, Dropped}
use Rattle.ojp_traces.specs.Lines.{event_lines}
use Rattle.ojp_traces.specs.TurnEvents.{is_among}

-- an ask that waits for its reply: its number, its query, and the turn in which the reply comes
pub record Waiting : Type 0 where
  pub number : ℕ
  pub query : Query
  pub due : ℕ

-- where a search stands: the record, what waits in the order asked, how many asks were made, and the lines so far
pub record Standing : Type 0 where
  pub told : List Entry
  pub waiting : List Waiting
  pub made : ℕ
  pub lines : Text

-- before the first turn
abbrev pub before_all : Standing
before_all = record { told = []; waiting = []; made = 0; lines = [] }

-- how many turns after the turn of an ask its reply comes
abbrev pub turns_needed : ℕ → ℕ → ℕ
turns_needed order number = 1 + ((number * 7 + order) % 11)

-- the reply comes in this turn
abbrev pub is_due : ℕ → Waiting → Bool
is_due turn ask = turn == ask.due

-- the reply does not come yet
abbrev pub is_later : ℕ → Waiting → Bool
is_later turn ask = not (is_due turn ask)

-- the query of an ask
abbrev pub query_of : Waiting → Query
query_of ask = ask.query

-- the ask's query is wanted
abbrev pub is_wanted : List Query → Waiting → Bool
is_wanted queries ask = is_among queries ask.query

-- the ask's query is not wanted
abbrev pub is_unwanted : List Query → Waiting → Bool
is_unwanted queries ask = not (is_among queries ask.query)

-- no ask waits for the query
abbrev pub is_new : List Waiting → Query → Bool
is_new waiting query = not (is_among (map query_of waiting) query)

-- the entry that a reply makes
abbrev pub entry_of : (Query → Delivery) → Waiting → Entry
entry_of reply ask = record { query = ask.query; reply = Some (reply ask.query) }

-- the events of an ask
abbrev pub asked_event : Waiting → Event
asked_event ask = Asked ask.number ask.query

abbrev pub replied_event : Waiting → Event
replied_event ask = Replied ask.number

abbrev pub dropped_event : Waiting → Event
dropped_event ask = Dropped ask.number

-- the asks that are made of these queries in this turn, with the numbers behind those made
abbrev pub asks_for : ℕ → ℕ → ℕ → List Query → List Waiting
asks_for order turn made [] = []
asks_for order turn made (query ∷ queries) =
    record { number = made + 1; query = query; due = turn + turns_needed order (made + 1) } ∷ asks_for order turn (made + 1) queries

-- what waits, with what was asked behind it
abbrev pub with_asks : ℕ → List Entry → List Waiting → ℕ → Text → List Waiting → Standing
with_asks turn told kept made lines asked =
    record { told = told; waiting = kept ++ asked; made = made + length asked; lines = lines ++ event_lines turn (map asked_event asked) }

-- after the replies: what is no longer wanted is dropped, and what is wanted and does not wait is asked, in the order wanted
abbrev pub after_replies : List Query → ℕ → ℕ → List Entry → List Waiting → ℕ → Text → Standing
after_replies queries order turn told waiting made lines =
    with_asks turn told (filter (is_wanted queries) waiting) made
    (lines ++ event_lines turn (map dropped_event (filter (is_unwanted queries) waiting)))
    (asks_for order turn made (filter (is_new waiting) queries))

-- the record with the replies that come in the turn
unfoldable pub told_in : (Query → Delivery) → ℕ → Standing → List Entry
told_in reply turn at = at.told ++ map (entry_of reply) (filter (is_due turn) at.waiting)

-- one turn: the replies that are due, in the order asked, then drops, then asks
unfoldable pub turned : Book → TripAsk → ℕ → (Query → Delivery) → ℕ → Standing → Standing
turned book ask order reply turn at =
    after_replies (wanted book ask (told_in reply turn at)) order turn (told_in reply turn at) (filter (is_later turn) at.waiting) at.made
    (at.lines ++ event_lines turn (map replied_event (filter (is_due turn) at.waiting)))

-- nothing waits
abbrev pub waits_for_none : Standing → Bool
waits_for_none at = length at.waiting == 0

-- the standing after the first turn that leaves nothing waiting, among so many turns from this one on
abbrev pub ended_from : Book → TripAsk → ℕ → (Query → Delivery) → ℕ → ℕ → Standing → Option Standing
ended_from book ask order reply zero turn at = None
ended_from book ask order reply (suc more) turn at =
    if waits_for_none (turned book ask order reply turn at) then Some (turned book ask order reply turn at)
    else ended_from book ask order reply more (turn + 1) (turned book ask order reply turn at)

-- the search ends with these lines, each reply as the timetables give it
pub record EndsWith (tables : List Timetable) (book : Book) (ask : TripAsk) (order : ℕ) (text : Text) : Type 0 where
  pub reply : Query → Delivery
  pub turns : ℕ
  pub last : Standing
  pub ends : ended_from book ask order reply turns 1 before_all ≡ Some last
  pub given : AreGiven tables book ask last.told
  pub is_text : text ≡ last.lines

-- the trace of a search over the timetables; it is empty where origin and target are the same
pub record TripTrace (tables : List Timetable) (book : Book) (ask : TripAsk) (order : ℕ) (text : Text) : Type 0 where
  pub same_stop : ask.origin ≡ ask.target → text ≡ []
  pub search : ask.origin ≢ ask.target → EndsWith tables book ask order text

-- the trace of an ask over the timetables, where this is their book and replies come in the order; it is empty for an ask that is not
-- for a trip
abbrev pub TraceOf : List Timetable → Book → Ask → ℕ → Text → Type 0
TraceOf tables book (asks.Trip ask) order text = TripTrace tables book ask order text
TraceOf tables book (asks.Multi ask) order text = text ≡ []
TraceOf tables book (asks.Events ask) order text = text ≡ []
TraceOf tables book (asks.Points ask) order text = text ≡ []

-- there is at most one trace: it depends on the arrivals alone
abbrev pub OneTrace : Type 0
OneTrace =
    (tables : List Timetable) (book : Book) (ask : Ask) (order : ℕ) (x y : Text)
    → AreTablesOf tables book → TraceOf tables book ask order x → TraceOf tables book ask order y → x ≡ y
