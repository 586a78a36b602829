-- A search over links that tell their order and their timetables, and its trace.
use Rattle.std.specs.Prelude.{◌≡◌, ◌≢◌, ℕ, true, List, [], Some, IfOk, Result, option_map}
use Rattle.ojp_outside.specs.Causes.{next_count}
use Rattle.ojp_values.specs.Texts.{Text}
use Rattle.ojp_values.specs.declared.memory.NoMemory.{NoMemory}
use Rattle.ojp_values.specs.declared.asks.TripAsk.{TripAsk}
use Rattle.ojp_values.specs.declared.asks.Ask.{Ask}
use Rattle.ojp_values.specs.declared.asks.Ask.TheVariants as asks
use Rattle.ojp_timetable.specs.Tables.{Timetable}
use Rattle.ojp_exchange.specs.Book.{Book}
use Rattle.ojp_links.specs.Seen.{View, TellsTables}
use Rattle.ojp_links.specs.Calls.{Keeps, after_rest}
use Rattle.ojp_records.specs.Headline.{AreTablesOf}
use Rattle.ojp_traces.specs.Lines.{TraceView}
use Rattle.ojp_traces.specs.Traces.{EndsWith, TraceOf}
use Rattle.ojp_turns.specs.declared.search.Outcome.{Outcome}
use Rattle.ojp_turns.specs.declared.search.Outcome.TheVariants as outcomes
use Rattle.ojp_turns.specs.declared.search.Search.{Search}
use Rattle.ojp_turns.specs.declared.search.Turn.TheVariants as turns
use Rattle.ojp_turns.specs.Searches.{asked_for, asks_of, held_of, record_of}
use Rattle.ojp_turns.specs.Tracing.{turns_of}
use Rattle.ojp_turns.specs.Ordering.{TellsOrder, NoFaultRose, TurnOrder, OrderedTurn}
use Rattle.ojp_gateway.specs.declared.answering.Answer.{Answer}
use Rattle.ojp_gateway.specs.declared.answering.Begun.{Begun}
use Rattle.ojp_gateway.specs.declared.answering.Begun.TheVariants as begun

-- ---- one turn and a rest

-- each ask needs one rest less, where the order is told
pub record RestsAll (mid new : View) : Type 0 where
  pub made : new.made ≡ mid.made
  pub rested : (order : ℕ) → mid.fixed.order ≡ Some order → (key : ℕ) → new.live key ≡ option_map after_rest (mid.live key)

-- a turn after which the search goes on, and a rest
pub record StepsDue (book : Book) (old new : View) (s now : Search) (before trace : TraceView) : Type 0 where
  pub counted : turns_of now ≡ next_count (turns_of s)
  pub some : held_of now ≢ []
  pub mid : View
  pub keeps_turn : Keeps old mid
  pub keeps_rest : Keeps mid new
  pub rests : RestsAll mid new
  pub turned : TurnOrder (turns_of now) book (asked_for s) old mid (held_of s) (held_of now) (record_of s) (record_of now) (asks_of s) (asks_of now) before trace

-- the last turn
pub record EndsDue (book : Book) (old new : View) (s now : Search) (before trace : TraceView) (outcome : Outcome) : Type 0 where
  pub counted : turns_of now ≡ next_count (turns_of s)
  pub turned : OrderedTurn book old new s now before trace (turns.Done outcome)

-- ---- a whole search

-- a search that has made no turn, over links that tell their order and their timetables and count no ask yet, with a trace that is on
-- and empty
pub record Starts (order : ℕ) (tables : List Timetable) (book : Book) (v : View) (s : Search) (trace : TraceView) : Type 0 where
  pub tells : TellsOrder order tables book (asked_for s) (record_of s) v
  pub nothing_told : record_of s ≡ []
  pub none_held : held_of s ≡ []
  pub none_asked : asks_of s ≡ 0
  pub no_turn : turns_of s ≡ 0
  pub none_made : v.made ≡ 0
  pub is_on : trace.on ≡ true
  pub is_empty : trace.lines ≡ []

-- the lines are the definition's, unless memory ran out
abbrev pub EndsTraced : Outcome → List Timetable → Book → TripAsk → ℕ → Text → Type 0
EndsTraced (outcomes.Trip trip) tables book ask order text = EndsWith tables book ask order text
EndsTraced (outcomes.Fault fault) tables book ask order text = EndsWith tables book ask order text
EndsTraced outcomes.NoMemory tables book ask order text = Unit {0}

-- a new search that was brought to its end has the trace of the definition, where no region's count rose
abbrev pub SoughtInOrder : Book → View → View → Search → TraceView → TraceView → Outcome → Type 0
SoughtInOrder book old new s before trace outcome =
    (order : ℕ) (tables : List Timetable) → Starts order tables book old s before → NoFaultRose old new → EndsTraced outcome tables book (asked_for s) order trace.lines

-- ---- an ask

-- an ask that takes no search is for no trip, or for one from a stop to itself; a search that was made for one has made no turn
abbrev pub TakesSearch : Ask → Begun → Type 0
TakesSearch ask (begun.Answered answer) = (trip : TripAsk) → ask ≡ asks.Trip trip → trip.origin ≡ trip.target
TakesSearch ask (begun.Search search) = turns_of search ≡ 0

-- the links tell their order and their timetables, the book is theirs, they count no ask yet, and the trace is on and empty
pub record TellsTrace (order : ℕ) (tables : List Timetable) (book : Book) (v : View) (trace : TraceView) : Type 0 where
  pub order_told : v.fixed.order ≡ Some order
  pub tables_told : TellsTables v tables
  pub theirs : AreTablesOf tables book
  pub none_made : v.made ≡ 0
  pub is_on : trace.on ≡ true
  pub is_empty : trace.lines ≡ []

-- so, where no region's count rose, the trace of an ask that was answered is the one of the definition
abbrev pub IsTraced : Book → View → View → Ask → TraceView → TraceView → Result Answer NoMemory → Type 0
IsTraced book old new ask before trace result =
    (order : ℕ) (tables : List Timetable) → TellsTrace order tables book old before → NoFaultRose old new → IfOk result (λ answer. TraceOf tables book ask order trace.lines)
