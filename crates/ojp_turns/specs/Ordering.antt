-- A turn over links that tell their order and their timetables.
use Rattle.std.specs.Prelude.{◌≡◌, ◌⊎◌, ℕ, ◌+◌, ◌<◌, true, List, [], ◌∷◌, ◌++◌, map, filter, length, Some}
use Rattle.ojp_outside.specs.Causes.{Rests}
use Rattle.ojp_values.specs.Lists.{Among, Each}
use Rattle.ojp_values.specs.Texts.{Text}
use Rattle.ojp_values.specs.declared.asks.TripAsk.{TripAsk}
use Rattle.ojp_values.specs.declared.replies.Delivery.{Delivery}
use Rattle.ojp_timetable.specs.Tables.{Timetable}
use Rattle.ojp_exchange.specs.Book.{Book}
use Rattle.ojp_links.specs.Seen.{View, ask_at, TellsTables}
use Rattle.ojp_records.specs.declared.queries.Query.{Query}
use Rattle.ojp_records.specs.declared.queries.Entry.{Entry}
use Rattle.ojp_records.specs.Headline.{AreTablesOf, AreGiven}
use Rattle.ojp_traces.specs.Lines.{TraceView}
use Rattle.ojp_traces.specs.Traces.{Waiting, Standing, is_due, is_later, turned, turns_needed}
use Rattle.ojp_traces.specs.Traces as traces
use Rattle.ojp_turns.specs.declared.kept.Kept.{Kept}
use Rattle.ojp_turns.specs.declared.polling.Step.{Step}
use Rattle.ojp_turns.specs.declared.polling.Step.TheVariants as steps
use Rattle.ojp_turns.specs.declared.search.Search.{Search}
use Rattle.ojp_turns.specs.declared.search.Turn.{Turn}
use Rattle.ojp_turns.specs.Held.{key_of}
use Rattle.ojp_turns.specs.Searches.{asked_for, asks_of, held_of, record_of}
use Rattle.ojp_turns.specs.Tracing.{UnlessLost, live_ask, turns_of}

-- the links tell their order and their timetables; the book is theirs, and they give each reply of the record
pub record TellsOrder (order : ℕ) (tables : List Timetable) (book : Book) (ask : TripAsk) (told : List Entry) (v : View) : Type 0 where
  pub order_told : v.fixed.order ≡ Some order
  pub tables_told : TellsTables v tables
  pub theirs : AreTablesOf tables book
  pub given : AreGiven tables book ask told

-- no region's count of faults rose, nor stands at its last value
abbrev pub NoFaultRose : View → View → Type 0
NoFaultRose old new = (region : ℕ) → region < length old.fixed.stations → Rests (old.faults region) (new.faults region)

-- the rests that the ask of the subrequest still needs
abbrev pub rests_at : View → Kept → ℕ
rests_at v kept = (ask_at v (key_of kept)).rests

-- no byte of its reply was taken
abbrev pub IsUntaken : View → Kept → Type 0
IsUntaken v kept = (ask_at v (key_of kept)).taken ≡ []

abbrev pub AreUntaken : View → List Kept → Type 0
AreUntaken v subs = (kept : Kept) → Among kept subs → IsUntaken v kept

-- the ask of the subrequest as it waits in the turn: its reply comes in as many turns as it still needs rests
abbrev pub waiting_in : ℕ → View → Kept → Waiting
waiting_in turn v kept = record { number = kept.number; query = kept.query; due = turn + rests_at v kept }

abbrev pub waiting_all : ℕ → View → List Kept → List Waiting
waiting_all turn v subs = map (waiting_in turn v) subs

-- ---- polls

-- by what a poll found: nothing, while rests are needed; and then the whole reply
abbrev pub StepOrder : Step → View → View → Kept → Type 0
StepOrder steps.Waits old new was = (0 < rests_at old was) × (rests_at new was ≡ rests_at old was) × IsUntaken new was
StepOrder steps.Moved old new was = ⊥
StepOrder steps.Over old new was = rests_at old was ≡ 0

abbrev pub PollOrder : Step → Book → TripAsk → List Entry → View → View → Kept → Type 0
PollOrder step book ask told old new was = (order : ℕ) (tables : List Timetable) → TellsOrder order tables book ask told old → IsUntaken old was → StepOrder step old new was

-- the first of the subrequests needs rests, and goes on behind the others
pub record GoesLater (old new : View) (kept : Kept) (rest subs : List Kept) (told after : List Entry) : Type 0 where
  pub waits : 0 < rests_at old kept
  pub now : Kept
  pub turned : subs ≡ rest ++ now ∷ []
  pub same_key : key_of now ≡ key_of kept
  pub same_ask : live_ask now ≡ live_ask kept
  pub same_rests : rests_at new now ≡ rests_at old kept
  pub untaken : IsUntaken new now
  pub same_told : after ≡ told

-- it needs none, and its end was told
pub record IsReady (old : View) (kept : Kept) (rest subs : List Kept) (told after : List Entry) : Type 0 where
  pub none : rests_at old kept ≡ 0
  pub gone : subs ≡ rest
  pub entry : Entry
  pub of_it : entry.query ≡ kept.query
  pub tells : after ≡ told ++ entry ∷ []

abbrev pub FirstOrder : Book → TripAsk → View → View → List Kept → List Kept → List Entry → List Entry → Type 0
FirstOrder book ask old new start subs told after =
    (order : ℕ) (tables : List Timetable) (kept : Kept) (rest : List Kept) → TellsOrder order tables book ask told old → start ≡ kept ∷ rest → IsUntaken old kept
    → GoesLater old new kept rest subs told after ⊎ IsReady old kept rest subs told after

-- the query of an entry
abbrev pub told_query : Entry → Query
told_query entry = entry.query

-- the asks that are due were heard in their order, and the others wait on
pub record PollsDue (turn : ℕ) (old new : View) (start subs : List Kept) (told after : List Entry) : Type 0 where
  pub waiting : waiting_all turn new subs ≡ filter (is_later turn) (waiting_all turn old start)
  pub untaken : AreUntaken new subs
  pub heard : List Entry
  pub tells : after ≡ told ++ heard
  pub of_due : map told_query heard ≡ map traces.query_of (filter (is_due turn) (waiting_all turn old start))

abbrev pub RoundOrder : ℕ → Book → TripAsk → View → View → List Kept → List Kept → List Entry → List Entry → Type 0
RoundOrder turn book ask old new start subs told after =
    (order : ℕ) (tables : List Timetable) → TellsOrder order tables book ask told old → AreUntaken old start → PollsDue turn old new start subs told after

-- ---- asks

-- where the order is told, the ask needs the rests of its number
abbrev pub IsBegunIn : ℕ → View → Kept → Type 0
IsBegunIn order v kept = (rests_at v kept ≡ turns_needed order kept.number) × IsUntaken v kept

-- one more subrequest was begun with the number: where the links count just the asks of the search, its ask needs the rests of the number
abbrev pub BeginOrder : View → View → ℕ → List Kept → List Kept → Type 0
BeginOrder old new asks start subs =
    (order : ℕ) (kept : Kept) → old.fixed.order ≡ Some order → old.made ≡ asks → subs ≡ start ++ kept ∷ [] → (new.made ≡ asks + 1) × IsBegunIn order new kept

-- those that were begun, where none was refused
pub record BeginsAll (order : ℕ) (new : View) (start subs : List Kept) (now : ℕ) : Type 0 where
  pub counted : new.made ≡ now
  pub begun : List Kept
  pub grows : subs ≡ start ++ begun
  pub each : Each (IsBegunIn order new) begun

abbrev pub AsksOrder : View → View → List Kept → List Kept → ℕ → ℕ → List Entry → List Entry → Type 0
AsksOrder old new start subs asks now told after = (order : ℕ) → old.fixed.order ≡ Some order → old.made ≡ asks → after ≡ told → BeginsAll order new start subs now

-- ---- a turn

-- each entry's reply is the one for its query
abbrev pub Agrees : (Query → Delivery) → List Entry → Type 0
Agrees reply told = Each (λ (entry : Entry). entry.reply ≡ Some (reply entry.query)) told

-- where a search stands in the turn
abbrev pub standing : ℕ → View → List Kept → List Entry → ℕ → Text → Standing
standing turn v subs told made text = record { told = told; waiting = waiting_all turn v subs; made = made; lines = text }

-- the turn leads where the definition's turn does, by whatever replies it heard
pub record TurnsDue (turn order : ℕ) (book : Book) (ask : TripAsk) (old new : View) (start subs : List Kept) (told after : List Entry) (asks now : ℕ) (before text : Text) : Type 0 where
  pub untaken : AreUntaken new subs
  pub counted : new.made ≡ now
  pub turn_is : (reply : Query → Delivery) → Agrees reply after → standing turn new subs after now text ≡ turned book ask order reply turn (standing turn old start told asks before)

abbrev pub TurnOrder : ℕ → Book → TripAsk → View → View → List Kept → List Kept → List Entry → List Entry → ℕ → ℕ → TraceView → TraceView → Type 0
TurnOrder turn book ask old new start subs told after asks now before trace =
    (order : ℕ) (tables : List Timetable) → TellsOrder order tables book ask told old → AreUntaken old start → old.made ≡ asks → NoFaultRose old new → before.on ≡ true
    → TurnsDue turn order book ask old new start subs told after asks now before.lines trace.lines

-- the same of a search, unless memory ran out
abbrev pub OrderedTurn : Book → View → View → Search → Search → TraceView → TraceView → Turn → Type 0
OrderedTurn book old new s now before trace answer =
    UnlessLost answer (TurnOrder (turns_of now) book (asked_for s) old new (held_of s) (held_of now) (record_of s) (record_of now) (asks_of s) (asks_of now) before trace)
