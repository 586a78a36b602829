-- The events of one turn, from what was live before it and what was told in it.
use Rattle.std.specs.Prelude.{ℕ, ◌+◌, Bool, not, List, [], ◌∷◌, ◌++◌, map, filter, Option, Some, None, if◌then◌else◌}
use Rattle.std.specs.List.{list_any}
use Rattle.ojp_values.specs.declared.asks.TripAsk.{TripAsk}
use Rattle.ojp_values.specs.declared.replies.Delivery.{Delivery}
use Rattle.ojp_exchange.specs.Book.{Book}
use Rattle.ojp_records.specs.declared.queries.Query.{Query}
use Rattle.ojp_records.specs.declared.queries.Entry.{Entry}
use Rattle.ojp_records.specs.Records.{same_query, is_told, is_failed}
use Rattle.ojp_records.specs.Wanted.{wanted}
use Rattle.ojp_traces.specs.declared.events.Event.{Event}
use Rattle.ojp_traces.specs.declared.events.Event.TheVariants.{Asked, Replied, Failed, Dropped}

-- an ask that is live: its number and its query
pub record LiveAsk : Type 0 where
  pub number : ℕ
  pub query : Query

-- the query of an ask
abbrev pub asked_query : LiveAsk → Query
asked_query ask = ask.query

-- the query stands among the queries
abbrev pub is_among : List Query → Query → Bool
is_among queries query = list_any (same_query query) queries

-- the number of the ask of the query; 0 where none asks it
abbrev pub number_of : List LiveAsk → Query → ℕ
number_of [] query = 0
number_of (ask ∷ asks) query = if same_query ask.query query then ask.number else number_of asks query

-- how the ask with the number ended: with a reply, or it failed
abbrev pub ended : ℕ → Option Delivery → Event
ended number None = Failed number
ended number (Some reply) = Replied number

-- how the ask of the entry's query ended
abbrev pub end_event : List LiveAsk → Entry → Event
end_event live entry = ended (number_of live entry.query) entry.reply

-- the asks that did not end: nothing was told of their queries
abbrev pub going_on : List Entry → List LiveAsk → List LiveAsk
going_on told live = filter (λ (ask : LiveAsk). not (is_told told ask.query)) live

-- the ask is wanted by the record
abbrev pub is_wanted : Book → TripAsk → List Entry → LiveAsk → Bool
is_wanted book ask told live = is_among (wanted book ask told) live.query

-- the ask is dropped
abbrev pub drop_event : LiveAsk → Event
drop_event ask = Dropped ask.number

-- the asks that went on and are not wanted are dropped
abbrev pub drop_events : Book → TripAsk → List Entry → List LiveAsk → List Event
drop_events book ask told live = map drop_event (filter (λ (live_ask : LiveAsk). not (is_wanted book ask told live_ask)) (going_on told live))

-- the wanted queries of which no ask went on, in the order in which they are wanted
abbrev pub new_queries : Book → TripAsk → List Entry → List LiveAsk → List Query
new_queries book ask told live = filter (λ query. not (is_among (map asked_query (going_on told live)) query)) (wanted book ask told)

-- the query is asked with the number; where it was refused at once, it failed
abbrev pub ask_event : List Entry → ℕ → Query → List Event
ask_event after number query = Asked number query ∷ (if is_failed after query then Failed number ∷ [] else [])

-- the queries are asked one after another, with the numbers behind those made
abbrev pub ask_events : List Entry → ℕ → List Query → List Event
ask_events after made [] = []
ask_events after made (query ∷ queries) = ask_event after (made + 1) query ++ ask_events after (made + 1) queries

-- the events of a turn: how asks ended, in the order in which the record was told; which are dropped; and which are made
abbrev pub turn_events : Book → TripAsk → List LiveAsk → ℕ → List Entry → List Entry → List Entry → List Event
turn_events book ask live made before heard after =
    map (end_event live) heard
    ++ (drop_events book ask (before ++ heard) live ++ ask_events after made (new_queries book ask (before ++ heard) live))

-- the asks that are made of the queries, but for those that were refused at once
abbrev pub begun_asks : List Entry → ℕ → List Query → List LiveAsk
begun_asks after made [] = []
begun_asks after made (query ∷ queries) =
    (if is_failed after query then [] else record { number = made + 1; query = query } ∷ []) ++ begun_asks after (made + 1) queries

-- the asks that are live after a turn: those that went on and are wanted, and behind them those that were made
abbrev pub live_after : Book → TripAsk → List LiveAsk → ℕ → List Entry → List Entry → List LiveAsk
live_after book ask live made told after = filter (is_wanted book ask told) (going_on told live) ++ begun_asks after made (new_queries book ask told live)
