-- What holds from one moment of a search to a later one.
use Rattle.std.specs.Prelude.{◌≡◌, ◌++◌, ◌+◌, ◌<◌, ◌≤◌, ℕ, true, List}
use Rattle.ojp_values.specs.Lists.{Each}
use Rattle.ojp_values.specs.declared.asks.TripAsk.{TripAsk}
use Rattle.ojp_exchange.specs.Book.{Book}
use Rattle.ojp_links.specs.Seen.{View, NoneLive}
use Rattle.ojp_links.specs.Calls.{Keeps}
use Rattle.ojp_records.specs.declared.queries.Entry.{Entry}
use Rattle.ojp_turns.specs.declared.search.Outcome.{Outcome}
use Rattle.ojp_turns.specs.declared.search.Search.{Search}
use Rattle.ojp_turns.specs.Faults.{HasCause, RejectsNone, TellsGiven}
use Rattle.ojp_turns.specs.Searches.{CanTurn, EndsAs, asked_for, asks_of, held_of, is_done, record_of}
use Rattle.ojp_turns.specs.Slots.{most_asks}
use Rattle.ojp_turns.specs.Turning.{patience_of, total_left}

-- the record grew: each new failure is of a region whose count rose; where timetables are told, its replies are theirs; and
-- where the book is theirs too, nothing was rejected
pub record Grows (book : Book) (ask : TripAsk) (old new : View) (before after : List Entry) : Type 0 where
  pub keeps : Keeps old new
  pub more : List Entry
  pub grows : after ≡ before ++ more
  pub causes : Each (HasCause old new) more
  pub given : TellsGiven book ask old before after
  pub rejects_none : RejectsNone book ask before old new

-- patience, and what is left of the replies that the search waits for
abbrev pub work_left : View → Search → ℕ
work_left v s = patience_of v + total_left v (held_of s)

-- a search was brought to its end: nothing is live, and the outcome is that of its record
pub record Sought (book : Book) (old new : View) (s now : Search) (outcome : Outcome) : Type 0 where
  pub same_ask : asked_for now ≡ asked_for s
  pub done : is_done now ≡ true
  pub none_live : NoneLive new
  pub ends : EndsAs book (asked_for s) (record_of now) outcome
  pub grows : Grows book (asked_for s) old new (record_of s) (record_of now)

-- a search goes on: its record grew, its asks are within their bound, and where it made none, patience and what is left fell
pub record StepsOn (book : Book) (old new : View) (s now : Search) : Type 0 where
  pub can_turn : CanTurn book now new
  pub same_ask : asked_for now ≡ asked_for s
  pub grows : Grows book (asked_for s) old new (record_of s) (record_of now)
  pub more_asks : asks_of s ≤ asks_of now
  pub bounded : asks_of now ≤ most_asks book (asked_for s)
  pub falls : asks_of now ≡ asks_of s → work_left new now < work_left old s
