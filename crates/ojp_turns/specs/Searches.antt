-- A search, as its callers see it.
use Rattle.std.specs.Prelude.{◌≡◌, ◌≢◌, ◌≤◌, ℕ, Bool, true, false, List, []}
use Rattle.ojp_values.specs.declared.asks.TripAsk.{TripAsk}
use Rattle.ojp_values.specs.declared.replies.TripReply.TheVariants as trip_replies
use Rattle.ojp_exchange.specs.Book.{Book}
use Rattle.ojp_links.specs.Seen.{View, NoneLive, codes_of}
use Rattle.ojp_records.specs.declared.queries.Entry.{Entry}
use Rattle.ojp_records.specs.Told.{IsRecord}
use Rattle.ojp_records.specs.Wanted.{wanted}
use Rattle.ojp_labels.specs.Boards.{IsBoardOf, ask_of, told_of}
use Rattle.ojp_join.specs.Outcomes.{Ended}
use Rattle.ojp_turns.specs.declared.kept.Kept.{Kept}
use Rattle.ojp_turns.specs.declared.search.Outcome.{Outcome}
use Rattle.ojp_turns.specs.declared.search.Outcome.TheVariants as outcomes
use Rattle.ojp_turns.specs.declared.search.Search.{Search}
use Rattle.ojp_turns.specs.declared.search.Turn.{Turn}
use Rattle.ojp_turns.specs.declared.search.Turn.TheVariants as turns
use Rattle.ojp_turns.specs.Held.{AreLive, AreOpen, HasRegions}
use Rattle.ojp_turns.specs.Slots.{AreAsked, IsWithinBound, most_asks}
use Rattle.ojp_turns.specs.Turning.{Passes, Settles}

-- the ask of the search
abbrev pub asked_for : Search → TripAsk
asked_for s = ask_of s.board

-- its record: all that was told to it, in the order told
abbrev pub record_of : Search → List Entry
record_of s = told_of s.board

-- how many asks it made
abbrev pub asks_of : Search → ℕ
asks_of s = s.asked.count

-- what it has live, in the order asked
abbrev pub held_of : Search → List Kept
held_of s = s.subs.items

-- it is done
abbrev pub is_done : Search → Bool
is_done s = s.done

-- the search is one of this book, with its board and its asks
pub record IsSearchOf (book : Book) (s : Search) : Type 0 where
  pub board_of : IsBoardOf s.board book
  pub differ : (asked_for s).origin ≢ (asked_for s).target
  pub are_open : AreOpen book (asked_for s) (record_of s) (held_of s)
  pub asked : AreAsked book (asked_for s) (record_of s) (held_of s) s.asked.last.items
  pub bounded : IsWithinBound book (asked_for s) s.asked.last.items (asks_of s)

-- a search of this book and ask that has made no turn
pub record IsNewFor (book : Book) (asking : TripAsk) (s : Search) : Type 0 where
  pub is_search : IsSearchOf book s
  pub asks_this : asked_for s ≡ asking
  pub nothing_told : record_of s ≡ []
  pub none_asked : asks_of s ≡ 0
  pub none_held : held_of s ≡ []
  pub not_done : is_done s ≡ false

-- the search may turn over these links: it is not done, the book's regions are the links' codes, and just its own asks are
-- live
pub record CanTurn (book : Book) (s : Search) (v : View) : Type 0 where
  pub not_done : is_done s ≡ false
  pub is_search : IsSearchOf book s
  pub regions : HasRegions book v
  pub live : AreLive book (asked_for s) (held_of s) (codes_of v.fixed) v.live

-- how a search ended
abbrev pub EndsAs : Book → TripAsk → List Entry → Outcome → Type 0
EndsAs book ask told (outcomes.Trip trip) = Ended book ask told (trip_replies.Trip trip)
EndsAs book ask told (outcomes.Fault fault) = Ended book ask told (trip_replies.Fault fault)
EndsAs book ask told outcomes.NoMemory = Unit {0}

-- a turn after which the search goes on: what is live is just what is wanted, and something is
pub record GoesOn (moved : Bool) (book : Book) (old new : View) (s now : Search) : Type 0 where
  pub can_turn : CanTurn book now new
  pub settles : Settles moved book (asked_for s) old new (held_of s) (held_of now) (asks_of s) (asks_of now) (record_of s) (record_of now)
  pub some_live : held_of now ≢ []
  pub some_wanted : wanted book (asked_for s) (record_of now) ≢ []

-- a turn after which the search is done: nothing is live, and the outcome is that of its record
pub record IsDone (book : Book) (new : View) (now : Search) (outcome : Outcome) : Type 0 where
  pub done : is_done now ≡ true
  pub none_live : NoneLive new
  pub ends : EndsAs book (asked_for now) (record_of now) outcome

-- what the answer of a turn means
abbrev pub Means : Turn → Book → View → View → Search → Search → Type 0
Means turns.Waits book old new s now = GoesOn false book old new s now
Means turns.Moved book old new s now = GoesOn true book old new s now
Means (turns.Done outcome) book old new s now = IsDone book new now outcome

-- what a turn does: it tells the record just what it heard of its own asks and which asks were refused, its asks stay within
-- their bound, and its answer means what it says
pub record Turns (book : Book) (old new : View) (s now : Search) (answer : Turn) : Type 0 where
  pub same_ask : asked_for now ≡ asked_for s
  pub passes : Passes book (asked_for s) old new (held_of s) (record_of s) (record_of now)
  pub is_record : IsRecord book (asked_for now) (record_of now)
  pub more_asks : asks_of s ≤ asks_of now
  pub bounded : asks_of now ≤ most_asks book (asked_for s)
  pub means : Means answer book old new s now
