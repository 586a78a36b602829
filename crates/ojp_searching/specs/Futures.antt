-- A search as a future: one turn and one rest for each poll, until it has given its value.
use Rattle.std.specs.Prelude.{◌≡◌, ℕ, Option, Some, None, Result, Ok, Err}
use Rattle.futures.specs.declared.task.Poll.{Poll}
use Rattle.futures.specs.declared.task.Poll.TheVariants as polls
use Rattle.ojp_exchange.specs.Book.{Book}
use Rattle.ojp_links.specs.Seen.{View}
use Rattle.ojp_links.specs.Calls.{RestsOnce}
use Rattle.ojp_turns.specs.declared.search.Search.{Search}
use Rattle.ojp_turns.specs.declared.search.Turn.{Turn}
use Rattle.ojp_turns.specs.declared.search.Turn.TheVariants as turns
use Rattle.ojp_turns.specs.Searches.{CanTurn, Turns}
use Rattle.ojp_gateway.specs.Passing.{Sought as IsSought}
use Rattle.ojp_searching.specs.declared.searching.Going.{Going}
use Rattle.ojp_searching.specs.declared.searching.Searching.{Searching}
use Rattle.ojp_searching.specs.declared.searching.Sought.{Sought}

-- no source is waited for: whoever polls is asked to poll again
abbrev pub NeedsNothing : ℕ → Type 0
NeedsNothing source = ⊥

-- the turn was not the last
abbrev pub IsNotLast : Turn → Type 0
IsNotLast turns.Moved = Unit {0}
IsNotLast turns.Waits = Unit {0}
IsNotLast (turns.Done outcome) = ⊥

module _ {L : Type 0} where
  -- it is the search with its book, over these links
  abbrev pub IsOf : Book → Search → L → Searching L → Type 0
  IsOf book search links s = (s.book ≡ book) × (s.going ≡ Some (record { search = search; links = links }))

module _ {L : Type 0} (seen : L → View) where
  -- it has given its value, or its search may turn
  abbrev pub MayTurn : Book → Option (Going L) → Type 0
  MayTurn book None = Unit {0}
  MayTurn book (Some going) = CanTurn book going.search (seen going.links)

  abbrev pub CanPoll : Searching L → Type 0
  CanPoll s = MayTurn s.book s.going

  -- what a search that goes on may give: the outcome by its record, which grew from what it was, with the cause of each new failure
  abbrev pub GivesFrom : Book → Option (Going L) → Sought L → Type 0
  GivesFrom book None x = ⊥
  GivesFrom book (Some going) x = IsSought book (seen going.links) (seen x.links) going.search x.search x.outcome

  abbrev pub Gives : Searching L → Sought L → Type 0
  Gives s x = GivesFrom s.book s.going x

  -- one turn, with this answer, and one rest
  pub record TurnsOnce (book : Book) (before : Going L) (now : Search) (links : L) (answer : Turn) : Type 0 where
    pub between : View
    pub turns : Turns book (seen before.links) between before.search now answer
    pub rests : RestsOnce between (seen links)

  -- the same, by what came of it: the search goes on where the turn was not the last
  abbrev pub TurnsAndRests : Book → Going L → Result (Going L) (Sought L) → Type 0
  TurnsAndRests book before (Ok going) = (answer : Turn) × IsNotLast answer × TurnsOnce book before going.search going.links answer
  TurnsAndRests book before (Err x) = TurnsOnce book before x.search x.links (turns.Done x.outcome)

  -- what a poll of a search that goes on does: one turn and one rest; it is pending exactly where the turn was not the last
  abbrev pub PollsGoing : Book → Going L → Searching L → Poll (Sought L) → Type 0
  PollsGoing book before now polls.Pending =
      (going : Going L) × (now.book ≡ book) × (now.going ≡ Some going) × TurnsAndRests book before (Ok going)
  PollsGoing book before now (polls.Ready x) = (now.going ≡ None) × TurnsAndRests book before (Err x)

  -- a poll after the value was given is pending and does nothing
  abbrev pub PollsFrom : Searching L → Option (Going L) → Searching L → Poll (Sought L) → Type 0
  PollsFrom s None now answer = (now ≡ s) × (answer ≡ polls.Pending)
  PollsFrom s (Some before) now answer = PollsGoing s.book before now answer

  abbrev pub PollsOnce : Searching L → Searching L → Poll (Sought L) → Type 0
  PollsOnce s now answer = PollsFrom s s.going now answer
