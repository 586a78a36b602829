-- A search from poll to poll.
use Rattle.ojp_exchange.specs.Book.{Book}
use Rattle.ojp_links.specs.Seen.{View}
use Rattle.ojp_links.specs.Calls.{Idles}
use Rattle.ojp_turns.specs.declared.search.Outcome.{Outcome}
use Rattle.ojp_turns.specs.declared.search.Search.{Search}
use Rattle.ojp_turns.specs.declared.search.Turn.{Turn}
use Rattle.ojp_turns.specs.declared.search.Turn.TheVariants as turns
use Rattle.ojp_turns.specs.Searches.{CanTurn, asked_for, record_of}
use Rattle.ojp_gateway.specs.Passing.{Sought as IsSought}
use Rattle.ojp_gateway.proofs.SeekFacts.{SeeksOn, grows_on, grows_rest, idled, none_plain, seeks_end, seeks_start, sought_by, turned_moved, turned_waits}
use Rattle.ojp_searching.specs.declared.searching.Going.{Going}
use Rattle.ojp_searching.specs.declared.searching.Sought.{Sought}
use Rattle.ojp_searching.specs.Futures.{IsNotLast, TurnsOnce}

-- a search that came to its end is at it after a rest
rested_end : (book : Book) (old mid new : View) (s now : Search) (outcome : Outcome) → IsSought book old mid s now outcome → Idles mid new → IsSought book old new s now outcome
rested_end book old mid new s now outcome x idles =
    record {
      same_ask = x.same_ask;
      done = x.done;
      none_live = λ key. none_plain (new.live key) (mid.live key) (idles.live key) (x.none_live key);
      ends = x.ends;
      grows = grows_on book (asked_for s) old mid new (record_of s) (record_of now) (record_of now) x.grows (grows_rest book (asked_for s) mid new (record_of now) idles);
    }

module _ {L : Type 0} (seen : L → View) (book : Book) (before : Going L) (can : CanTurn book before.search (seen before.links)) where
  -- a turn that was not the last, and a rest
  pub goes_on : (now : Search) (links : L) (answer : Turn) → IsNotLast answer → TurnsOnce seen book before now links answer → SeeksOn book (seen before.links) (seen links) before.search now
  goes_on now links turns.Moved not_last once =
      idled book (seen before.links) once.between (seen links) before.search now
      (turned_moved book (seen before.links) (seen before.links) once.between before.search before.search now (seeks_start book (seen before.links) before.search can) once.turns) once.rests.idles
  goes_on now links turns.Waits not_last once =
      idled book (seen before.links) once.between (seen links) before.search now
      (turned_waits book (seen before.links) (seen before.links) once.between before.search before.search now (seeks_start book (seen before.links) before.search can) once.turns) once.rests.idles
  goes_on now links (turns.Done outcome) not_last once = absurd not_last

  -- what may be given after it may have been given before it
  pub gives_before : (now : Going L) (answer : Turn) (x : Sought L) → IsNotLast answer → TurnsOnce seen book before now.search now.links answer
      → IsSought book (seen now.links) (seen x.links) now.search x.search x.outcome → IsSought book (seen before.links) (seen x.links) before.search x.search x.outcome
  gives_before now answer x not_last once sought =
      seeks_end book (seen before.links) (seen now.links) (seen x.links) before.search now.search x.search x.outcome (goes_on now.search now.links answer not_last once) sought

-- the last turn, and a rest
pub gives_end : {L : Type 0} (seen : L → View) (book : Book) (before : Going L) (x : Sought L) → TurnsOnce seen book before x.search x.links (turns.Done x.outcome)
    → IsSought book (seen before.links) (seen x.links) before.search x.search x.outcome
gives_end seen book before x once =
    rested_end book (seen before.links) once.between (seen x.links) before.search x.search x.outcome
    (sought_by book (seen before.links) once.between before.search x.search x.outcome once.turns) once.rests.idles
