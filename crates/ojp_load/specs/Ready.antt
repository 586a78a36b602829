-- The links to the regions of a network, and what is known of its asks.
use Rattle.std.specs.Prelude.{◌≡◌, ◌≢◌, ℕ, true, List, map}
use Rattle.ojp_values.specs.Texts.{Text}
use Rattle.ojp_timetable.specs.Tables.{Timetable}
use Rattle.ojp_timetable.specs.TableText.{IsTextRefused}
use Rattle.ojp_timetable.specs.declared.file.lines.TableReason.{TableReason}
use Rattle.ojp_exchange.specs.Book.{Book, points_of}
use Rattle.ojp_exchange.specs.Joins.{JoinFails}
use Rattle.ojp_exchange.specs.declared.refusals.BookRefused.{BookRefused}
use Rattle.ojp_exchange.specs.declared.refusals.BookRefused.TheVariants as book_refusals
use Rattle.ojp_links.specs.Seen.{NoneLive, TellsTables, View}
use Rattle.ojp_records.specs.Headline.{AreTablesOf}
use Rattle.ojp_turns.specs.Held.{HasRegions}
use Rattle.ojp_network.specs.declared.shapes.LoadAsk.{LoadAsk}
use Rattle.ojp_network_laws.specs.Laws.{IsGood}

-- no line of the file is refused
abbrev pub IsAccepted : Text → Type 0
IsAccepted bytes = (line : ℕ) (reason : TableReason) → IsTextRefused bytes line reason → ⊥

-- the timetables are refused as regions of a book for no reason but want of memory
abbrev pub MakeBook : List Timetable → Type 0
MakeBook tables = (reason : BookRefused) → JoinFails (map points_of tables) reason → reason ≢ book_refusals.NoMemory → ⊥

-- the order is one, and the ask is for a trip between two different known stops
abbrev pub IsGoodAsk : List Timetable → LoadAsk → Type 0
IsGoodAsk tables load = IsGood tables load

-- nothing is live, these timetables are told, no region failed yet, and none will but by a rejection
pub record AreLinksOpen (tables : List Timetable) (v : View) : Type 0 where
  pub none_live : NoneLive v
  pub tells : TellsTables v tables
  pub sure : v.fixed.is_sure ≡ true
  pub no_faults : (region : ℕ) → v.faults region ≡ 0

-- the links are open over the timetables, and the book is theirs
pub record IsReady (tables : List Timetable) (book : Book) (v : View) : Type 0 where
  pub is_open : AreLinksOpen tables v
  pub theirs : AreTablesOf tables book
  pub regions : HasRegions book v
