-- Links to the regions of files that are open, and the book that was learned of them.
use Rattle.std.specs.Prelude.{◌≡◌, ℕ, true, List, map, Some, Result, Ok, Err}
use Rattle.ojp_outside.specs.Seen.{StoreView}
use Rattle.ojp_timetable.specs.Tables.{Timetable}
use Rattle.ojp_exchange.specs.Book.{Book, points_of}
use Rattle.ojp_exchange.specs.Joins.{JoinFails}
use Rattle.ojp_exchange.specs.declared.refusals.BookRefused.{BookRefused}
use Rattle.ojp_values.specs.Texts.{Text}
use Rattle.ojp_links.specs.Seen.{View, NoneLive, TellsTables}
use Rattle.ojp_records.specs.Headline.{AreTablesOf}
use Rattle.ojp_turns.specs.Held.{HasRegions}
use Rattle.ojp_links_mem.specs.Files.{FilesView}
use Rattle.ojp_links_mem.specs.Memory.{AreRising}
use Rattle.ojp_steps.specs.Lent.{Lent, before}
use Rattle.ojp_steps.specs.declared.failures.Failure.{Failure}
use Rattle.ojp_plan.specs.Files.{AreTextsOf, FilesFail}

-- nothing is live, these timetables and this order are told, no region failed yet, and none will but by a rejection
pub record IsReady (v : View) (order : ℕ) (tables : List Timetable) : Type 0 where
  pub none_live : NoneLive v
  pub tells : TellsTables v tables
  pub in_order : v.fixed.order ≡ Some order
  pub sure : v.fixed.is_sure ≡ true
  pub no_faults : (region : ℕ) → v.faults region ≡ 0

-- the links are open over the timetables given, which they tell in rising order of their codes
pub record IsOpenOver (given : List Timetable) (order : ℕ) (v : View) : Type 0 where
  pub tables : List Timetable
  pub rising : AreRising given tables
  pub ready : IsReady v order tables

-- the book of the timetables given was learned of links that are open over them
pub record IsLearnedOf (given : List Timetable) (order : ℕ) (book : Book) (v : View) : Type 0 where
  pub over : IsOpenOver given order v
  pub theirs : AreTablesOf over.tables book
  pub regions : HasRegions book v

-- the links were opened over the timetables given; or two of these are of one region
abbrev pub OpensOver : List Timetable → View → Result (Unit {0}) BookRefused → Type 0
OpensOver given v (Ok done) = IsOpenOver given 0 v
OpensOver given v (Err reason) = JoinFails (map points_of given) reason

-- the book of the timetables given was learned; or they make none, for this reason
abbrev pub LearnsOf : List Timetable → ℕ → View → Result Book BookRefused → Type 0
LearnsOf given order v (Ok book) = IsLearnedOf given order book v
LearnsOf given order v (Err reason) = JoinFails (map points_of given) reason

-- the files are the texts of timetables, whose book was learned, and no ask is counted yet
pub record IsPrepared (store : StoreView) (names : List Text) (order : ℕ) (v : View) (book : Book) : Type 0 where
  pub given : List Timetable
  pub texts : AreTextsOf store names given
  pub learned : IsLearnedOf given order book v
  pub none_made : v.made ≡ 0

-- how the regions of the files are prepared, or why they are not
abbrev pub Prepares : {F : Type 0} → List Text → ℕ → Lent F FilesView → View → Result Book Failure → Type 0
Prepares names order files v (Ok book) = IsPrepared (before files).store names order v book
Prepares names order files v (Err failure) = FilesFail names files failure
