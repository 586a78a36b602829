-- Regions in memory as links: which replies they give, and when.
use Rattle.std.specs.Prelude.{◌≡◌, ◌≢◌, ◌++◌, ◌∷◌, ◌&&◌, ℕ, zero, suc, Bool, true, false, List, [], map, slice_get, Option, Some, None, is_some, Result, Ok, Err, IsPermutation}
use Rattle.std.specs.Map.{lookup}
use Rattle.std.specs.Ordering.{is_eq, nat_cmp}
use Rattle.ojp_outside.specs.Causes.{next_count}
use Rattle.ojp_values.specs.Lists.{Among, IsRising}
use Rattle.ojp_values.specs.Texts.{Text, text_lt}
use Rattle.ojp_timetable.specs.Tables.{Timetable}
use Rattle.slab.specs.Slab as slabs
use Rattle.slab.specs.Slab.{Slab}
use Rattle.ojp_links.specs.declared.links.More.{More}
use Rattle.ojp_links.specs.declared.links.More.TheVariants as mores
use Rattle.ojp_links.specs.declared.links.Sub.{Sub}
use Rattle.ojp_links.specs.declared.links.AskRefused.{AskRefused}
use Rattle.ojp_links.specs.declared.links.AskRefused.TheVariants as refused
use Rattle.ojp_links.specs.Seen.{View, Fixed, NoneLive, Station, ask_at, region_of_table, rests_needed}
use Rattle.ojp_links_mem.specs.Scripts.{answering, said_of}
use Rattle.ojp_links_mem.specs.Regions.{ChangesAt, count_at, fault_count, faulted, rejected, rejection_count, station_of, tables_of}
use Rattle.ojp_links_mem.specs.Pending.{AllRested, IsMade, LooksAt, live_in}
use Rattle.ojp_links_mem.specs.declared.pending.Pending.{Pending}
use Rattle.ojp_links_mem.specs.declared.regions.Region.{Region}
use Rattle.ojp_links_mem.specs.declared.script.What.{What}
use Rattle.ojp_links_mem.specs.declared.script.Script.{Script}

-- regions in memory: the timetables by rising codes; the regions by their numbers; what the script says of asks by their numbers;
-- the live asks; the order in which replies become ready; how many bytes a look gives at most (0: all); the numbers of asks and of
-- rests; how often an ask may still answer that nothing came; and whether timetables and the order are told
pub record MemView : Type 0 where
  pub tables : List Timetable
  pub regions : List Region
  pub script : List (ℕ × What)
  pub asks : Slab Pending
  pub order : ℕ
  pub most : ℕ
  pub made : ℕ
  pub patience : ℕ
  pub rested : ℕ
  pub tells_servers : Bool
  pub tells_order : Bool

-- what the script says of the ask with the number
abbrev pub said_in : List (ℕ × What) → ℕ → Option What
said_in script number = lookup (λ ask. is_eq (nat_cmp number ask)) script

-- the timetables of the regions, where they are told
abbrev pub told_tables : Bool → List Timetable → List Region → Option (List Timetable)
told_tables true tables regions = Some (tables_of tables regions)
told_tables false tables regions = None

-- the order, where it is told
abbrev pub told_order : Bool → ℕ → Option ℕ
told_order true order = Some order
told_order false order = None

-- they tell their replies; where they tell timetables, counts rise by rejections alone
abbrev pub fixed_of : MemView → Fixed
fixed_of m = record {
  stations = map station_of m.regions;
  servers = told_tables m.tells_servers m.tables m.regions;
  tells_replies = true;
  order = told_order m.tells_order m.order;
  is_sure = m.tells_servers;
}

-- what is seen of them as links
abbrev pub links_of : MemView → View
links_of m = record {
  fixed = fixed_of m;
  faults = count_at (map fault_count m.regions);
  rejections = count_at (map rejection_count m.regions);
  live = live_in m.asks;
  made = m.made;
  patience = Some m.patience;
}

-- ---- the constructors

-- the timetables in rising order of their codes
pub record AreRising (given rising : List Timetable) : Type 0 where
  pub just_these : IsPermutation given rising
  pub codes_rise : IsRising text_lt (map region_of_table rising)

-- a region that no call added
abbrev pub own_station : Timetable → Station
own_station table = record { code = table.region; address = None }

-- no call was made yet
pub record IsFresh (m : MemView) : Type 0 where
  pub none_live : NoneLive (links_of m)
  pub none_made : m.made ≡ 0
  pub no_rest : m.rested ≡ 0
  pub no_faults : (region : ℕ) → (links_of m).faults region ≡ 0
  pub no_rejections : (region : ℕ) → (links_of m).rejections region ≡ 0

-- over these timetables, in rising order, with this order of replies and so many bytes for a look
pub record IsOver (given : List Timetable) (by at_most : ℕ) (m : MemView) : Type 0 where
  pub rising : AreRising given m.tables
  pub stations_are : (fixed_of m).stations ≡ map own_station m.tables
  pub order_is : m.order ≡ by
  pub most_is : m.most ≡ at_most
  pub fresh : IsFresh m

-- the order is told where a look gives all bytes
abbrev pub order_by : ℕ → ℕ → Option ℕ
order_by zero order = Some order
order_by (suc most) order = None

-- as made by `new`: they tell their timetables, and where a look gives all bytes their order; counts rise by rejections alone
pub record IsNewOver (given : List Timetable) (by at_most : ℕ) (m : MemView) : Type 0 where
  pub over : IsOver given by at_most m
  pub servers_are : (fixed_of m).servers ≡ Some m.tables
  pub tells : (fixed_of m).order ≡ order_by at_most by
  pub sure : (fixed_of m).is_sure ≡ true
  pub no_script : (number : ℕ) → said_in m.script number ≡ None

-- as made by `scripted`: they tell neither timetables nor their order
pub record IsScriptedOver (given : List Timetable) (by at_most : ℕ) (says : List Script) (m : MemView) : Type 0 where
  pub over : IsOver given by at_most m
  pub no_servers : (fixed_of m).servers ≡ None
  pub no_order : (fixed_of m).order ≡ None
  pub script_is : (number : ℕ) → said_in m.script number ≡ said_of says number

-- as made by `unopened`: there is no region yet
pub record IsUnopenedOver (given : List Timetable) (by : ℕ) (m : MemView) : Type 0 where
  pub rising : AreRising given m.tables
  pub no_stations : (fixed_of m).stations ≡ []
  pub no_servers : (fixed_of m).servers ≡ Some []
  pub no_order : (fixed_of m).order ≡ None
  pub sure : (fixed_of m).is_sure ≡ true
  pub order_is : m.order ≡ by
  pub all_bytes : m.most ≡ 0
  pub no_script : (number : ℕ) → said_in m.script number ≡ None
  pub fresh : IsFresh m

-- ---- the calls

-- the same timetables, script, order and bytes for a look, and as much is told
pub record SameTerms (old new : MemView) : Type 0 where
  pub tables_same : new.tables ≡ old.tables
  pub script_same : new.script ≡ old.script
  pub order_same : new.order ≡ old.order
  pub most_same : new.most ≡ old.most
  pub servers_same : new.tells_servers ≡ old.tells_servers
  pub tells_same : new.tells_order ≡ old.tells_order

-- the number of a region's timetable, if it has one
abbrev pub table_number : Option Region → Option ℕ
table_number None = None
table_number (Some region) = region.table

-- what the script says of the next ask
abbrev pub said_next : MemView → Option What
said_next m = said_in m.script (next_count m.made)

-- the number of the timetable that answers the next ask of the region, unless it fails at once
abbrev pub answers_next : MemView → ℕ → Option ℕ
answers_next m region = answering (said_next m) (table_number (slice_get m.regions region))

-- an ask was made: it is counted, needs the rests of its number, and has its whole reply
pub record MakesAsk (old new : MemView) (region : ℕ) (request : List ℕ) (key : ℕ) : Type 0 where
  pub counted : new.made ≡ next_count old.made
  pub regions_same : new.regions ≡ old.regions
  pub number : ℕ
  pub answers : answers_next old region ≡ Some number
  pub table : Timetable
  pub table_is : slice_get old.tables number ≡ Some table
  pub ask : Pending
  pub ask_is : slabs.get new.asks key ≡ Some ask
  pub made : IsMade region request (rests_needed old.order (next_count old.made)) (said_next old) table ask

-- an ask failed at once: it is counted too, and the region's count of faults rises
pub record FailsAsk (old new : MemView) (region : ℕ) : Type 0 where
  pub counted : new.made ≡ next_count old.made
  pub asks_same : new.asks ≡ old.asks
  pub none_answers : answers_next old region ≡ None
  pub rises : ChangesAt faulted old.regions new.regions region

-- no ask was made, and none is counted
pub record MakesNone (old new : MemView) : Type 0 where
  pub made_same : new.made ≡ old.made
  pub regions_same : new.regions ≡ old.regions

abbrev pub AskEndsBy : MemView → MemView → ℕ → List ℕ → Result Sub AskRefused → Type 0
AskEndsBy old new region request (Ok sub) = MakesAsk old new region request sub.key
AskEndsBy old new region request (Err refused.Failed) = FailsAsk old new region
AskEndsBy old new region request (Err refused.NoMemory) = MakesNone old new

-- what `ask` does here: it fails just where the script says so or the region has no timetable
pub record AsksBy (old new : MemView) (region : ℕ) (request : List ℕ) (result : Result Sub AskRefused) : Type 0 where
  pub terms : SameTerms old new
  pub ends_by : AskEndsBy old new region request result
  pub rested_same : new.rested ≡ old.rested

-- the region's count of faults rises at a look that fails, and at no other
abbrev pub CountsLook : More → List Region → List Region → ℕ → Type 0
CountsLook mores.Failed old new region = ChangesAt faulted old new region
CountsLook mores.Got old new region = new ≡ old
CountsLook mores.NotYet old new region = new ≡ old
CountsLook mores.End old new region = new ≡ old
CountsLook mores.NoMemory old new region = new ≡ old

-- the asks before and after a look, by their keys
pub record LooksAtOne (most : ℕ) (old new : Slab Pending) (key : ℕ) (answer : More) : Type 0 where
  pub looks_at : (p : Pending) → slabs.get old key ≡ Some p → (now : Pending) × (slabs.get new key ≡ Some now) × LooksAt most p now answer
  pub others_stay : (other : ℕ) → other ≢ key → slabs.get new other ≡ slabs.get old other

-- what `more` does here: while rests are needed nothing comes; then a piece of the reply at each look, and then the end
pub record GivesBy (old new : MemView) (key : ℕ) (answer : More) : Type 0 where
  pub terms : SameTerms old new
  pub looks_by : LooksAtOne old.most old.asks new.asks key answer
  pub counts : CountsLook answer old.regions new.regions (ask_at (links_of old) key).region
  pub rested_same : new.rested ≡ old.rested

-- what `close` does here: no count rises
pub record ClosesBy (old new : MemView) : Type 0 where
  pub terms : SameTerms old new
  pub regions_same : new.regions ≡ old.regions
  pub rested_same : new.rested ≡ old.rested

-- what `reject` does here: the two counts of the ask's region rise, and no other
pub record RejectsBy (old new : MemView) (key : ℕ) : Type 0 where
  pub terms : SameTerms old new
  pub rises : ChangesAt rejected old.regions new.regions (ask_at (links_of old) key).region
  pub rested_same : new.rested ≡ old.rested

-- what `rest` does here: each live ask needs one rest less, and no count of faults rises
pub record RestsBy (old new : MemView) : Type 0 where
  pub terms : SameTerms old new
  pub regions_same : new.regions ≡ old.regions
  pub all_rested : AllRested old.asks new.asks
  pub rested_more : new.rested ≡ next_count old.rested

-- what `renumber` does: asks are counted from 1 again, in the new order
pub record Renumbers (old new : MemView) (to : ℕ) : Type 0 where
  pub tables_same : new.tables ≡ old.tables
  pub script_same : new.script ≡ old.script
  pub most_same : new.most ≡ old.most
  pub servers_same : new.tells_servers ≡ old.tells_servers
  pub tells_same : new.tells_order ≡ old.tells_order
  pub regions_same : new.regions ≡ old.regions
  pub asks_same : new.asks ≡ old.asks
  pub order_is : new.order ≡ to
  pub none_made : new.made ≡ 0
  pub rested_same : new.rested ≡ old.rested

-- the number is that of the timetable with the code; where there is none, none has it
abbrev pub IsNumberOf : List Timetable → Text → Option ℕ → Type 0
IsNumberOf tables code None = (table : Timetable) → Among table tables → table.region ≢ code
IsNumberOf tables code (Some number) = (table : Timetable) × (slice_get tables number ≡ Some table) × (table.region ≡ code)

-- what `add` does here: the host is the code of the timetable that answers; the order is told no more, nor are timetables where none has
-- the code
pub record AddsBy (old new : MemView) (host : Text) : Type 0 where
  pub region : Region
  pub behind : new.regions ≡ old.regions ++ region ∷ []
  pub number_is : IsNumberOf old.tables host region.table
  pub tells_no_order : new.tells_order ≡ false
  pub tells_yet : new.tells_servers ≡ (old.tells_servers && is_some region.table)
  pub rested_same : new.rested ≡ old.rested
