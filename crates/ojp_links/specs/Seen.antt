-- Links to regions, as contracts see them.
use Rattle.std.specs.Prelude.{◌≡◌, ℕ, ◌+◌, ◌*◌, ◌%◌, ◌≤◌, ◌<◌, Bool, true, false, List, [], map, length, slice_get, unwrap_or, Option, Some, None, IsSome, IfSome}
use Rattle.ojp_values.specs.Lists.{Among}
use Rattle.ojp_values.specs.Texts.{Text}
use Rattle.ojp_timetable.specs.Tables.{Timetable}
use Rattle.ojp_timetable.specs.Runs.{IsWell}
use Rattle.ojp_links.specs.Replies.{IsFront, ServesByTable}

-- where a server listens
pub record Address : Type 0 where
  pub host : Text
  pub port : ℕ

-- a region that can be asked: its code, and the address that it was added with, if it was
pub record Station : Type 0 where
  pub code : Text
  pub address : Option Address

-- what no call on an ask changes: the regions by their numbers, and what the links tell of themselves
pub record Fixed : Type 0 where
  pub stations : List Station
  -- the timetables of the servers, one for each region, where servers are told
  pub servers : Option (List Timetable)
  -- whole replies are told
  pub tells_replies : Bool
  -- the order in which replies become ready, where it is told
  pub order : Option ℕ
  -- counts of faults rise only by a rejection
  pub is_sure : Bool

-- a live ask
pub record Live : Type 0 where
  pub region : ℕ
  pub request : List ℕ
  pub taken : List ℕ
  -- the end was seen
  pub ended : Bool
  -- how often it was looked at
  pub looks : ℕ
  -- its whole reply, where replies are told
  pub reply : Option (List ℕ)
  -- what is left of its reply at most, where patience is told
  pub left : ℕ
  -- the rests that it still needs, where the order is told
  pub rests : ℕ

-- links to regions: what stays, the counts of each region, the live asks by their keys, and how many asks were made
pub record View : Type 0 where
  pub fixed : Fixed
  pub faults : ℕ → ℕ
  pub rejections : ℕ → ℕ
  pub live : ℕ → Option Live
  pub made : ℕ
  -- how often an ask may still answer that nothing came, where it is told
  pub patience : Option ℕ

-- no ask: what stands for one where there is none
abbrev pub no_ask : Live
no_ask = record { region = 0; request = []; taken = []; ended = false; looks = 0; reply = None; left = 0; rests = 0 }

-- the ask, where there is one
abbrev pub live_or_none : Option Live → Live
live_or_none ask = unwrap_or ask no_ask

-- the ask with the key
abbrev pub ask_at : View → ℕ → Live
ask_at v key = unwrap_or (v.live key) no_ask

-- the ask with the key is live
abbrev pub IsLive : View → ℕ → Type 0
IsLive v key = IsSome (v.live key)

-- no ask is live
abbrev pub NoneLive : View → Type 0
NoneLive v = (key : ℕ) → v.live key ≡ None

-- the code of a region
abbrev pub code_of_station : Station → Text
code_of_station station = station.code

-- the codes of the regions, by their numbers
abbrev pub codes_of : Fixed → List Text
codes_of fixed = map code_of_station fixed.stations

-- the code of the region with the number
abbrev pub code_in : List Text → ℕ → Text
code_in codes region = unwrap_or (slice_get codes region) []

abbrev pub code_at : View → ℕ → Text
code_at v region = code_in (codes_of v.fixed) region

-- the region of a timetable
abbrev pub region_of_table : Timetable → Text
region_of_table table = table.region

-- these timetables are told: servers are told, and each has its region's own code
pub record TellsTables (v : View) (tables : List Timetable) : Type 0 where
  pub servers : v.fixed.servers ≡ Some tables
  pub own : map region_of_table tables ≡ codes_of v.fixed

-- how many rests the ask with this number needs, from 1 on
abbrev pub rests_needed : ℕ → ℕ → ℕ
rests_needed order number = 1 + ((number * 7 + order) % 11)

-- the bytes taken are a front of the whole, and all of it once the end was seen
abbrev pub IsDrawnFrom : Live → List ℕ → Type 0
IsDrawnFrom ask whole = IsFront ask.taken whole × (ask.ended ≡ true → ask.taken ≡ whole)

-- the bytes taken are drawn from a response that the region's server gives for the request
abbrev pub IsServedByOne : Live → List Timetable → Type 0
IsServedByOne ask tables =
    (table : Timetable) × (slice_get tables ask.region ≡ Some table) × ((out : List ℕ) × ServesByTable table ask.request out × IsDrawnFrom ask out)

-- the whole reply itself is such a response
abbrev pub IsServedWhole : Live → List Timetable → List ℕ → Type 0
IsServedWhole ask tables whole = (table : Timetable) × (slice_get tables ask.region ≡ Some table) × ServesByTable table ask.request whole

-- what is told of a live ask is so
pub record IsHonest (fixed : Fixed) (ask : Live) : Type 0 where
  pub is_region : ask.region < length fixed.stations
  pub tells : fixed.tells_replies ≡ true → IsSome ask.reply
  pub reply : IfSome ask.reply (IsDrawnFrom ask)
  pub served : IfSome fixed.servers (IsServedByOne ask)
  pub whole : IfSome fixed.servers (λ tables. IfSome ask.reply (IsServedWhole ask tables))

-- the regions with these numbers have their own codes
abbrev pub AreDistinct : List Text → Type 0
AreDistinct xs = (i j : ℕ) (x : Text) → slice_get xs i ≡ Some x → slice_get xs j ≡ Some x → i ≡ j

-- one timetable for each region, and each is well
pub record AreServers (stations : List Station) (tables : List Timetable) : Type 0 where
  pub one_each : length tables ≡ length stations
  pub well : (table : Timetable) → Among table tables → IsWell table

-- the order is one, and where it is told so are the replies
pub record IsOrder (fixed : Fixed) (order : ℕ) : Type 0 where
  pub low : order ≤ 10
  pub replies : fixed.tells_replies ≡ true

-- what the links tell of themselves is in order
pub record IsSound (v : View) : Type 0 where
  pub codes_distinct : AreDistinct (codes_of v.fixed)
  pub servers_well : IfSome v.fixed.servers (AreServers v.fixed.stations)
  pub order_is : IfSome v.fixed.order (IsOrder v.fixed)
  pub sure : v.fixed.is_sure ≡ true → (region : ℕ) → v.faults region ≡ v.rejections region
  pub honest : (key : ℕ) → IsLive v key → IsHonest v.fixed (ask_at v key)
