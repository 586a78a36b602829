-- How the book is learned: each region lists its exchange points.
use Rattle.std.specs.Prelude.{◌≡◌, ◌≢◌, ◌<◌, ℕ, List, length, map, take, slice_get, Some, None, Result, Ok, Err}
use Rattle.ojp_outside.specs.Causes.{Rose}
use Rattle.ojp_values.specs.Texts.{Text}
use Rattle.ojp_values.specs.declared.asks.Ask.{Ask}
use Rattle.ojp_values.specs.declared.asks.Ask.TheVariants as asks
use Rattle.ojp_values.specs.declared.trips.Point.{Point}
use Rattle.ojp_values.specs.declared.replies.PointsReply.TheVariants as points_replies
use Rattle.ojp_values.specs.declared.replies.Delivery.{Delivery}
use Rattle.ojp_values.specs.declared.replies.Delivery.TheVariants as deliveries
use Rattle.ojp_timetable.specs.Tables.{Timetable}
use Rattle.ojp_timetable.specs.Answers.{RegionAnswers}
use Rattle.ojp_timetable.specs.Points.{AreWellPoints}
use Rattle.ojp_exchange.specs.declared.region_points.RegionPoints.{RegionPoints}
use Rattle.ojp_exchange.specs.declared.refusals.BookRefused.{BookRefused}
use Rattle.ojp_exchange.specs.declared.refusals.BookRefused.TheVariants as book_refusals
use Rattle.ojp_exchange.specs.Book.{Book, points_of}
use Rattle.ojp_exchange.specs.Joins.{AreWellLists, IsJoined, JoinFails}
use Rattle.ojp_links.specs.Replies.{FitsExpected, IsReplyOf, ask_of}
use Rattle.ojp_links.specs.Seen.{View, NoneLive, code_at, codes_of, TellsTables}
use Rattle.ojp_links.specs.Calls.{Keeps}
use Rattle.ojp_records.specs.Headline.{AreTablesOf}
use Rattle.ojp_subrequests.specs.declared.subreply.SubEnd.{SubEnd}
use Rattle.ojp_subrequests.specs.declared.subreply.SubEnd.TheVariants as ends
use Rattle.ojp_subrequests.specs.Views.{SubView}
use Rattle.ojp_subrequests.specs.Subrequests.{IsHeldIn, IsSafe}
use Rattle.ojp_turns.specs.Faults.{NoRejectionRose}
use Rattle.ojp_turns.specs.Held.{HasRegions}
use Rattle.ojp_gateway.specs.declared.learning.LearnRefused.{LearnRefused}
use Rattle.ojp_gateway.specs.declared.learning.LearnRefused.TheVariants as refusals

-- ---- one subrequest

-- the subrequest is live, and nothing else is
pub record IsAlone (s : SubView) (v : View) : Type 0 where
  pub held : IsHeldIn s v
  pub only : (key : ℕ) → key ≢ s.key → v.live key ≡ None

-- where servers are told, the delivery is the answer of the timetable of the region's server to the ask
abbrev pub IsServedBy : View → ℕ → Ask → Delivery → Type 0
IsServedBy v region ask delivery =
    (tables : List Timetable) → v.fixed.servers ≡ Some tables → (table : Timetable) → slice_get tables region ≡ Some table → RegionAnswers table ask delivery

-- the delivery was heard in a whole reply and fits, and where servers are told, it is its server's answer
pub record IsReplied (v : View) (s : SubView) (delivery : Delivery) : Type 0 where
  pub bytes : List ℕ
  pub reply : IsReplyOf bytes delivery
  pub fits : FitsExpected s.expect delivery
  pub answers : IsServedBy v s.region (ask_of s.expect) delivery

-- what the end of a subrequest means
abbrev pub EndMeans : View → View → SubView → SubEnd → Type 0
EndMeans old new s (ends.Heard delivery) = IsReplied old s delivery
EndMeans old new s ends.Failed = Rose (old.faults s.region) (new.faults s.region)
EndMeans old new s ends.NoMemory = Unit {0}

-- a subrequest that was alone came to its end: nothing is live, and it was not rejected where it is safe
pub record Hears (old new : View) (s : SubView) (end : SubEnd) : Type 0 where
  pub keeps : Keeps old new
  pub none_live : NoneLive new
  pub rejects_none : IsSafe old s s.expect → new.rejections ≡ old.rejections
  pub means : EndMeans old new s end

-- ---- the lists

-- the ask for all exchange points
abbrev pub all_points_ask : Ask
all_points_ask = asks.Points (record { place = None })

-- the delivery lists exchange points
abbrev pub IsListing : Delivery → Type 0
IsListing delivery = (points : List Point) × (delivery ≡ deliveries.Points (points_replies.Points points))

-- the list is the region's: what it may declare, and where timetables are told, what its own declares
pub record IsListOf (v : View) (region : ℕ) (list : RegionPoints) : Type 0 where
  pub code : list.code ≡ code_at v region
  pub well : AreWellPoints list.code list.points
  pub told : (tables : List Timetable) → TellsTables v tables → (table : Timetable) → slice_get tables region ≡ Some table → list.points ≡ table.points

-- the code of a list
abbrev pub code_of_list : RegionPoints → Text
code_of_list list = list.code

-- they are the lists of the first regions, so many
pub record AreLists (v : View) (count : ℕ) (lists : List RegionPoints) : Type 0 where
  pub codes : map code_of_list lists ≡ take count (codes_of v.fixed)
  pub well : AreWellLists lists
  pub told : (tables : List Timetable) → TellsTables v tables → lists ≡ map points_of (take count tables)

-- where timetables are told, no count of rejections rose
abbrev pub RejectsNoneTold : View → View → Type 0
RejectsNoneTold old new = (tables : List Timetable) → TellsTables old tables → NoRejectionRose old new

-- they are the lists of all regions: what each may declare, and where timetables are told, what each declares
pub record AreHeard (v : View) (lists : List RegionPoints) : Type 0 where
  pub codes : map code_of_list lists ≡ codes_of v.fixed
  pub well : AreWellLists lists
  pub told : (tables : List Timetable) → TellsTables v tables → lists ≡ map points_of tables

-- ---- what is learned

-- the book of the lists that were heard: its regions are the links' codes, and where timetables are told, it is theirs
pub record IsLearned (v : View) (book : Book) : Type 0 where
  pub lists : List RegionPoints
  pub heard : AreHeard v lists
  pub joined : IsJoined lists book
  pub regions : HasRegions book v
  pub theirs : (tables : List Timetable) → TellsTables v tables → AreTablesOf tables book

-- the region with the code failed, and its count of faults rose; the lists of those before it were heard
pub record FailsFirst (old new : View) (code : Text) : Type 0 where
  pub region : ℕ
  pub below : region < length old.fixed.stations
  pub is : code_at old region ≡ code
  pub rose : Rose (old.faults region) (new.faults region)
  pub lists : List RegionPoints
  pub before : AreLists old region lists

-- the lists that were heard make no book, for this reason
pub record IsRefusedHeard (v : View) (reason : BookRefused) : Type 0 where
  pub lists : List RegionPoints
  pub heard : AreHeard v lists
  pub refused : JoinFails lists reason
  pub some : reason ≢ book_refusals.NoMemory

-- what the answer of a learning call means
abbrev pub LearnsAs : View → View → Result Book LearnRefused → Type 0
LearnsAs old new (Ok book) = IsLearned old book
LearnsAs old new (Err (refusals.Region code)) = FailsFirst old new code
LearnsAs old new (Err (refusals.Book reason)) = IsRefusedHeard old reason
LearnsAs old new (Err refusals.NoMemory) = Unit {0}

-- the regions were asked, one after another, for all their exchange points
pub record Learns (old new : View) (result : Result Book LearnRefused) : Type 0 where
  pub keeps : Keeps old new
  pub none_live : NoneLive new
  pub none_rejected : RejectsNoneTold old new
  pub learns : LearnsAs old new result
