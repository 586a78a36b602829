-- One subrequest over links: what it holds, and what each of its calls does.
use Rattle.std.specs.Prelude.{◌≡◌, ◌⊎◌, ℕ, Bool, IsTrue, true, false, List, Option, Some, IsSome, IfSome, slice_get, if◌then◌else◌}
use Rattle.ojp_values.specs.Texts.{Text, is_code}
use Rattle.ojp_values.specs.declared.asks.Ask.{Ask}
use Rattle.ojp_values.specs.declared.replies.Delivery.{Delivery}
use Rattle.ojp_values.specs.declared.documents.Doc.{Doc}
use Rattle.ojp_http.specs.Responses.{request_bytes}
use Rattle.ojp_timetable.specs.Tables.{Timetable}
use Rattle.ojp_timetable.specs.Answers.{RegionAnswers}
use Rattle.ojp_grammar.specs.Answering.{SpellsAsk}
use Rattle.ojp_grammar.specs.Documents.{IsWell, Spells}
use Rattle.ojp_links.specs.declared.expect.Expect.{Expect}
use Rattle.ojp_links.specs.declared.expect.Expect.TheVariants as expects
use Rattle.ojp_links.specs.declared.links.More.{More}
use Rattle.ojp_links.specs.declared.links.More.TheVariants as mores
use Rattle.ojp_links.specs.Replies.{Carries, FitsExpected, IsExpectedOf, IsFront, IsHopeless, IsReplyOf, Requests, ask_of}
use Rattle.ojp_links.specs.Seen.{Live, TellsTables, View, ask_at, code_at, code_in, codes_of, live_or_none}
use Rattle.ojp_links.specs.Calls.{Begins, Closes, Looks, Rejects}
use Rattle.ojp_links.specs.Sure.{IsSure}
use Rattle.ojp_subrequests.specs.Hearing.{CarriesNone, HasHeard, HearingView, IsOpenReply}
use Rattle.ojp_subrequests.specs.Views.{SubView}
use Rattle.ojp_subrequests.specs.declared.subreply.SubPoll.{SubPoll}
use Rattle.ojp_subrequests.specs.declared.subreply.SubPoll.TheVariants as polls
use Rattle.ojp_subrequests.specs.declared.subreply.SubEnd.TheVariants as ends

-- what is expected of the reply
abbrev pub expect_of : Bool → Text → Ask → Expect
expect_of b code ask = if b then expects.Region code ask else expects.Kind ask

-- the ask is the subrequest's: it is live, of its region, and asks what it expects
pub record IsOwn (s : SubView) (codes : List Text) (ask : Option Live) : Type 0 where
  pub not_over : s.over ≡ false
  pub live : IsSome ask
  pub of_region : (live_or_none ask).region ≡ s.region
  pub expected : IsExpectedOf (code_in codes s.region) s.expect
  pub asked : Requests (live_or_none ask).request (ask_of s.expect)

-- its ask is live, with just the bytes that its polls heard
pub record IsHeldAs (s : SubView) (codes : List Text) (ask : Option Live) : Type 0 where
  pub own : IsOwn s codes ask
  pub heard : HasHeard s.heard (live_or_none ask).taken
  pub not_ended : (live_or_none ask).ended ≡ false

-- its ask is live in these links, with just the bytes that its polls heard
abbrev pub IsHeldIn : SubView → View → Type 0
IsHeldIn s v = IsHeldAs s (codes_of v.fixed) (v.live s.key)

-- ---- begin

-- the bytes are the document, which is within the limits of its shape
pub record IsSpelled (doc : Doc) (bytes : List ℕ) : Type 0 where
  pub well : IsWell doc
  pub spells : Spells doc bytes

-- the bytes are the request to the region with the code, whose body is the document
pub record IsRequestOf (code : Text) (doc : Doc) (bytes : List ℕ) : Type 0 where
  pub body : List ℕ
  pub spelled : IsSpelled doc body
  pub is : bytes ≡ request_bytes code body
  pub is_code : IsTrue (is_code code)

-- the ask that `begin` made: its request is that for the region's code and the document of the ask
pub record MakesAsk (old new : View) (to : ℕ) (asking : Ask) (strict : Bool) (s : SubView) : Type 0 where
  pub body : List ℕ
  pub spells : SpellsAsk asking body
  pub begins : Begins old new to (request_bytes (code_at old to) body) s.key
  pub of_region : s.region ≡ to
  pub expects : s.expect ≡ expect_of strict (code_at old to) asking
  pub held : IsHeldIn s new

-- ---- poll

-- what was heard before a look, by what the look gave
abbrev pub WasHeard : More → HearingView → Live → Type 0
WasHeard mores.Got h ask = (before : List ℕ) × IsFront before ask.taken × HasHeard h before × (ask.ended ≡ false)
WasHeard mores.End h ask = HasHeard h ask.taken × (ask.ended ≡ true)
WasHeard mores.NotYet h ask = HasHeard h ask.taken × (ask.ended ≡ false)
WasHeard mores.Failed h ask = Unit {0}
WasHeard mores.NoMemory h ask = Unit {0}

-- its ask was looked at
pub record IsLookedAt (s : SubView) (codes : List Text) (ask : Option Live) (more : More) : Type 0 where
  pub own : IsOwn s codes ask
  pub was_heard : WasHeard more s.heard (live_or_none ask)

-- its ask was looked at in these links
abbrev pub IsLookedIn : SubView → View → More → Type 0
IsLookedIn s v more = IsLookedAt s (codes_of v.fixed) (v.live s.key) more

-- the subrequest goes on: what was looked at is as the look left it, and the bytes are its own
pub record GoesOn (seen new : View) (before now : SubView) : Type 0 where
  pub same : new ≡ seen
  pub key : now.key ≡ before.key
  pub region : now.region ≡ before.region
  pub expects : now.expect ≡ before.expect
  pub held : IsHeldIn now seen

-- the subrequest is over with a reply: the bytes taken are one whole reply that fits
pub record IsHeard (seen new : View) (key : ℕ) (expect : Expect) (delivery : Delivery) : Type 0 where
  pub closes : Closes seen new key
  pub reply : IsReplyOf (ask_at seen key).taken delivery
  pub fits : FitsExpected expect delivery

-- what condemns bytes while more may come: no reply with a delivery begins with them, or they are one whole reply that does not fit
abbrev pub AreCondemned : Expect → List ℕ → Type 0
AreCondemned expect bytes = CarriesNone bytes ⊎ ((delivery : Delivery) × IsReplyOf bytes delivery × (FitsExpected expect delivery → ⊥))

-- the bytes taken are hopeless, and were rejected
pub record IsRejected (more : More) (seen new : View) (key : ℕ) (expect : Expect) : Type 0 where
  pub rejects : Rejects seen new key
  pub hopeless : IsHopeless expect (ask_at seen key).taken (ask_at seen key).ended
  pub condemned : more ≡ mores.Got → AreCondemned expect (ask_at seen key).taken

-- bytes came, or their end was seen
abbrev pub IsNews : More → Type 0
IsNews more = (more ≡ mores.Got) ⊎ (more ≡ mores.End)

-- what a poll does after its one look, by its answer
abbrev pub AfterLook : SubPoll → More → View → View → SubView → SubView → Type 0
AfterLook polls.Pending more seen new before now = (more ≡ mores.NotYet) × GoesOn seen new before now
AfterLook polls.Moved more seen new before now = (more ≡ mores.Got) × GoesOn seen new before now × IsOpenReply (ask_at seen before.key).taken
AfterLook (polls.Over (ends.Heard delivery)) more seen new before now = (now.over ≡ true) × (more ≡ mores.Got) × IsHeard seen new before.key before.expect delivery
AfterLook (polls.Over ends.Failed) more seen new before now =
    (now.over ≡ true) × (((more ≡ mores.Failed) × Closes seen new before.key) ⊎ (IsNews more × IsRejected more seen new before.key before.expect))
AfterLook (polls.Over ends.NoMemory) more seen new before now = (now.over ≡ true) × ((more ≡ mores.Got) ⊎ (more ≡ mores.NoMemory)) × Closes seen new before.key

-- what a poll does: one look at its ask, and then what the bytes taken ask for
pub record Polls (old new : View) (before now : SubView) (answer : SubPoll) : Type 0 where
  pub more : More
  pub seen : View
  pub looks : Looks old seen before.key more
  pub after : AfterLook answer more seen new before now

-- ---- what is told

-- what the poll tells where something is heard, over what the links tell
pub record HearsTold (old : View) (s : SubView) (delivery : Delivery) : Type 0 where
  pub fits : FitsExpected s.expect delivery
  pub carried : IfSome (ask_at old s.key).reply (λ whole. Carries whole delivery)
  pub answers : (tables : List Timetable) → old.fixed.servers ≡ Some tables → (table : Timetable) → slice_get tables s.region ≡ Some table
      → RegionAnswers table (ask_of s.expect) delivery

-- P holds of the delivery, where one was heard
abbrev pub OnHeard : SubPoll → (Delivery → Type 0) → Type 0
OnHeard polls.Pending P = Unit {0}
OnHeard polls.Moved P = Unit {0}
OnHeard (polls.Over (ends.Heard delivery)) P = P delivery
OnHeard (polls.Over ends.Failed) P = Unit {0}
OnHeard (polls.Over ends.NoMemory) P = Unit {0}

-- P holds, where the subrequest failed
abbrev pub OnFailed : SubPoll → Type 0 → Type 0
OnFailed polls.Pending P = Unit {0}
OnFailed polls.Moved P = Unit {0}
OnFailed (polls.Over (ends.Heard delivery)) P = Unit {0}
OnFailed (polls.Over ends.Failed) P = P
OnFailed (polls.Over ends.NoMemory) P = Unit {0}

-- an ask that is never condemned: of a region that tells its timetable and is sure of it; or one of which any delivery of
-- the kind will do, where servers are told
abbrev pub IsSafe : View → SubView → Expect → Type 0
IsSafe v s (expects.Region code ask) =
    (tables : List Timetable) × TellsTables v tables × ((table : Timetable) × (slice_get tables s.region ≡ Some table) × IsSure table ask)
IsSafe v s (expects.Kind ask) = (tables : List Timetable) × (v.fixed.servers ≡ Some tables)
