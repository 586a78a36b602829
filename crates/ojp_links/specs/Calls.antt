-- What each call on links does to what is seen of them.
use Rattle.std.specs.Prelude.{◌≡◌, ◌≢◌, ℕ, ◌-◌, ◌<◌, ◌≤◌, ◌↔◌, true, false, List, [], ◌∷◌, ◌++◌, length, Option, Some, None, IfSome, Result, Ok, Err, option_map}
use Rattle.ojp_values.specs.Texts.{Text}
use Rattle.ojp_outside.specs.Causes.{Rose, next_count}
use Rattle.ojp_timetable.specs.Tables.{Timetable}
use Rattle.ojp_links.specs.Replies.{IsExpectedOf, ask_of, Requests, IsHopeless}
use Rattle.ojp_links.specs.Seen.{Live, View, ask_at, IsLive, code_at, rests_needed}
use Rattle.ojp_links.specs.declared.links.Sub.{Sub}
use Rattle.ojp_links.specs.declared.links.AskRefused.{AskRefused}
use Rattle.ojp_links.specs.declared.links.AskRefused.TheVariants as refused
use Rattle.ojp_links.specs.declared.links.More.{More}
use Rattle.ojp_links.specs.declared.links.More.TheVariants as mores
use Rattle.ojp_links.specs.declared.expect.Expect.{Expect}

-- what stays the same, or only grows, in each call on an ask
pub record Keeps (old new : View) : Type 0 where
  pub fixed : new.fixed ≡ old.fixed
  pub faults : (region : ℕ) → old.faults region ≤ new.faults region

-- where it is told, the number did not rise
abbrev pub NotRaised : Option ℕ → Option ℕ → Type 0
NotRaised None new = new ≡ None
NotRaised (Some before) new = (now : ℕ) × (new ≡ Some now) × (now ≤ before)

-- the asks with other keys are as they were
abbrev pub OthersStay : View → View → ℕ → Type 0
OthersStay old new key = (other : ℕ) → other ≢ key → new.live other ≡ old.live other

-- ---- ask

-- one more ask is live, with no byte taken
pub record Begins (old new : View) (to : ℕ) (bytes : List ℕ) (key : ℕ) : Type 0 where
  pub vacant : old.live key ≡ None
  pub live : IsLive new key
  pub others : OthersStay old new key
  pub region : (ask_at new key).region ≡ to
  pub request : (ask_at new key).request ≡ bytes
  pub none_taken : (ask_at new key).taken ≡ []
  pub not_ended : (ask_at new key).ended ≡ false
  pub counted : new.made ≡ next_count old.made
  pub rests : IfSome old.fixed.order (λ order. (ask_at new key).rests ≡ rests_needed order new.made)

-- a refused ask leaves the live asks as they were
abbrev pub AskEnds : View → View → ℕ → List ℕ → Result Sub AskRefused → Type 0
AskEnds old new region request (Ok sub) = Begins old new region request sub.key
AskEnds old new region request (Err refused.Failed) = (new.live ≡ old.live) × Rose (old.faults region) (new.faults region)
AskEnds old new region request (Err refused.NoMemory) = new.live ≡ old.live

-- what `ask` does
pub record Asks (old new : View) (region : ℕ) (request : List ℕ) (result : Result Sub AskRefused) : Type 0 where
  pub keeps : Keeps old new
  pub rejections : new.rejections ≡ old.rejections
  pub ends : AskEnds old new region request result

-- ---- more

-- what an answer says of the bytes taken, and of the end
abbrev pub Gives : More → Live → Live → Type 0
Gives mores.Got old new =
    ((gained : List ℕ) × (gained ≢ []) × (new.taken ≡ old.taken ++ gained)) × (old.ended ≡ false) × (new.ended ≡ false)
Gives mores.End old new = (new.taken ≡ old.taken) × (new.ended ≡ true)
Gives mores.NotYet old new = (new.taken ≡ old.taken) × (new.ended ≡ old.ended)
Gives mores.Failed old new = (new.taken ≡ old.taken) × (new.ended ≡ old.ended)
Gives mores.NoMemory old new = (new.taken ≡ old.taken) × (new.ended ≡ old.ended)

-- what is left of the reply falls where bytes come, and never rises
abbrev pub Lowers : More → ℕ → ℕ → Type 0
Lowers mores.Got before now = now < before
Lowers mores.End before now = now ≤ before
Lowers mores.NotYet before now = now ≤ before
Lowers mores.Failed before now = now ≤ before
Lowers mores.NoMemory before now = now ≤ before

-- patience does not rise; while there is none, something comes; and what is left falls
abbrev pub IsPatient : Option ℕ → Option ℕ → More → ℕ → ℕ → Type 0
IsPatient None new answer before now = new ≡ None
IsPatient (Some patience) new answer before now =
    NotRaised (Some patience) new × (answer ≡ mores.NotYet → 0 < patience) × Lowers answer before now

-- where the order is told: nothing comes while rests are needed, and then the whole reply at once, and then the end
pub record IsInOrder (old new : Live) (answer : More) : Type 0 where
  pub waits : answer ≡ mores.NotYet ↔ 0 < old.rests
  pub whole : old.rests ≡ 0 → old.taken ≡ [] → answer ≢ mores.NoMemory → (answer ≡ mores.Got) × (new.reply ≡ Some new.taken)
  pub ends : old.rests ≡ 0 → old.taken ≢ [] → answer ≢ mores.NoMemory → answer ≡ mores.End

-- what `more` does
pub record Looks (old new : View) (key : ℕ) (answer : More) : Type 0 where
  pub keeps : Keeps old new
  pub rejections : new.rejections ≡ old.rejections
  pub made : new.made ≡ old.made
  pub others : OthersStay old new key
  pub live : IsLive new key
  pub region : (ask_at new key).region ≡ (ask_at old key).region
  pub request : (ask_at new key).request ≡ (ask_at old key).request
  pub reply : (ask_at new key).reply ≡ (ask_at old key).reply
  pub rests : (ask_at new key).rests ≡ (ask_at old key).rests
  pub looks : Rose (ask_at old key).looks (ask_at new key).looks
  pub gives : Gives answer (ask_at old key) (ask_at new key)
  pub patience : IsPatient old.patience new.patience answer (ask_at old key).left (ask_at new key).left
  pub ordered : IfSome old.fixed.order (λ order. IsInOrder (ask_at old key) (ask_at new key) answer)
  pub failed : answer ≡ mores.Failed → Rose (old.faults (ask_at old key).region) (new.faults (ask_at old key).region)

-- ---- close and reject

-- the ask is live no more
pub record Drops (old new : View) (key : ℕ) : Type 0 where
  pub keeps : Keeps old new
  pub made : new.made ≡ old.made
  pub others : OthersStay old new key
  pub gone : new.live key ≡ None
  pub patience : NotRaised old.patience new.patience

-- what `close` does
pub record Closes (old new : View) (key : ℕ) : Type 0 where
  pub drops : Drops old new key
  pub rejections : new.rejections ≡ old.rejections

-- what `reject` does: both counts of the region rise
pub record Rejects (old new : View) (key : ℕ) : Type 0 where
  pub drops : Drops old new key
  pub fault : Rose (old.faults (ask_at old key).region) (new.faults (ask_at old key).region)
  pub rejection : Rose (old.rejections (ask_at old key).region) (new.rejections (ask_at old key).region)
  pub elsewhere : (region : ℕ) → region ≢ (ask_at old key).region → new.rejections region ≡ old.rejections region

-- what `reject` asks for
pub record MayReject (v : View) (key : ℕ) (expect : Expect) : Type 0 where
  pub live : IsLive v key
  pub of_region : IsExpectedOf (code_at v (ask_at v key).region) expect
  pub asked : Requests (ask_at v key).request (ask_of expect)
  pub hopeless : IsHopeless expect (ask_at v key).taken (ask_at v key).ended

-- ---- rest, wait and add

-- the ask with no rests that it needs
abbrev pub without_rests : Live → Live
without_rests ask = record ask { rests = 0 }

-- the ask after one rest
abbrev pub after_rest : Live → Live
after_rest ask = record ask { rests = ask.rests - 1 }

-- each ask is as it was, but for the rests that it still needs
abbrev pub SameButRests : View → View → Type 0
SameButRests old new = (key : ℕ) → option_map without_rests (new.live key) ≡ option_map without_rests (old.live key)

-- no ask is made or ended, and no count of rejections rises
pub record Idles (old new : View) : Type 0 where
  pub keeps : Keeps old new
  pub rejections : new.rejections ≡ old.rejections
  pub made : new.made ≡ old.made
  pub live : SameButRests old new

-- patience falls, until there is none
abbrev pub Spends : Option ℕ → Option ℕ → Type 0
Spends None new = new ≡ None
Spends (Some before) new = (now : ℕ) × (new ≡ Some now) × (now ≤ before - 1)

-- what `rest` does
pub record RestsOnce (old new : View) : Type 0 where
  pub idles : Idles old new
  pub spends : Spends old.patience new.patience
  pub ordered : IfSome old.fixed.order (λ order. (key : ℕ) → new.live key ≡ option_map after_rest (old.live key))

-- the told timetables with one more, where they are told after it
abbrev pub ServersGrow : Option (List Timetable) → Option (List Timetable) → Type 0
ServersGrow old new = IfSome new (λ tables. (before : List Timetable) × (table : Timetable) × (old ≡ Some before) × (tables ≡ before ++ table ∷ []))

-- a region was added behind the others, and both its counts start at 0
pub record Adds (old new : View) (name at : Text) (door : ℕ) : Type 0 where
  pub stations : new.fixed.stations ≡ old.fixed.stations ++ record { code = name; address = Some (record { host = at; port = door }) } ∷ []
  pub servers : ServersGrow old.fixed.servers new.fixed.servers
  pub no_faults : new.faults (length old.fixed.stations) ≡ 0
  pub no_rejections : new.rejections (length old.fixed.stations) ≡ 0
  pub faults : (region : ℕ) → region ≢ length old.fixed.stations → old.faults region ≤ new.faults region
  pub rejections : (region : ℕ) → region ≢ length old.fixed.stations → new.rejections region ≡ old.rejections region
  pub made : new.made ≡ old.made
  pub live : SameButRests old new

-- no region has the code
abbrev pub IsNewCode : View → Text → Type 0
IsNewCode v name = (region : ℕ) → region < length v.fixed.stations → code_at v region ≢ name
