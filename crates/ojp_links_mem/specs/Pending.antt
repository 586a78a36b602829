-- Live asks as they are kept.
use Rattle.std.specs.Prelude.{◌≡◌, ◌≤◌, ◌<◌, ◌+◌, ◌-◌, ℕ, true, false, List, length, take, Option, Some, None, IfSome, option_map, min, if◌then◌else◌, ◌==◌}
use Rattle.slab.specs.Slab.{Slab, get}
use Rattle.ojp_outside.specs.Causes.{next_count}
use Rattle.ojp_timetable.specs.Tables.{Timetable}
use Rattle.ojp_links.specs.declared.links.More.{More}
use Rattle.ojp_links.specs.declared.links.More.TheVariants as mores
use Rattle.ojp_links.specs.Replies.{ServesByTable}
use Rattle.ojp_links.specs.Seen.{IsServedWhole, Live}
use Rattle.ojp_links_mem.specs.Scripts.{fails_later}
use Rattle.ojp_links_mem.specs.declared.pending.Pending.{Pending}
use Rattle.ojp_links_mem.specs.declared.script.What.{What}
use Rattle.ojp_links_mem.specs.declared.script.What.TheVariants.{FailAsk, FailMore, Reply}

-- what is seen of an ask that is kept
abbrev pub live_of : Pending → Live
live_of p = record {
  region = p.region;
  request = p.request.items;
  taken = take p.taken p.reply.items;
  ended = p.ended;
  looks = p.looks;
  reply = Some p.reply.items;
  left = length p.reply.items - p.taken;
  rests = p.rests;
}

-- the live asks by their keys
abbrev pub live_in : Slab Pending → ℕ → Option Live
live_in asks key = option_map live_of (get asks key)

-- how many bytes a look gives of those that are left
abbrev pub piece_of : ℕ → ℕ → ℕ
piece_of most left = if most == 0 then left else min most left

-- what a look at an ask gives, and leaves
abbrev pub LooksAt : ℕ → Pending → Pending → More → Type 0
LooksAt most old new mores.NotYet =
    (old.fails ≡ false) × (0 < old.rests) × (new ≡ record old { looks = next_count old.looks })
LooksAt most old new mores.Got =
    (old.fails ≡ false) × (old.rests ≡ 0) × (old.taken < length old.reply.items)
    × (new ≡ record old { looks = next_count old.looks; taken = old.taken + piece_of most (length old.reply.items - old.taken) })
LooksAt most old new mores.End =
    (old.fails ≡ false) × (old.rests ≡ 0) × (old.taken ≡ length old.reply.items) × (new ≡ record old { looks = next_count old.looks; ended = true })
LooksAt most old new mores.Failed = (old.fails ≡ true) × (new ≡ record old { looks = next_count old.looks })
LooksAt most old new mores.NoMemory = ⊥

-- the ask after one rest
abbrev pub rested : Pending → Pending
rested p = record p { rests = p.rests - 1 }

-- each ask had a rest
abbrev pub AllRested : Slab Pending → Slab Pending → Type 0
AllRested old new = (key : ℕ) → get new key ≡ option_map rested (get old key)

-- the asks below the key had a rest, and the others had none yet
pub record RestedBelow (first now : Slab Pending) (key : ℕ) : Type 0 where
  pub done : (k : ℕ) → k < key → get now k ≡ option_map rested (get first k)
  pub ahead : (k : ℕ) → key ≤ k → get now k ≡ get first k

-- the whole reply: that of the script, and else a response that the timetable's server gives
abbrev pub IsReplyBy : Option What → Timetable → List ℕ → List ℕ → Type 0
IsReplyBy (Some (Reply bytes)) table request out = out ≡ bytes.items
IsReplyBy (Some FailAsk) table request out = ServesByTable table request out
IsReplyBy (Some FailMore) table request out = ServesByTable table request out
IsReplyBy None table request out = ServesByTable table request out

-- an ask that was just made of the region, with these bytes and rests, of which the script says this, and the timetable answers
pub record IsMade (to : ℕ) (bytes : List ℕ) (needed : ℕ) (said : Option What) (table : Timetable) (p : Pending) : Type 0 where
  pub to_region : p.region ≡ to
  pub of_request : p.request.items ≡ bytes
  pub none_taken : p.taken ≡ 0
  pub not_ended : p.ended ≡ false
  pub needs : p.rests ≡ needed
  pub fails_by : p.fails ≡ fails_later said
  pub reply_by : IsReplyBy said table bytes p.reply.items

-- an ask where timetables are told: it does not fail, and its reply is a response of its region's server
pub record IsServed (p : Pending) (tables : List Timetable) : Type 0 where
  pub steady : p.fails ≡ false
  pub some : 0 < length p.reply.items
  pub serves : IsServedWhole (live_of p) tables p.reply.items

-- what an ask keeps
pub record IsKept (regions : ℕ) (told : Option (List Timetable)) (most patience : ℕ) (p : Pending) : Type 0 where
  pub of_region : p.region < regions
  pub within : p.taken ≤ length p.reply.items
  pub at_end : p.ended ≡ true → p.taken ≡ length p.reply.items
  pub at_once : most ≡ 0 → 0 < p.taken → p.taken ≡ length p.reply.items
  pub few : p.rests ≤ patience
  pub served : IfSome told (IsServed p)

-- each ask is kept so
abbrev pub AreKept : ℕ → Option (List Timetable) → ℕ → ℕ → Slab Pending → Type 0
AreKept regions told most patience asks = (key : ℕ) (p : Pending) → get asks key ≡ Some p → IsKept regions told most patience p
