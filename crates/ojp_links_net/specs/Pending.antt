-- Live asks as they are kept.
use Rattle.std.specs.Prelude.{◌≡◌, ◌≢◌, ℕ, IsSome, List, Option, None, option_map}
use Rattle.slab.specs.Slab.{Slab, get}
use Rattle.ojp_outside.specs.Causes.{next_count}
use Rattle.ojp_links.specs.Calls.{Gives}
use Rattle.ojp_links.specs.Seen.{Live, live_or_none, no_ask}
use Rattle.ojp_links.specs.declared.links.More.{More}
use Rattle.ojp_links_net.specs.declared.pending.Pending.{Pending}

-- what is seen of an ask that is kept; no reply is told
abbrev pub live_of : Pending → Live
live_of p = record {
  region = p.region;
  request = p.request.items;
  taken = p.taken.items;
  ended = p.ended;
  looks = p.looks;
  reply = None;
  left = 0;
  rests = 0;
}

-- an ask of the region with this request, of whose reply nothing was taken
abbrev pub new_live : ℕ → List ℕ → Live
new_live to bytes = record no_ask { region = to; request = bytes }

-- what an answer says of the bytes taken and of the end is so, and nothing else changed
pub record GoesOn (old new : Live) (answer : More) : Type 0 where
  pub rest_same : new ≡ record old { taken = new.taken; ended = new.ended }
  pub gives : Gives answer old new

-- the same, and one more look was counted
pub record LooksAt (old new : Live) (answer : More) : Type 0 where
  pub rest_same : new ≡ record old { taken = new.taken; ended = new.ended; looks = next_count old.looks }
  pub gives : Gives answer old new

-- the live asks by their keys
abbrev pub live_in : Slab Pending → ℕ → Option Live
live_in asks key = option_map live_of (get asks key)

-- the ask with the key
abbrev pub ask_in : Slab Pending → ℕ → Live
ask_in asks key = live_or_none (live_in asks key)

-- all asks are as they were
abbrev pub SameLive : Slab Pending → Slab Pending → Type 0
SameLive old new = (key : ℕ) → live_in new key ≡ live_in old key

-- the asks with other keys are as they were
abbrev pub AsksOthersStay : Slab Pending → Slab Pending → ℕ → Type 0
AsksOthersStay old new key = (other : ℕ) → other ≢ key → live_in new other ≡ live_in old other

-- the asks before and after a look at the one with the key
pub record LooksAtOne (old new : Slab Pending) (key : ℕ) (answer : More) : Type 0 where
  pub live : IsSome (live_in new key)
  pub looks_at : LooksAt (ask_in old key) (ask_in new key) answer
  pub others_stay : AsksOthersStay old new key
