-- The progress of asks: what was done for them, and the moment of the last of it.
use Rattle.std.specs.Prelude.{◌≡◌, ◌≢◌, ◌<◌, ◌≤◌, ◌+◌, ◌-◌, ℕ, if◌then◌else◌, length, Option, Some, option_map, Result, Ok, Err, unwrap_or}
use Rattle.slab.specs.Slab.{Slab, get}
use Rattle.ojp_links.specs.declared.links.AskRefused.{AskRefused}
use Rattle.ojp_links.specs.declared.links.More.{More}
use Rattle.ojp_links.specs.declared.links.More.TheVariants as mores
use Rattle.ojp_links.specs.declared.links.Sub.{Sub}
use Rattle.ojp_links_net.specs.declared.pending.Pending.{Pending}

-- an ask without progress for so many milliseconds fails
abbrev pub most_silence : ℕ
most_silence = 30000

-- how much was done for an ask (its connection made, bytes sent, bytes received), and the moment of the last of it
pub record Progress : Type 0 where
  pub done : ℕ
  pub moment : ℕ

abbrev pub progress_of : Pending → Progress
progress_of p = record { done = (if p.is_connected then 1 else 0) + (p.sent + length p.taken.items); moment = p.progress }

-- an ask that was made at this moment
abbrev pub first_progress : ℕ → Progress
first_progress now = record { done = 0; moment = now }

-- the progress of the live asks by their keys
abbrev pub progress_in : Slab Pending → ℕ → Option Progress
progress_in asks key = option_map progress_of (get asks key)

-- the progress, where there is an ask
abbrev pub progress_or_none : Option Progress → Progress
progress_or_none progress = unwrap_or progress (first_progress 0)

-- the moment is this one where something was done, and else as it was
pub record KeepsMoment (old new : Progress) (now : ℕ) : Type 0 where
  pub more_done : old.done ≤ new.done
  pub moves : old.done < new.done → new.moment ≡ now
  pub stays : new.done ≡ old.done → new.moment ≡ old.moment

-- and where nothing came, the last progress is not too long ago
pub record IsTimely (old new : Progress) (now : ℕ) (answer : More) : Type 0 where
  pub moment_kept : KeepsMoment old new now
  pub recent : answer ≡ mores.NotYet → now - new.moment < most_silence

-- all asks have the progress that they had
abbrev pub SameProgress : (ℕ → Option Progress) → (ℕ → Option Progress) → Type 0
SameProgress old new = (key : ℕ) → new key ≡ old key

-- the asks with other keys have the progress that they had
abbrev pub SameProgressElsewhere : (ℕ → Option Progress) → (ℕ → Option Progress) → ℕ → Type 0
SameProgressElsewhere old new key = (other : ℕ) → other ≢ key → new other ≡ old other

-- a look at the ask with the key at this moment is timely
pub record LooksInTime (old new : ℕ → Option Progress) (key now : ℕ) (answer : More) : Type 0 where
  pub timely : IsTimely (progress_or_none (old key)) (progress_or_none (new key)) now answer
  pub elsewhere : SameProgressElsewhere old new key

-- an ask that is made begins at this moment
abbrev pub BeginsInTime : Result Sub AskRefused → (ℕ → Option Progress) → (ℕ → Option Progress) → ℕ → Type 0
BeginsInTime (Ok sub) old new now = (new sub.key ≡ Some (first_progress now)) × SameProgressElsewhere old new sub.key
BeginsInTime (Err refused) old new now = SameProgress old new
