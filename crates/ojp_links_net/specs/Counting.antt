-- Which counts rise at a call, and by how much.
use Rattle.std.specs.Prelude.{◌≡◌, ◌≢◌, ℕ, Result, Ok, Err}
use Rattle.ojp_outside.specs.Causes.{next_count}
use Rattle.ojp_links.specs.declared.links.AskRefused.{AskRefused}
use Rattle.ojp_links.specs.declared.links.AskRefused.TheVariants as refused
use Rattle.ojp_links.specs.declared.links.More.{More}
use Rattle.ojp_links.specs.declared.links.More.TheVariants as mores
use Rattle.ojp_links.specs.declared.links.Sub.{Sub}

-- the counts stand still
abbrev pub CountsNone : (ℕ → ℕ) → (ℕ → ℕ) → Type 0
CountsNone old new = (region : ℕ) → new region ≡ old region

-- the count of the region is the next, and the others stand still
pub record CountsOne (old new : ℕ → ℕ) (at : ℕ) : Type 0 where
  pub next : new at ≡ next_count (old at)
  pub elsewhere : (region : ℕ) → region ≢ at → new region ≡ old region

-- a fault is counted where the ask failed, and nowhere else
abbrev pub CountsAsk : Result Sub AskRefused → (ℕ → ℕ) → (ℕ → ℕ) → ℕ → Type 0
CountsAsk (Ok sub) old new at = CountsNone old new
CountsAsk (Err refused.Failed) old new at = CountsOne old new at
CountsAsk (Err refused.NoMemory) old new at = CountsNone old new

-- a fault is counted where the look failed, and nowhere else
abbrev pub CountsAnswer : More → (ℕ → ℕ) → (ℕ → ℕ) → ℕ → Type 0
CountsAnswer mores.Failed old new at = CountsOne old new at
CountsAnswer mores.Got old new at = CountsNone old new
CountsAnswer mores.NotYet old new at = CountsNone old new
CountsAnswer mores.End old new at = CountsNone old new
CountsAnswer mores.NoMemory old new at = CountsNone old new
