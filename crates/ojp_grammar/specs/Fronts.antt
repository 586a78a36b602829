-- Whole legs at the front of bytes.
use Rattle.std.specs.Prelude.{◌≡◌, ◌<◌, ◌-◌, ℕ, List, [], ◌∷◌, ◌++◌, drop}
use Rattle.ojp_values.specs.declared.trips.Leg.{Leg}
use Rattle.ojp_grammar.specs.Items.{spell}
use Rattle.ojp_grammar.specs.Syntax.{Syntax, put, Fits}
use Rattle.ojp_grammar.specs.Grammar.{LEG, legs_of}
use Rattle.ojp_grammar.specs.Documents.{leg_said}
use Rattle.ojp_grammar.specs.Folding.{Waiting}

-- the bytes begin with the leg, and the others are left
pub record ReadsLeg (bytes : List ℕ) (leg : Leg) (left : List ℕ) : Type 0 where
  pub parts : bytes ≡ spell (put LEG (leg_said leg) []) ++ left
  pub fits : Fits LEG (leg_said leg)

-- one more leg waits
abbrev pub keep_leg : Leg → Waiting → Waiting
keep_leg leg waiting = record waiting { legs = waiting.legs ++ leg ∷ [] }

-- a whole leg of a list was passed, so many bytes, and waits; the rest of the list is open
pub record PassesLeg (s : Syntax) (more : List Syntax) (old : Waiting) (bytes : List ℕ) (len : ℕ) (opened : List Syntax) (new : Waiting) : Type 0 where
  pub low : ℕ
  pub high : ℕ
  pub leg : Leg
  pub of_legs : s ≡ legs_of low high
  pub room : 0 < high
  pub reads : ReadsLeg bytes leg (drop len bytes)
  pub opened_is : opened ≡ legs_of (low - 1) (high - 1) ∷ more
  pub kept : new ≡ keep_leg leg old
