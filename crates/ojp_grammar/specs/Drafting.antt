-- What a draft takes.
use Rattle.std.specs.Prelude.{◌≡◌, Option, Some, Result, MatchResult}
use Rattle.ojp_grammar.specs.declared.stacks.Unbuilt.{Unbuilt}
use Rattle.ojp_grammar.specs.declared.stacks.Unbuilt.TheVariants.{NoMemory}
use Rattle.ojp_grammar.specs.Folding.{Waiting}

-- where the fold goes on, the draft does, or there is no memory for it
abbrev pub Takes : Option Waiting → Result (Unit {0}) Unbuilt → Waiting → Type 0
Takes next result new = (w : Waiting) → next ≡ Some w → MatchResult result (λ _. new ≡ w) (λ e. e ≡ NoMemory)
