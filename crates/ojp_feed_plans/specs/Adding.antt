-- Lists that grow.
use Rattle.std.specs.Prelude.{◌≡◌, List, ◌++◌}
use Rattle.std.specs.List.{All}

-- the new list is the old one and more, of which P holds
pub record Adds {X : Type 0} (P : X → Type 0) (old new : List X) : Type 0 where
  pub more : List X
  pub joined : new ≡ old ++ more
  pub each : All P more
