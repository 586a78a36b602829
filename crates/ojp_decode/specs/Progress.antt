-- How far a reader has come.
use Rattle.std.specs.Prelude.{ℕ, List}
use Rattle.ojp_grammar.specs.declared.refusals.Refused.{Refused}
use Rattle.ojp_grammar.specs.declared.refusals.Want.{Want}

pub data Progress : Type 0 where
  -- these bytes were fed, and no wanted document is whole in them
  reading : Want → List ℕ → Progress
  -- these bytes were fed up to the end of a wanted document
  whole : Want → List ℕ → Progress
  -- the bytes were refused
  over : Refused → Progress
  -- memory ran out
  spent : Progress
