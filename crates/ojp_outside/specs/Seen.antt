-- What contracts see of sources, sinks and stores. What is not told is None.
use Rattle.std.specs.Prelude.{ℕ, Bool, List, Option}

-- a source: the bytes left, whether the end was seen, and how often a read failed
pub record SourceView : Type 0 where
  pub left : Option (List ℕ)
  pub ended : Bool
  pub faults : ℕ

-- a sink: the bytes written, and how often a write failed
pub record SinkView : Type 0 where
  pub written : Option (List ℕ)
  pub faults : ℕ

-- a store: the contents by name, the name given to the last read that failed, and how often a read failed
pub record StoreView : Type 0 where
  -- none where there is no such file
  pub contents : Option (List ℕ → Option (List ℕ))
  -- none before the first
  pub failed_name : Option (Option (List ℕ))
  pub faults : ℕ
