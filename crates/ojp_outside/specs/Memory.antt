-- The forms in memory, as contracts see them.
use Rattle.std.specs.Prelude.{ℕ, Bool, List, Option, map, string_bytes, String, Vec}
use Rattle.std.specs.declared.alloc.Global.{Global}

-- a source: the bytes left, the most bytes of a read, the calls that fail, the calls and faults so far, and whether the end was seen
pub record MemSourceView : Type 0 where
  pub left : List ℕ
  pub most : ℕ
  pub fails_at : List ℕ
  pub calls : ℕ
  pub faults : ℕ
  pub ended : Bool

-- a sink: the bytes written, the calls that fail, the calls and faults so far, and how many writes found no memory
pub record MemSinkView : Type 0 where
  pub written : List ℕ
  pub fails_at : List ℕ
  pub calls : ℕ
  pub faults : ℕ
  pub refused : ℕ

-- the files by name, as their bytes
abbrev pub named_contents : List (String Global × Vec ℕ Global) → List (List ℕ × List ℕ)
named_contents files = map (λ f. (string_bytes f.0, f.1.items)) files

-- a store: the files by name, the name of the last read that failed, the calls that fail, and the calls and faults so far
pub record MemStoreView : Type 0 where
  pub files : List (List ℕ × List ℕ)
  pub failed_name : Option (List ℕ)
  pub fails_at : List ℕ
  pub calls : ℕ
  pub faults : ℕ

-- a clock: its moments, the place of the one that it gives next, and the one that it gave last
pub record MemClockView : Type 0 where
  pub moments : List ℕ
  pub at : ℕ
  pub last : ℕ
