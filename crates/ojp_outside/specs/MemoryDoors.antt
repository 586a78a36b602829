-- Doors in memory, as contracts see them.
use Rattle.std.specs.Prelude.{ℕ, Bool, List, Option, Some, None, is_some}
use Rattle.ojp_outside.specs.Doors.{Asked, Had, Entry, DoorsView}
use Rattle.ojp_outside.specs.Memory.{MemSourceView}

-- doors in memory: what was asked, the connections to come, the one that is out by what it had, those that came back, and the calls that fail
pub record MemDoorsView : Type 0 where
  pub asked : Option Asked
  pub waiting : List MemSourceView
  pub out : Option Had
  pub returned : List Entry
  pub given : ℕ
  pub fails_at : List ℕ
  pub calls : ℕ
  pub faults : ℕ

-- what doors in memory tell of themselves
abbrev pub seen_of : MemDoorsView → DoorsView
seen_of d = record { asked = d.asked; given = d.given; is_out = is_some d.out; out = d.out; returned = Some d.returned }
