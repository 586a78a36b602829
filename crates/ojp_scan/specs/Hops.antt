-- The hops of a timetable, in the order in which a scan looks at them.
use Rattle.std.specs.Prelude.{◌≡◌, ℕ, ◌+◌, ◌<◌, ◌↔◌, List, ◌⊎◌, Some, length, slice_get}
use Rattle.ojp_values.specs.Lists.{Among}
use Rattle.ojp_timetable.specs.Tables.{Timetable, Journey}
use Rattle.ojp_timetable.specs.declared.calls.Call.{Call}
use Rattle.ojp_scan.specs.declared.hops.Hop.{Hop}

-- the hop is from a call of a journey to the next
pub record IsHop (table : Timetable) (hop : Hop) : Type 0 where
  pub of : Journey
  pub at : slice_get table.journeys hop.journey ≡ Some of
  pub within : hop.position + 1 < length of.calls

-- the hop leaves at the offset in its operating day
pub record LeavesAt (table : Timetable) (hop : Hop) (offset : ℕ) : Type 0 where
  pub of : Journey
  pub call : Call
  pub at : slice_get table.journeys hop.journey ≡ Some of
  pub call_at : slice_get of.calls hop.position ≡ Some call
  pub departs : call.departs ≡ Some offset

-- the one is on an earlier journey, or at an earlier position of the same
abbrev pub StandsBefore : ℕ → ℕ → ℕ → ℕ → Type 0
StandsBefore journey position other later = (journey < other) ⊎ ((journey ≡ other) × (position < later))

-- the one leaves before the other, or they leave at the same offset and it stands before the other
abbrev pub IsBefore : Timetable → Hop → Hop → Type 0
IsBefore table x y =
    (u v : ℕ) → LeavesAt table x u → LeavesAt table y v → (u < v) ⊎ ((u ≡ v) × StandsBefore x.journey x.position y.journey y.position)

-- the list has each hop of the table once: by departure, journey and position
pub record AreHops (table : Timetable) (hops : List Hop) : Type 0 where
  pub just_these : (hop : Hop) → Among hop hops ↔ IsHop table hop
  pub rising : (m n : ℕ) (x y : Hop) → m < n → slice_get hops m ≡ Some x → slice_get hops n ≡ Some y → IsBefore table x y
