-- What the connections of doors in memory stand for.
use Rattle.std.specs.Prelude.{ℕ, ◌+◌, length, Option, Some, None, List, map}
use Rattle.std.specs.Option.{option_map}
use Rattle.ojp_outside.specs.Doors.{Had, Entry}
use Rattle.ojp_outside.specs.Wanted.{asked_of}
use Rattle.ojp_outside.specs.MemoryDoors.{MemDoorsView}
use Rattle.ojp_outside.specs.declared.connections.Given.{Given}
use Rattle.ojp_outside.specs.declared.connections.Returned.{Returned}
use Rattle.ojp_outside.specs.declared.mem_doors.MemDoors.TheInside.{Inside}

-- what a connection had when it was given
abbrev pub had_of : Given → Had
had_of given = record { left = Some given.left.items; input_faults = given.input_faults; output_faults = given.output_faults }

-- the entry of a connection that came back
abbrev pub entry_of : Returned → Entry
entry_of r = record {
  given = had_of r.given;
  back = record { left = Some r.input.left; input_faults = r.input.faults; output_faults = r.output.faults };
  written = Some r.output.written;
}

abbrev pub view_of : Inside → MemDoorsView
view_of d = record {
  asked = asked_of d.wanted;
  waiting = map (λ w. w.input) d.waiting.items;
  out = option_map had_of d.out;
  returned = map entry_of d.returned.items;
  given = d.given;
  fails_at = d.plan.fails_at.items;
  calls = d.plan.calls;
  faults = d.plan.faults;
}

-- the connections that may still come back
abbrev pub out_count : Option Given → ℕ
out_count None = 0
out_count (Some given) = 1

-- the places that the connections which came back need at most
abbrev pub room_needed : Inside → ℕ
room_needed d = length d.returned.items + (out_count d.out + length d.waiting.items)
