-- What was asked of doors, as the code keeps it.
use Rattle.std.specs.Prelude.{ℕ, Option, Some, None}
use Rattle.ojp_outside.specs.declared.wanted.Wanted.{Wanted}
use Rattle.ojp_outside.specs.Doors.{Asked}

-- the port and the number of connections that were asked for
abbrev pub asked_of : Option Wanted → Option Asked
asked_of None = None
asked_of (Some wanted) = Some (record { port = wanted.port; count = wanted.most })
