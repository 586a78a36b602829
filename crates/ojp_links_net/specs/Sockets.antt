-- What reads and writes of sockets give.
use Rattle.std.specs.Prelude.{ℕ, ◌<◌, ◌≤◌}
use Rattle.ojp_links_net.specs.declared.sockets.Passed.{Passed}
use Rattle.ojp_links_net.specs.declared.sockets.Passed.TheVariants.{Bytes, End, Nothing, Troubled}

-- where bytes passed they are some, and not more than there is room for
abbrev pub IsWithin : ℕ → Passed → Type 0
IsWithin room (Bytes count) = (0 < count) × (count ≤ room)
IsWithin room End = Unit {0}
IsWithin room Nothing = Unit {0}
IsWithin room (Troubled trouble) = Unit {0}
