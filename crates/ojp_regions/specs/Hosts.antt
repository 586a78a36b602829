-- Where a server listens: its host and its port.
use Rattle.std.specs.Prelude.{ℕ, ◌^◌, ◌<◌, ◌≤◌, Bool, ◌&&◌, ◌||◌, ◌==◌, length}
use Rattle.std.specs.List.{list_all}
use Rattle.ojp_values.specs.Texts.{Text, is_between}

-- A-Z, a-z, 0-9, full stop or hyphen
abbrev pub is_host_byte : ℕ → Bool
is_host_byte b = is_between 65 90 b || is_between 97 122 b || is_between 48 57 b || b == 46 || b == 45

-- a host is 1 to 253 letters, digits, full stops and hyphens
abbrev pub is_host : Text → Bool
is_host text = is_between 1 253 (length text) && list_all is_host_byte text

-- a port is a number from 1 to 65,535
abbrev pub IsPort : ℕ → Type 0
IsPort port = (1 ≤ port) × (port < 2 ^ 16)
