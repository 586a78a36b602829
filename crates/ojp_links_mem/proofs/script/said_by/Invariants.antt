use Rattle.std.proofs.Common.{◌≡◌, ℕ}
use Rattle.ojp_links_mem.specs.Scripts.{said_of}
use Rattle.ojp_links_mem.specs.Memory.{said_in}
use Rattle.ojp_links_mem.proofs.script.said_by.Given as goal

abbrev pub invariant-entries : goal.invariant-entries
invariant-entries l = (number : ℕ) → said_in l.said.entries number ≡ said_of l.yielded number
