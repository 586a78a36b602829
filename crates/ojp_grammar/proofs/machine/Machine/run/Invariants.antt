use Rattle.std.proofs.Common.{◌≡◌, ◌≤◌, ◌+◌, ◌-◌, ℕ, List, length, drop}
use Rattle.ojp_grammar.specs.Running.{Stands}
use Rattle.ojp_grammar.proofs.machine.Machine.run.Given as goal

abbrev pub invariant-loop-shape : goal.invariant-loop-shape
invariant-loop-shape l =
    (l.took ≤ length l.bytes)
    × (l.self.at ≡ l.initial.self.at + l.took)
    × (l.self.want ≡ l.initial.self.want)
    × ((fed : List ℕ) → Stands l.initial.self fed l.bytes → Stands l.self fed (drop l.took l.bytes))

abbrev pub decreases-loop-shape : goal.decreases-loop-shape
decreases-loop-shape l = length l.bytes - l.took
