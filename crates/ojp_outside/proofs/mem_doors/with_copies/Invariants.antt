use Rattle.std.proofs.Common.{◌≡◌, map}
use Rattle.ojp_outside.proofs.mem_doors.with_copies.Given as goal

abbrev pub invariant-loop-input : goal.invariant-loop-input
invariant-loop-input l = map (λ w. w.input) l.waiting.items ≡ l.yielded
