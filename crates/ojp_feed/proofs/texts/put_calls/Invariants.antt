use Rattle.std.proofs.Common.{◌≡◌, ◌++◌, take}
use Rattle.std.specs.List.{flat_map}
use Rattle.ojp_feed.specs.Texts.{halt_text}
use Rattle.ojp_feed.proofs.texts.put_calls.Given as goal

abbrev pub invariant-loop-halt : goal.invariant-loop-halt
invariant-loop-halt l = l.out.items ≡ l.fn.out.items ++ flat_map (halt_text l.plan l.pattern l.start) (take l.halt-index l.pattern.halts.items)
