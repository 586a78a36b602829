use Rattle.std.proofs.Common.{◌≤◌, IfSome}
use Rattle.ojp_links_net.specs.Progress.{most_silence}
use Rattle.ojp_links_net.proofs.table.Table.time_left.Given as goal

abbrev pub invariant-asks : goal.invariant-asks
invariant-asks l =
    (goal.iterator-asks).can_next l.ask-iterator × (goal.iterator-asks).is_finite l.ask-iterator × IfSome l.least (λ before. before ≤ most_silence)
