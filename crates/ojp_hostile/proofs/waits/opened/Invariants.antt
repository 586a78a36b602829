use Rattle.ojp_links_mem.specs.Memory.{links_of}
use Rattle.ojp_hostile.specs.Ready.{HasCodes}
use Rattle.ojp_hostile.proofs.waits.opened.Given as goal

-- the regions have the codes
abbrev pub invariant-names : goal.invariant-names
invariant-names l =
    (goal.iterator-names).can_next l.name-iterator ×
    (goal.iterator-names).is_finite l.name-iterator ×
    HasCodes l.codes.items (links_of l.links)
