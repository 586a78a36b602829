use Rattle.ojp_links.specs.Seen.{IsLive}
use Rattle.ojp_links_mem.specs.Memory.{links_of}
use Rattle.ojp_rows.proofs.links.asking.rests_before.Given as goal

abbrev pub invariant-rests : goal.invariant-rests
invariant-rests l = IsLive (links_of l.links) l.sub.key
