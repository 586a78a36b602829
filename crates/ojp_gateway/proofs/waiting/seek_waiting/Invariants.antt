use Rattle.ojp_gateway.proofs.SeekFacts.{SeeksOn}
use Rattle.ojp_gateway.proofs.waiting.seek_waiting.Given as goal

abbrev pub invariant-searching : goal.invariant-searching
invariant-searching g l = SeeksOn l.book (g.L.Links.seen l.fn.links) (g.L.Links.seen l.links) l.fn.search l.search
