use Rattle.ojp_gateway.proofs.HearFacts.{HearsOn, work_of}
use Rattle.ojp_gateway.proofs.learning.hear_resting.Given as goal

abbrev pub invariant-hearing : goal.invariant-hearing
invariant-hearing g l = HearsOn (g.L.Links.seen l.fn.links) (g.L.Links.seen l.links) l.fn.sub l.sub

abbrev pub decreases-hearing : goal.decreases-hearing
decreases-hearing g l = work_of (g.L.Links.seen l.links) l.sub
