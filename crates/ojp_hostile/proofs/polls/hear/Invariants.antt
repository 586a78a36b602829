use Rattle.ojp_subrequests.specs.Subrequests.{IsHeldIn}
use Rattle.ojp_hostile.proofs.polls.hear.Given as goal

-- the subrequest is held
abbrev pub invariant-polls : goal.invariant-polls
invariant-polls g l = IsHeldIn l.sub (g.L.Links.seen l.links)
