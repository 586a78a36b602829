use Rattle.std.proofs.Common.{inr, subst}
use Rattle.ojp_links.specs.declared.links.More.TheVariants as mores
use Rattle.ojp_links.specs.Replies.{IsHopeless}
use Rattle.ojp_links.specs.Seen.{ask_at}
use Rattle.ojp_subrequests.specs.Subrequests.{IsLookedIn}
use Rattle.ojp_subrequests.proofs.SubFacts.{end_is_no_piece, ended_hopeless, ends_rejected, may_reject}
use Rattle.ojp_subrequests.proofs.subreply.Subreply.go_on.Goals as goal

pub reject-requires : goal.reject-requires
reject-requires g c =
    let s = c.args.self.now in
    let v = g.L.Links.seen c.args.links.now in
    let l : IsLookedIn s v mores.End = subst (IsLookedIn s v) c.in-End.is c.requires in
    may_reject s v l.own (ended_hopeless c.an_open_reply.ensures.none s.heard s.expect (ask_at v s.key).taken (ask_at v s.key).ended l.was_heard.1 l.was_heard.0)

pub returns-in-End : goal.returns-in-End
returns-in-End g c =
    let s = c.args.self.now in
    let v = g.L.Links.seen c.args.links.now in
    let l : IsLookedIn s v mores.End = subst (IsLookedIn s v) c.in-End.is c.requires in
    let hopeless : IsHopeless s.expect (ask_at v s.key).taken (ask_at v s.key).ended =
    ended_hopeless c.an_open_reply.ensures.none s.heard s.expect (ask_at v s.key).taken (ask_at v s.key).ended l.was_heard.1 l.was_heard.0 in
    ends_rejected s c.reject.new.self v (g.L.Links.seen c.reject.new.links) c.reject.result c.args.more c.reject.ensures.result c.reject.ensures.over (inr c.in-End.is) c.reject.ensures.rejects hopeless (end_is_no_piece s.expect (ask_at v s.key).taken c.args.more c.in-End.is)
