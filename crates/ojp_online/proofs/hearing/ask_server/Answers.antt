use Rattle.ojp_online.proofs.AskFacts.{rejects_none}
use Rattle.ojp_online.proofs.hearing.ask_server.Goals as goal

pub returns-in-Heard-clause-rejections : goal.returns-in-Heard-clause-rejections
returns-in-Heard-clause-rejections g c =
    rejects_none (g.L.Links.seen c.args.links.now) (g.L.Links.seen c.begin.new.links) (g.L.Links.seen c.hear_waiting-end.new.links) 0 c.args.ask c.in_ok-sub.sub
    c.in_ok-sub.ensures.keeps c.in_ok-sub.ensures.made c.in_ok-sub.ensures.rejections c.hear_waiting-end.ensures.rejects_none

pub returns-in-Failed-clause-rejections : goal.returns-in-Failed-clause-rejections
returns-in-Failed-clause-rejections g c =
    rejects_none (g.L.Links.seen c.args.links.now) (g.L.Links.seen c.begin.new.links) (g.L.Links.seen c.hear_waiting-end.new.links) 0 c.args.ask c.in_ok-sub.sub
    c.in_ok-sub.ensures.keeps c.in_ok-sub.ensures.made c.in_ok-sub.ensures.rejections c.hear_waiting-end.ensures.rejects_none

pub returns-in-NoMemory-clause-rejections : goal.returns-in-NoMemory-clause-rejections
returns-in-NoMemory-clause-rejections g c =
    rejects_none (g.L.Links.seen c.args.links.now) (g.L.Links.seen c.begin.new.links) (g.L.Links.seen c.hear_waiting-end.new.links) 0 c.args.ask c.in_ok-sub.sub
    c.in_ok-sub.ensures.keeps c.in_ok-sub.ensures.made c.in_ok-sub.ensures.rejections c.hear_waiting-end.ensures.rejects_none
