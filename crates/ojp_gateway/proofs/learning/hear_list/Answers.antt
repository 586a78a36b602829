use Rattle.std.proofs.Common.{refl}
use Rattle.ojp_gateway.proofs.LearnFacts.{asks_all, alone_begins, replied_listing, list_of, rejects_heard, failed_heard}
use Rattle.ojp_turns.proofs.PollFacts.{keeps_on}
use Rattle.ojp_gateway.proofs.learning.hear_list.Goals as goal

pub listed-requires : goal.listed-requires
listed-requires g c =
    let asks = asks_all (g.L.Links.seen c.args.links.now) (g.L.Links.seen c.begin.new.links) c.args.region c.in_ok-sub.sub c.in_ok-sub.ensures.made in
    replied_listing (g.L.Links.seen c.args.links.now) (g.L.Links.seen c.begin.new.links) c.args.region c.in_ok-sub.sub c.in-Heard.delivery asks c.in-Heard.ensures.means

pub returns-in-Heard-clause-list : goal.returns-in-Heard-clause-list
returns-in-Heard-clause-list g c =
    let asks = asks_all (g.L.Links.seen c.args.links.now) (g.L.Links.seen c.begin.new.links) c.args.region c.in_ok-sub.sub c.in_ok-sub.ensures.made in
    list_of (g.L.Links.seen c.args.links.now) (g.L.Links.seen c.begin.new.links) c.args.region c.in_ok-sub.sub c.in-Heard.delivery c.listed.result
    (record { code = c.code-code.result; points = c.listed.result }) c.in_ok-sub.ensures.keeps asks c.in-Heard.ensures.means c.listed.ensures c.code-code.ensures refl

pub returns-in-Heard-clause-rejections : goal.returns-in-Heard-clause-rejections
returns-in-Heard-clause-rejections g c =
    let asks = asks_all (g.L.Links.seen c.args.links.now) (g.L.Links.seen c.begin.new.links) c.args.region c.in_ok-sub.sub c.in_ok-sub.ensures.made in
    rejects_heard (g.L.Links.seen c.args.links.now) (g.L.Links.seen c.begin.new.links) (g.L.Links.seen c.hear.new.links) c.args.region c.in_ok-sub.sub
    c.in_ok-sub.ensures.keeps asks c.requires.region c.in_ok-sub.ensures.rejections c.in-Heard.ensures.rejects_none

pub returns-in-Failed-clause-rejections : goal.returns-in-Failed-clause-rejections
returns-in-Failed-clause-rejections g c =
    let asks = asks_all (g.L.Links.seen c.args.links.now) (g.L.Links.seen c.begin.new.links) c.args.region c.in_ok-sub.sub c.in_ok-sub.ensures.made in
    rejects_heard (g.L.Links.seen c.args.links.now) (g.L.Links.seen c.begin.new.links) (g.L.Links.seen c.hear.new.links) c.args.region c.in_ok-sub.sub
    c.in_ok-sub.ensures.keeps asks c.requires.region c.in_ok-sub.ensures.rejections c.in-Failed.ensures.rejects_none

pub returns-in-NoMemory-clause-rejections : goal.returns-in-NoMemory-clause-rejections
returns-in-NoMemory-clause-rejections g c =
    let asks = asks_all (g.L.Links.seen c.args.links.now) (g.L.Links.seen c.begin.new.links) c.args.region c.in_ok-sub.sub c.in_ok-sub.ensures.made in
    rejects_heard (g.L.Links.seen c.args.links.now) (g.L.Links.seen c.begin.new.links) (g.L.Links.seen c.hear.new.links) c.args.region c.in_ok-sub.sub
    c.in_ok-sub.ensures.keeps asks c.requires.region c.in_ok-sub.ensures.rejections c.in-NoMemory.ensures.rejects_none

pub hear-requires : goal.hear-requires
hear-requires g c = alone_begins (g.L.Links.seen c.args.links.now) (g.L.Links.seen c.begin.new.links) c.args.region c.in_ok-sub.sub c.requires.none_live c.in_ok-sub.ensures.made

pub returns-in-Heard-clause-keeps : goal.returns-in-Heard-clause-keeps
returns-in-Heard-clause-keeps g c = keeps_on (g.L.Links.seen c.args.links.now) (g.L.Links.seen c.begin.new.links) (g.L.Links.seen c.hear.new.links) c.in_ok-sub.ensures.keeps c.in-Heard.ensures.keeps

pub returns-in-Failed-clause-keeps : goal.returns-in-Failed-clause-keeps
returns-in-Failed-clause-keeps g c = keeps_on (g.L.Links.seen c.args.links.now) (g.L.Links.seen c.begin.new.links) (g.L.Links.seen c.hear.new.links) c.in_ok-sub.ensures.keeps c.in-Failed.ensures.keeps

pub returns-in-NoMemory-clause-keeps : goal.returns-in-NoMemory-clause-keeps
returns-in-NoMemory-clause-keeps g c = keeps_on (g.L.Links.seen c.args.links.now) (g.L.Links.seen c.begin.new.links) (g.L.Links.seen c.hear.new.links) c.in_ok-sub.ensures.keeps c.in-NoMemory.ensures.keeps

pub returns-in-Failed-clause-failed : goal.returns-in-Failed-clause-failed
returns-in-Failed-clause-failed g c e =
    let asks = asks_all (g.L.Links.seen c.args.links.now) (g.L.Links.seen c.begin.new.links) c.args.region c.in_ok-sub.sub c.in_ok-sub.ensures.made in
    failed_heard (g.L.Links.seen c.args.links.now) (g.L.Links.seen c.begin.new.links) (g.L.Links.seen c.hear.new.links) c.args.region c.in_ok-sub.sub c.in_ok-sub.ensures.keeps asks c.in-Failed.ensures.means
