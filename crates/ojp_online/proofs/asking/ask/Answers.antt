use Rattle.ojp_online.proofs.AddFacts.{none_of_none, none_rejected}
use Rattle.ojp_online.proofs.AskFacts.{still_none}
use Rattle.ojp_online.proofs.WellFacts.{well_delivery}
use Rattle.ojp_bodies.proofs.AskFacts.{well_ask}
use Rattle.ojp_online.proofs.asking.ask.Goals as goal

pub ask_server-requires-clause-well : goal.ask_server-requires-clause-well
ask_server-requires-clause-well g c = well_ask c.in-Ok.ask c.in-Ok.ensures.wanted.1

pub returns-in-Err-spell-clause-rejections : goal.returns-in-Err-spell-clause-rejections
returns-in-Err-spell-clause-rejections g c =
    still_none (g.L.Links.seen c.add.new.self) (g.L.Links.seen c.ask_server.new.links) c.in-Ok-ask_server.ensures.keeps
    (none_rejected (g.L.Links.seen c.args.links.now) (g.L.Links.seen c.add.new.self) c.one_code-code.result c.args.host.now c.args.port (none_of_none (g.L.Links.seen c.args.links.now) c.requires.none) c.in-Ok-add.ensures.ok)
    c.in-Ok-ask_server.ensures.rejections

pub returns-in-Ok-put_all-clause-rejections : goal.returns-in-Ok-put_all-clause-rejections
returns-in-Ok-put_all-clause-rejections g c =
    still_none (g.L.Links.seen c.add.new.self) (g.L.Links.seen c.ask_server.new.links) c.in-Ok-ask_server.ensures.keeps
    (none_rejected (g.L.Links.seen c.args.links.now) (g.L.Links.seen c.add.new.self) c.one_code-code.result c.args.host.now c.args.port (none_of_none (g.L.Links.seen c.args.links.now) c.requires.none) c.in-Ok-add.ensures.ok)
    c.in-Ok-ask_server.ensures.rejections

pub returns-clause-rejections : goal.returns-clause-rejections
returns-clause-rejections g c =
    still_none (g.L.Links.seen c.add.new.self) (g.L.Links.seen c.ask_server.new.links) c.in-Ok-ask_server.ensures.keeps
    (none_rejected (g.L.Links.seen c.args.links.now) (g.L.Links.seen c.add.new.self) c.one_code-code.result c.args.host.now c.args.port (none_of_none (g.L.Links.seen c.args.links.now) c.requires.none) c.in-Ok-add.ensures.ok)
    c.in-Ok-ask_server.ensures.rejections

pub spell-requires : goal.spell-requires
spell-requires g c = well_delivery c.in-Ok-ask_server.delivery c.in-Ok-ask_server.ensures.heard.reply.2.wanted.1
