use Rattle.ojp_values.specs.declared.asks.Ask.TheVariants as asks
use Rattle.ojp_load.proofs.LinkFacts.{renumbered}
use Rattle.ojp_load.proofs.asking.ask_one.Goals as goal

pub post-requires : goal.post-requires
post-requires c =
    (c.requires.0, asks.Trip c.args.load.now.ask, renumbered c.requires.0 c.args.book.now c.args.links.now c.renumber.new.self c.args.load.now.order c.renumber.ensures c.requires.1, c.in_ok-request.ensures)

pub told_by-requires : goal.told_by-requires
told_by-requires c =
    let tables = c.requires.0 in
    let ready = renumbered tables c.args.book.now c.args.links.now c.renumber.new.self c.args.load.now.order c.renumber.ensures c.requires.1 in
    (tables, c.in_ok-delivery.ensures.answers tables (asks.Trip c.args.load.now.ask) ready c.in_ok-request.ensures)

pub returns-clause-ready : goal.returns-clause-ready
returns-clause-ready c tables r =
    c.in_ok-delivery.ensures.ready tables (renumbered tables c.args.book.now c.args.links.now c.renumber.new.self c.args.load.now.order c.renumber.ensures r)

pub returns-clause-told : goal.returns-clause-told
returns-clause-told c tables r g =
    let ready = renumbered tables c.args.book.now c.args.links.now c.renumber.new.self c.args.load.now.order c.renumber.ensures r in
    c.told_by.ensures tables (c.in_ok-delivery.ensures.answers tables (asks.Trip c.args.load.now.ask) ready c.in_ok-request.ensures) g.ends
