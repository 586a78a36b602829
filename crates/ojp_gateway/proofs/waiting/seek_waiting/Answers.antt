use Rattle.ojp_gateway.proofs.SeekFacts.{SeeksOn, idled, seeks_end, seeks_start, sought_by, turned_moved, turned_waits}
use Rattle.ojp_gateway.proofs.waiting.seek_waiting.Goals as goal

pub searching-init : goal.searching-init
searching-init g c = seeks_start c.args.book.now (g.L.Links.seen c.args.links.now) c.args.search.now c.requires

pub searching-preserved-in-Moved : goal.searching-preserved-in-Moved
searching-preserved-in-Moved g c =
    turned_moved c.args.book.now (g.L.Links.seen c.args.links.now) (g.L.Links.seen c.searching.links) (g.L.Links.seen c.turn.new.links) c.args.search.now c.searching.search c.turn.new.self c.searching.invariant c.in-Moved.ensures.turns

pub searching-preserved : goal.searching-preserved
searching-preserved g c =
    let seeks : SeeksOn c.args.book.now (g.L.Links.seen c.args.links.now) (g.L.Links.seen c.turn.new.links) c.args.search.now c.turn.new.self =
    turned_waits c.args.book.now (g.L.Links.seen c.args.links.now) (g.L.Links.seen c.searching.links) (g.L.Links.seen c.turn.new.links) c.args.search.now c.searching.search c.turn.new.self c.searching.invariant c.in-Waits.ensures.turns in
    idled c.args.book.now (g.L.Links.seen c.args.links.now) (g.L.Links.seen c.turn.new.links) (g.L.Links.seen c.wait.new.self) c.args.search.now c.turn.new.self seeks c.wait.ensures

pub returns-in-Done : goal.returns-in-Done
returns-in-Done g c =
    seeks_end c.args.book.now (g.L.Links.seen c.args.links.now) (g.L.Links.seen c.searching.links) (g.L.Links.seen c.turn.new.links) c.args.search.now c.searching.search c.turn.new.self c.in-Done.outcome
    c.searching.invariant (sought_by c.args.book.now (g.L.Links.seen c.searching.links) (g.L.Links.seen c.turn.new.links) c.searching.search c.turn.new.self c.in-Done.outcome c.in-Done.ensures.turns)
