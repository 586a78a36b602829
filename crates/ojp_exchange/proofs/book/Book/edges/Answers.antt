use Rattle.std.proofs.Common.{◌<◌, ◌+◌, length, ap, arith}
use Rattle.std.proofs.lemmas.List.{length-map}
use Rattle.ojp_exchange.specs.Book.{Book}
use Rattle.ojp_exchange.specs.Kept.{book_of, spot_of}
use Rattle.ojp_exchange.specs.Tables.{part}
use Rattle.ojp_exchange.proofs.TableFacts.{part_read}
use Rattle.ojp_exchange.proofs.WayFacts.{are_edges, edges_seen}
use Rattle.ojp_exchange.proofs.book.Book.edges.Goals as goal

pub returns : goal.returns
returns c =
    let inside = c.self.inside in
    let whole = c.self.invariant in
    let codes = inside.codes.items in
    let points = inside.points.items in
    let edges = inside.edges.edges.items in
    let firsts = inside.edges.firsts.items in
    let place = c.args.place in
    let within : place < length points = omega (arith, ap (λ (b : Book). length b.spots) c.self.view_is, length-map points spot_of, c.requires) in
    let next : place + 1 < length firsts = omega (arith, within, whole.edges_are.size) in
    let read = part_read edges c.deref.result.now firsts place c.index.result.now c.index-2.result.now c.deref.ensures.value next c.index.ensures c.index-2.ensures in
    edges_seen (book_of codes points) c.args.self.now place (part edges firsts place) _ c.self.view_is read (are_edges codes points place (part edges firsts place) whole.kept (whole.edges_are.right place within))
