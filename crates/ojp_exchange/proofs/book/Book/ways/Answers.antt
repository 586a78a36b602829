use Rattle.std.proofs.Common.{◌<◌, ◌+◌, length, slice_get, subst, ap, arith, ◌∙◌}
use Rattle.std.proofs.lemmas.Option.{slice_get_within}
use Rattle.ojp_exchange.specs.Book.{Book}
use Rattle.ojp_exchange.specs.Kept.{IsWellBook, book_of}
use Rattle.ojp_exchange.specs.Places.{IsCodeAt}
use Rattle.ojp_exchange.specs.Tables.{ways_in}
use Rattle.ojp_exchange.proofs.TableFacts.{part_read}
use Rattle.ojp_exchange.proofs.WayFacts.{are_ways, no_ways, ways_seen}
use Rattle.ojp_exchange.proofs.WellBook.{well_book}
use Rattle.ojp_exchange.proofs.book.Book.ways.Goals as goal

pub returns-in-Some : goal.returns-in-Some
returns-in-Some c =
    let inside = c.self.inside in
    let whole = c.self.invariant in
    let codes = inside.codes.items in
    let points = inside.points.items in
    let ways = inside.ways.ways.items in
    let firsts = inside.ways.firsts.items in
    let region = c.args.region in
    let number = c.in-Some.number in
    let at : IsCodeAt codes number region = ap (λ (book : Book). slice_get book.codes number) c.self.view_is ∙ c.in-Some.ensures in
    let within = slice_get_within codes number region at in
    let next : number + 1 < length firsts = omega (arith, within, whole.ways_are.size) in
    let read = part_read ways c.deref.result.now firsts number c.index.result.now c.index-in-Some.result.now c.deref.ensures.value next c.index.ensures c.index-in-Some.ensures in
    let is = read ∙ whole.ways_are.right number within region at in
    ways_seen (book_of codes points) c.args.self.now region (ways_in points inside.edges.firsts.items region) _ c.self.view_is is
    (are_ways codes points inside.edges.edges.items inside.edges.firsts.items region whole.kept (well_book codes points whole.kept whole.sound) whole.edges_are)

pub returns-in-None : goal.returns-in-None
returns-in-None c =
    let well = subst IsWellBook c.self.view_is (well_book c.self.inside.codes.items c.self.inside.points.items c.self.invariant.kept c.self.invariant.sound) in
    no_ways c.args.self.now c.args.region well c.in-None.ensures
