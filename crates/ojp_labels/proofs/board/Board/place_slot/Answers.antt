use Rattle.std.proofs.Common.{refl, ◌≡◌, ◌<◌, length, slice_get, true, Some, sym, ap, ◌∙◌, arith}
use Rattle.std.proofs.lemmas.Option.{slice_get_read}
use Rattle.ojp_records.specs.declared.queries.Query.{Query}
use Rattle.ojp_labels.specs.Slots.{are_known}
use Rattle.ojp_labels.proofs.SlotFacts.{place_open, place_closed, place_unknown}
use Rattle.ojp_labels.proofs.board.Board.place_slot.Goals as goal

pub returns-then-not-are_known : goal.returns-then-not-are_known
returns-then-not-are_known c = place_unknown c.args.book.now c.args.self.now c.args.place (sym c.are_known.ensures ∙ c.if-not-are_known.true)

pub returns-in-Some : goal.returns-in-Some
returns-in-Some c =
    let board = c.args.self.now in
    let place = c.args.place in
    let known : are_known board.origin board.target ≡ true = sym c.are_known.ensures ∙ c.if-not-are_known.false in
    let label : slice_get board.labels.items place ≡ Some c.index.result.now = slice_get_read board.labels.items (length board.labels.items) place c.index.result.now refl (omega arith) c.index.ensures in
    ap (λ (query : Query). Some query) c.reach_from.ensures
    ∙ place_open c.args.book.now board place c.spot.result c.index.result.now c.in-Some.start known c.spot.ensures label (sym c.open_start.ensures ∙ c.in-Some.is)

pub returns-in-None : goal.returns-in-None
returns-in-None c =
    let board = c.args.self.now in
    let place = c.args.place in
    let known : are_known board.origin board.target ≡ true = sym c.are_known.ensures ∙ c.if-not-are_known.false in
    let label : slice_get board.labels.items place ≡ Some c.index.result.now = slice_get_read board.labels.items (length board.labels.items) place c.index.result.now refl (omega arith) c.index.ensures in
    let within : place < length c.args.book.now.spots = omega arith in
    place_closed c.args.book.now board place c.index.result.now known within label (sym c.open_start.ensures ∙ c.in-None.is)
