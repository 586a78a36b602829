use Rattle.std.proofs.Common.{refl, ◌≡◌, ◌<◌, ◌+◌, ◌-◌, ℕ, Option, Some, length, drop, slice_get, sym, ap, ◌∙◌, arith}
use Rattle.std.proofs.lemmas.Option.{slice_get_read}
use Rattle.ojp_values.specs.Texts.{Text}
use Rattle.ojp_records.specs.Ends.{least_text}
use Rattle.ojp_labels.specs.Boards.{lesser_code, failed_places}
use Rattle.ojp_labels.specs.Labels.{failed_by}
use Rattle.ojp_labels.proofs.FaultFacts.{failed_more}
use Rattle.ojp_labels.proofs.board.Board.failed_pair.Goals as goal

pub places-preserved : goal.places-preserved
places-preserved c =
    let board = c.args.self.now in
    let spots = c.args.book.now.spots in
    let labels = board.labels.items in
    let p = c.places.place - 1 in
    let here : p + 1 ≡ c.places.place = omega arith in
    let label : slice_get labels p ≡ Some c.index.result.now = slice_get_read labels (length labels) p c.index.result.now refl (omega arith) c.index.ensures in
    c.lesser_code-least.ensures
    ∙ (ap (λ (o : Option Text). lesser_code o c.places.least) c.failed_by-failed.ensures
    ∙ (ap (λ (o : Option Text). lesser_code (failed_by board.ask board.best c.spot.result c.index.result.now) o)
    (c.places.invariant ∙ ap (λ (k : ℕ). least_text (failed_places board.ask board.best (drop k spots) (drop k labels))) (sym here))
    ∙ sym (failed_more board.ask board.best spots labels p c.spot.result c.index.result.now c.spot.ensures label)))

pub returns : goal.returns
returns c =
    let board = c.args.self.now in
    let first : c.places.place ≡ 0 = omega arith in
    c.places.invariant ∙ ap (λ (k : ℕ). least_text (failed_places board.ask board.best (drop k c.args.book.now.spots) (drop k board.labels.items))) first
