use Rattle.std.proofs.Common.{◌≡◌, ◌+◌, ◌++◌, ◌∷◌, [], ℕ, List, length, cond, sym, ◌∙◌, ap, subst, arith}
use Rattle.ojp_exchange.proofs.BookFacts.{serves_spot}
use Rattle.ojp_timetable.proofs.ReadFacts.{among_at}
use Rattle.ojp_labels.specs.declared.labels.Label.{Label}
use Rattle.ojp_labels.proofs.StartingFacts.{LabelledTo, labelled_none, labelled_more, labelled_all}
use Rattle.ojp_labels.proofs.starting.first_labels.Goals as goal

pub first_label-label-requires : goal.first_label-label-requires
first_label-label-requires c = serves_spot c.args.book.now c.spot.result (among_at c.args.book.now.spots c.places.place c.spot.result c.spot.ensures)

pub places-init : goal.places-init
places-init c = subst (λ (labels : List Label). LabelledTo c.args.book.now c.args.ask.now labels 0) (sym c.new-labels.ensures.items) (labelled_none c.args.book.now c.args.ask.now)

pub places-preserved : goal.places-preserved
places-preserved c =
    let pushed : c.push.new.self.items ≡ c.places.labels.items ++ c.first_label-label.result ∷ [] =
    c.push.ensures.items ∙ ap (λ b. cond b (c.places.labels.items ++ c.first_label-label.result ∷ []) c.places.labels.items) c.if-is_err.ensures.negation in
    subst (λ (labels : List Label). LabelledTo c.args.book.now c.args.ask.now labels (c.places.place + 1)) (sym pushed)
    (labelled_more c.args.book.now c.args.ask.now c.places.labels.items c.places.place c.spot.result c.first_label-label.result c.spot.ensures c.first_label-label.ensures c.places.invariant)

pub returns : goal.returns
returns c =
    let all : c.places.place ≡ length c.args.book.now.spots = omega (arith, c.places-place-end.ensures) in
    labelled_all c.args.book.now c.args.ask.now c.places.labels.items (subst (λ (n : ℕ). LabelledTo c.args.book.now c.args.ask.now c.places.labels.items n) all c.places.invariant)
