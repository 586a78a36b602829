use Rattle.std.proofs.Common.{List, slice_range, sym, ◌∙◌, ap, subst}
use Rattle.ojp_values.specs.Texts.{Text}
use Rattle.ojp_values.specs.declared.trips.Point.{Point}
use Rattle.ojp_exchange.specs.Book.{Book}
use Rattle.ojp_exchange.specs.Kept.{regions_of}
use Rattle.ojp_exchange.specs.Points.{IsStretch}
use Rattle.ojp_exchange.proofs.StretchFacts.{stretch_is}
use Rattle.ojp_exchange.proofs.book.Book.regions_at.Goals as goal

pub returns : goal.returns
returns c =
    let codes = c.self.inside.codes.items in
    let points = c.self.inside.points.items in
    let from = c.count_before-from.result in
    let to = c.count_through-to.result in
    let stretch = subst (λ (ps : List Point). IsStretch ps c.args.point from to) c.as_slice-points.ensures.value c.count_through-to.ensures in
    ap (λ (rs : List Text). slice_range rs from to) (c.as_slice.ensures.value ∙ c.self.invariant.regions_are)
    ∙ (sym (stretch_is codes points c.args.point from to stretch) ∙ ap (λ (book : Book). regions_of book c.args.point) c.self.view_is)
