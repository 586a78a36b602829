use Rattle.std.proofs.Common.{ℕ, List, sym, ◌∙◌, ap, subst}
use Rattle.std.specs.Prelude.{MatchOption}
use Rattle.std.specs.List.{list_any}
use Rattle.ojp_values.specs.Texts.{Text, same}
use Rattle.ojp_values.specs.declared.trips.Point.{Point}
use Rattle.ojp_exchange.specs.Book.{Book, HasChange}
use Rattle.ojp_exchange.specs.Kept.{HasNoChange, Says, SaysNothing}
use Rattle.ojp_exchange.proofs.JoinFacts.{change_is, not_known}
use Rattle.ojp_exchange.proofs.book.Book.change.Goals as goal

pub returns-then-not-has_code : goal.returns-then-not-has_code
returns-then-not-has_code c =
    let codes = c.self.inside.codes.items in
    let told = ap (λ (cs : List Text). list_any (same c.args.from) cs) (sym c.as_slice.ensures.value) ∙ (sym c.has_code.ensures ∙ c.if-not-has_code.true) in
    subst (λ (book : Book). HasNoChange book c.args.point c.args.from c.args.to) c.self.view_is (not_known codes c.self.inside.points.items c.args.point c.args.from c.args.to told)

pub returns : goal.returns
returns c =
    let codes = c.self.inside.codes.items in
    let points = c.self.inside.points.items in
    let told = ap (λ (cs : List Text). list_any (same c.args.from) cs) (sym c.as_slice.ensures.value) ∙ (sym c.has_code.ensures ∙ c.if-not-has_code.false) in
    let said = subst (λ (ps : List Point). MatchOption c.change_from.result (SaysNothing ps c.args.point c.args.to c.args.from) (Says ps c.args.point c.args.to c.args.from)) c.as_slice-2.ensures.value c.change_from.ensures in
    subst (λ (book : Book). MatchOption c.change_from.result (HasNoChange book c.args.point c.args.from c.args.to) (λ (change : ℕ). HasChange book c.args.point c.args.from c.args.to change)) c.self.view_is
    (change_is codes points c.args.point c.args.from c.args.to c.change_from.result told said)
