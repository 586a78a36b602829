use Rattle.std.proofs.Common.{List, ap, subst, ◌∙◌}
use Rattle.std.specs.Prelude.{MatchOption}
use Rattle.ojp_values.specs.Texts.{Text}
use Rattle.ojp_exchange.specs.Book.{Book}
use Rattle.ojp_exchange.specs.Places.{IsCodeAt, IsNoCode}
use Rattle.ojp_exchange.proofs.book.Book.number_of.Goals as goal

pub returns : goal.returns
returns c =
    let region = c.args.region in
    let found = c.number_of.result in
    subst (λ (codes : List Text). MatchOption found (IsNoCode codes region) (λ number. IsCodeAt codes number region)) (c.as_slice.ensures.value ∙ ap (λ (book : Book). book.codes) c.self.view_is) c.number_of.ensures
