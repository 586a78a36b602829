use Rattle.std.proofs.Common.{ℕ, List, subst}
use Rattle.std.specs.Prelude.{MatchOption}
use Rattle.ojp_values.specs.declared.trips.Point.{Point}
use Rattle.ojp_exchange.specs.Book.{Book}
use Rattle.ojp_exchange.specs.Kept.{HasNoPoint, IsPointAt}
use Rattle.ojp_exchange.specs.Places.{IsPairAt, NoPairAt}
use Rattle.ojp_exchange.proofs.SpotFacts.{place_found}
use Rattle.ojp_exchange.proofs.book.Book.place_of.Goals as goal

pub returns : goal.returns
returns c =
    let found = c.place_of.result in
    let said = subst (λ (ps : List Point). MatchOption found (HasNoPoint ps c.args.stop c.args.region) (IsPointAt ps c.args.stop c.args.region)) c.as_slice.ensures.value c.place_of.ensures in
    subst (λ (book : Book). MatchOption found (NoPairAt book c.args.stop c.args.region) (λ (place : ℕ). IsPairAt book place c.args.stop c.args.region)) c.self.view_is
    (place_found c.self.inside.codes.items c.self.inside.points.items c.args.stop c.args.region found said)
