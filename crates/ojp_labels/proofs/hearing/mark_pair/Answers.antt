use Rattle.std.proofs.Common.{ℕ, inl, inr, subst, refl}
use Rattle.std.specs.Prelude.{MatchOption}
use Rattle.ojp_exchange.specs.Places.{IsPairAt, NoPairAt}
use Rattle.ojp_labels.proofs.hearing.mark_pair.Goals as goal

pub returns-in-Some-clause-marked : goal.returns-in-Some-clause-marked
returns-in-Some-clause-marked c = inl (c.in-Some.place, c.in-Some.ensures, c.mark.ensures)

pub returns-in_default-clause-marked : goal.returns-in_default-clause-marked
returns-in_default-clause-marked c =
    inr (subst (λ r. MatchOption r (NoPairAt c.args.book.now c.args.stop c.args.region) (λ place. IsPairAt c.args.book.now place c.args.stop c.args.region)) c.in_default.is c.place_of.ensures, refl)
