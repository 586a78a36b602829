use Rattle.std.proofs.Common.{[], ◌∷◌, inl, refl, arith}
use Rattle.std.specs.Prelude.{codes}
use Rattle.ojp_feed_lines.specs.IdTexts.{id_texts}
use Rattle.ojp_feed_lines.proofs.OperatorFacts.{bad_exchange, exchange_fault, more, too_few}
use Rattle.ojp_feed_lines.proofs.operator.exchange_of.Goals as goal

pub returns-in_default-clause-refused : goal.returns-in_default-clause-refused
returns-in_default-clause-refused c =
    λ code above line at.
    too_few code (id_texts c.args.stops.now) above line (codes "exchange" ∷ []) c.args.rest.now at c.in_default.ensures (inl (inl refl, omega arith))

pub returns-in_default-point_of-clause-refused : goal.returns-in_default-point_of-clause-refused
returns-in_default-point_of-clause-refused c =
    λ code above line at.
    bad_exchange code (id_texts c.args.stops.now) above line c.in-Some.point.now c.in-Some.rest.now
    (more (codes "exchange" ∷ []) line c.args.rest.now c.in-Some.point.now c.in-Some.rest.now at c.in-Some.ensures) c.in_default-point_of.ensures

pub returns-in-Err-clause-refused : goal.returns-in-Err-clause-refused
returns-in-Err-clause-refused c =
    λ code above line at.
    exchange_fault code (id_texts c.args.stops.now) above line c.in-Some.point.now c.in-Some.rest.now c.in-Err.reason
    (more (codes "exchange" ∷ []) line c.args.rest.now c.in-Some.point.now c.in-Some.rest.now at c.in-Some.ensures) c.in-Err.ensures.refused
