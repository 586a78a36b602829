use Rattle.std.proofs.Common.{[], ◌∷◌, inl, inr, refl, arith}
use Rattle.std.specs.Prelude.{codes}
use Rattle.ojp_feed_lines.proofs.OperatorFacts.{bad_code, bad_neighbour, bad_seconds, more, too_few}
use Rattle.ojp_feed_lines.proofs.operator.neighbour_of.Goals as goal

pub returns-in_default-clause-refused : goal.returns-in_default-clause-refused
returns-in_default-clause-refused c =
    λ ids above line at. too_few c.args.code ids above line (codes "neighbour" ∷ []) c.args.rest.now at c.in_default.ensures (inl (inr refl, omega arith))

pub returns-in_default-cut-clause-refused : goal.returns-in_default-cut-clause-refused
returns-in_default-cut-clause-refused c =
    λ ids above line at.
    too_few c.args.code ids above line (codes "neighbour" ∷ c.in-Some.point.now ∷ []) c.in-Some.rest.now
    (more (codes "neighbour" ∷ []) line c.args.rest.now c.in-Some.point.now c.in-Some.rest.now at c.in-Some.ensures) c.in_default-cut.ensures (inl (inr refl, omega arith))

pub returns-in_default-point_of-clause-refused : goal.returns-in_default-point_of-clause-refused
returns-in_default-point_of-clause-refused c =
    λ ids above line at.
    bad_neighbour c.args.code ids above line c.in-Some.point.now c.in-Some-cut.region.now c.in-Some-cut.change.now
    (more (codes "neighbour" ∷ c.in-Some.point.now ∷ []) line c.in-Some.rest.now c.in-Some-cut.region.now c.in-Some-cut.change.now
    (more (codes "neighbour" ∷ []) line c.args.rest.now c.in-Some.point.now c.in-Some.rest.now at c.in-Some.ensures) c.in-Some-cut.ensures)
    c.in_default-point_of.ensures

pub returns-in_default-other_code-clause-refused : goal.returns-in_default-other_code-clause-refused
returns-in_default-other_code-clause-refused c =
    λ ids above line at.
    bad_code c.args.code ids above line c.in-Some.point.now c.in-Some-cut.region.now c.in-Some-cut.change.now
    (more (codes "neighbour" ∷ c.in-Some.point.now ∷ []) line c.in-Some.rest.now c.in-Some-cut.region.now c.in-Some-cut.change.now
    (more (codes "neighbour" ∷ []) line c.args.rest.now c.in-Some.point.now c.in-Some.rest.now at c.in-Some.ensures) c.in-Some-cut.ensures)
    c.in_default-other_code.ensures

pub returns-in_default-seconds_of-clause-refused : goal.returns-in_default-seconds_of-clause-refused
returns-in_default-seconds_of-clause-refused c =
    λ ids above line at.
    bad_seconds c.args.code ids above line c.in-Some.point.now c.in-Some-cut.region.now c.in-Some-cut.change.now
    (more (codes "neighbour" ∷ c.in-Some.point.now ∷ []) line c.in-Some.rest.now c.in-Some-cut.region.now c.in-Some-cut.change.now
    (more (codes "neighbour" ∷ []) line c.args.rest.now c.in-Some.point.now c.in-Some.rest.now at c.in-Some.ensures) c.in-Some-cut.ensures)
    c.in_default-seconds_of.ensures
