use Rattle.std.proofs.Common.{◌≡◌, ℕ, List, ◌∷◌, map, refl, sym, ap, Some, ◌∙◌, slice_get, arith}
use Rattle.ojp_vectors.specs.Cases.{stated, Holds, Stated}
use Rattle.ojp_vectors.proofs.Outcomes.{hold_next, case_at}
use Rattle.ojp_vectors.proofs.vectors.first_wrong.Goals as goal

pub returns-then-not-branch : goal.returns-then-not-branch
returns-then-not-branch c = (c.loop-number.invariant, (_, case_at c.args.cases.now c.loop-number.number _ (omega (arith, c.loop-number-test.true, c.loop-number.auto.number-end)), rw c.if-not-branch.true at c.in_ok-is_right.ensures))

pub loop-number-preserved : goal.loop-number-preserved
loop-number-preserved c = hold_next (map stated c.args.cases.now) c.loop-number.number _ (case_at c.args.cases.now c.loop-number.number _ (omega (arith, c.loop-number-test.true, c.loop-number.auto.number-end))) (rw c.if-not-branch.false at c.in_ok-is_right.ensures) c.loop-number.invariant
