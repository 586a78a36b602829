use Rattle.std.proofs.Common.{◌≡◌, ℕ, List, [], ◌++◌, IfOk, sym, ap, subst, append-nil, ◌∙◌}
use Rattle.ojp_decode.specs.Progress.{whole}
use Rattle.ojp_vectors.specs.Cases.{IsOutcome}
use Rattle.ojp_vectors.proofs.Outcomes.{behind_refused, no_bytes, some_bytes}
use Rattle.ojp_vectors.proofs.reading.outcome_behind.Goals as goal

pub returns-then-is_empty : goal.returns-then-is_empty
returns-then-is_empty c want before has =
    let none : c.args.behind.now ≡ [] = no_bytes c.args.behind.now (sym c.is_empty.ensures ∙ c.if-is_empty.true) in
    subst (λ (l : List ℕ). IfOk c.outcome_at_end.result (λ outcome. IsOutcome want l outcome)) (sym (ap (λ (l : List ℕ). before ++ l) none ∙ append-nil before))
    (c.outcome_at_end.ensures.whole want before has)

pub returns : goal.returns
returns c want before has =
    let fed = c.in-Err.ensures (whole want before) has in
    subst (λ r. IfOk r (λ outcome. IsOutcome want (before ++ c.args.behind.now) outcome)) (sym c.outcome_at.ensures)
    (behind_refused want before c.args.behind.now c.in-Err.refused fed.0 (some_bytes c.args.behind.now (sym c.is_empty.ensures ∙ c.if-is_empty.false)) fed.2)
