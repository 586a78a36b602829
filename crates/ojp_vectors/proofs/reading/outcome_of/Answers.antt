use Rattle.std.proofs.Common.{◌≡◌, ℕ, List, [], ◌++◌, IfOk, refl, sym, ap, subst, take, drop, take-append-drop, append_assoc, ◌∙◌}
use Rattle.ojp_decode.specs.Progress.{reading, whole}
use Rattle.ojp_vectors.specs.Cases.{IsOutcome, outcome_by}
use Rattle.ojp_vectors.proofs.Outcomes.{on_refused, fed_more, fed_whole, joined, whole_again}
use Rattle.ojp_vectors.proofs.reading.outcome_of.Goals as goal

pub pieces-preserved : goal.pieces-preserved
pieces-preserved c =
    let inv = c.pieces.invariant in
    let parts : c.pieces.left.now ≡ c.split_at.result.0.now ++ c.split_at.result.1.now = joined c.pieces.left.now _ _ _ c.split_at.ensures.front c.split_at.ensures.back in
    let fed = (rw c.in-Ok-More.field-0-is at c.in-Ok-More.ensures) (reading c.args.want inv.0) inv.2 in (
      inv.0 ++ c.split_at.result.0.now,
      inv.1 ∙ ap (λ (l : List ℕ). inv.0 ++ l) parts ∙ sym (append_assoc inv.0 c.split_at.result.0.now c.split_at.result.1.now),
      fed_more c.args.want inv.0 c.split_at.result.0.now c.feed.new.self fed,
    )

pub returns-in-Ok-Whole : goal.returns-in-Ok-Whole
returns-in-Ok-Whole c =
    let inv = c.pieces.invariant in
    let parts : c.pieces.left.now ≡ c.split_at.result.0.now ++ c.split_at.result.1.now = joined c.pieces.left.now _ _ _ c.split_at.ensures.front c.split_at.ensures.back in
    let fed = fed_whole c.args.want inv.0 c.split_at.result.0.now c.in-Ok-Whole.used c.feed.new.self ((rw c.in-Ok-Whole.field-0-is at c.in-Ok-Whole.ensures) (reading c.args.want inv.0) inv.2) in
    let read : List ℕ = inv.0 ++ take c.in-Ok-Whole.used c.split_at.result.0.now in
    let all = whole_again c.args.bytes.now inv.0 c.split_at.result.0.now c.split_at.result.1.now c.pieces.left.now c.in-Ok-Whole.used inv.1 parts fed.1 in
    subst (λ (l : List ℕ). IfOk c.outcome_behind.result (λ outcome. IsOutcome c.args.want l outcome)) all (c.outcome_behind.ensures c.args.want read fed.0)

pub returns-in-Err : goal.returns-in-Err
returns-in-Err c =
    let inv = c.pieces.invariant in
    let parts : c.pieces.left.now ≡ c.split_at.result.0.now ++ c.split_at.result.1.now = joined c.pieces.left.now _ _ _ c.split_at.ensures.front c.split_at.ensures.back in
    let fed = c.in-Err.ensures (reading c.args.want inv.0) inv.2 in
    subst (λ r. IfOk r (λ outcome. IsOutcome c.args.want c.args.bytes.now outcome)) (sym c.outcome_at.ensures)
    (subst (λ (l : List ℕ). IfOk (outcome_by c.in-Err.refused) (λ outcome. IsOutcome c.args.want l outcome)) (sym (inv.1 ∙ ap (λ (l : List ℕ). inv.0 ++ l) parts))
    (on_refused c.args.want inv.0 c.split_at.result.0.now c.split_at.result.1.now c.in-Err.refused fed.0 fed.2))
