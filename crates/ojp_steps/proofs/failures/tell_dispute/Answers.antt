use Rattle.std.proofs.Common.{[], ◌∷◌, ◌++◌, ap, sym, subst}
use Rattle.std.specs.Prelude.{codes}
use Rattle.std.specs.Io.KnownBytes.{Appends}
use Rattle.ojp_values.specs.Texts.{Text}
use Rattle.ojp_steps.proofs.LineFacts.{six_parts}
use Rattle.ojp_steps.proofs.failures.tell_dispute.Goals as goal

pub returns-clause-told : goal.returns-clause-told
returns-clause-told g c rests =
    subst (Appends (g.E.Sink.seen c.args.faults.now).written (g.E.Sink.seen c.put.new.faults).written)
    (ap (λ (parts : Text). codes "regions disagree: " ++ parts) (sym (six_parts c.args.point.now (32 ∷ []) c.args.left.now (32 ∷ []) c.args.right.now (10 ∷ []))))
    (c.put.ensures.told rests)
