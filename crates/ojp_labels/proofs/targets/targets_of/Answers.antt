use Rattle.std.proofs.Common.{◌≡◌, ◌∙◌, ◌++◌, ◌∷◌, [], List, cond, sym, ap}
use Rattle.ojp_values.specs.Texts.{Text}
use Rattle.ojp_labels.proofs.TargetFacts.{with_goal, without_goal}
use Rattle.ojp_labels.proofs.targets.targets_of.Goals as goal
use Rattle.ojp_labels.proofs.targets.targets_of.Goals.{then-serves+else-is_err, else-serves}

pub returns : goal.returns
returns c =
    elim c.if-serves.branch [
      | then-serves+else-is_err w ↦
          c.from_items.ensures ∙ (ap (λ v. v.items) w.stops-is
          ∙ (w.push.ensures.items ∙ (ap (λ b. cond b (c.in_ok-stops.stops.items ++ c.args.ask.now.target ∷ []) c.in_ok-stops.stops.items) w.if-is_err.ensures.negation
          ∙ with_goal c.args.book.now c.args.ask.now c.args.stop c.args.region c.in_ok-stops.stops.items c.in_ok-stops.ensures (sym w.if-serves.ensures))))
      | else-serves w ↦
          c.from_items.ensures ∙ (ap (λ v. v.items) w.stops-is ∙ without_goal c.args.book.now c.args.ask.now c.args.stop c.args.region c.in_ok-stops.stops.items c.in_ok-stops.ensures (sym w.if-serves.ensures))
    ]
