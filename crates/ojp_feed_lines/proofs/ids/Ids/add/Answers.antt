use Rattle.std.proofs.Common.{◌≡◌, false, subst}
use Rattle.std.specs.Prelude.{Contains}
use Rattle.ojp_values.specs.Texts.{Text}
use Rattle.ojp_feed_lines.specs.IdTexts.{id_texts}
use Rattle.ojp_feed_lines.proofs.IdFacts.{added_not}
use Rattle.ojp_feed_lines.proofs.ids.Ids.add.Goals.{in-Ok, in-Err}
use Rattle.ojp_feed_lines.proofs.ids.Ids.add.Goals as goal

pub returns-clause-there : goal.returns-clause-there
returns-clause-there c =
    λ is.
    elim c.match-insert.branch [
      | in-Ok w ↦
          let old : w.in-Ok.added ≡ false = cc (is, w.result-is) in
          subst (λ (t : Text). Contains (id_texts c.args.self.now) t) c.in_ok-text.ensures.text
          (added_not c.args.self.now.ids.keys c.in_ok-text.text w.in-Ok.added old w.in-Ok.ensures.added)
      | in-Err w ↦ cc (is, w.result-is)
    ]
