use Rattle.std.proofs.Common.{sym, ap, ◌∙◌}
use Rattle.ojp_http.specs.declared.count.Begun.{Begun}
use Rattle.ojp_http.proofs.Runs.{run_count}
use Rattle.ojp_http.proofs.count.LineCount.after_run.Goals as goal

pub returns : goal.returns
returns c =
    ap (λ (b : Begun). record { begun = b; counted = c.args.self.counted; has_empty = c.args.self.has_empty }) c.after_run.ensures ∙ sym (run_count c.args.run.now c.args.self c.requires)
