use Rattle.std.proofs.Common.{[], map, refl, arith}
use Rattle.std.specs.Prelude.{string_bytes}
use Rattle.ojp_links_mem.specs.Files.{files_seen}
use Rattle.ojp_steps.specs.Lent.{lent}
use Rattle.ojp_plan.proofs.PlanFacts.{fails_unanswered}
use Rattle.ojp_plan.proofs.planning.plan.Goals as goal

pub returns-in-Err : goal.returns-in-Err
returns-in-Err g c = record {
  trace = [];
  ends = fails_unanswered c.args.order c.args.traces (map (λ name. string_bytes name) c.args.names.now) (lent (files_seen g.F.Store.seen) c.args.files.now c.planned_text.new.files)
      (lent g.I.Source.seen c.args.input.now c.planned_text.new.input) (lent g.O.Sink.seen c.args.output.now c.args.output.now) c.in-Err.failure c.in-Err.ensures refl;
  told = refl;
  later = omega arith;
}
