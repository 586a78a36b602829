use Rattle.std.proofs.Common.{◌≡◌, ◌∙◌, Some, ap, sym}
use Rattle.ojp_links_mem.specs.Files.{files_seen}
use Rattle.ojp_steps.specs.Lent.{lent}
use Rattle.ojp_cli.specs.Words.{named_by, texts_of, Plan, Check}
use Rattle.ojp_cli.specs.Commands.{meaning, text_in, words_of}
use Rattle.ojp_cli.specs.declared.words.Command.{Command}
use Rattle.ojp_cli.proofs.RunFacts.{due_if_check, due_if_plan, runs_plan}
use Rattle.ojp_cli.proofs.here.run_here.Goals as goal

pub returns-in-Some-clause-runs : goal.returns-in-Some-clause-runs
returns-in-Some-clause-runs g c =
    let words = c.in-Some-Plan.words in
    let named : named_by c.args.words.now ≡ Some (Plan (text_in words.order) words.traces (texts_of words.files.now)) =
    sym c.read_words.ensures ∙ ap meaning c.in-Some-Plan.is ∙ ap (λ (x : Command). Some (words_of x)) c.in-Some-Plan.field-0-is in
    runs_plan (named_by c.args.words.now) (text_in words.order) words.traces (texts_of words.files.now) named (lent g.I.Source.seen c.args.input.now c.plan.new.input) (lent g.O.Sink.seen c.args.output.now c.plan.new.output)
    (lent (files_seen g.F.Store.seen) c.args.files.now c.plan.new.files) c.conclude.result g.E.Sink.seen c.args.faults.now c.plan.new.faults c.conclude.new.faults c.in-Some.order c.plan.result c.in-Some.ensures c.plan.ensures
    c.conclude.ensures

pub returns-in-Some-clause-due : goal.returns-in-Some-clause-due
returns-in-Some-clause-due g c =
    let words = c.in-Some-Plan.words in
    let named : named_by c.args.words.now ≡ Some (Plan (text_in words.order) words.traces (texts_of words.files.now)) =
    sym c.read_words.ensures ∙ ap meaning c.in-Some-Plan.is ∙ ap (λ (x : Command). Some (words_of x)) c.in-Some-Plan.field-0-is in
    due_if_plan (named_by c.args.words.now) (text_in words.order) words.traces (texts_of words.files.now) named (lent g.I.Source.seen c.args.input.now c.plan.new.input) (lent g.O.Sink.seen c.args.output.now c.plan.new.output)
    (lent (files_seen g.F.Store.seen) c.args.files.now c.plan.new.files) c.conclude.result (lent g.E.Sink.seen c.args.faults.now c.plan.new.faults) (lent g.E.Sink.seen c.plan.new.faults c.conclude.new.faults) c.in-Some.order c.plan.result c.in-Some.ensures c.plan.ensures
    c.conclude.ensures

pub returns-in-Some-Check-clause-due : goal.returns-in-Some-Check-clause-due
returns-in-Some-Check-clause-due g c =
    let named : named_by c.args.words.now ≡ Some Check =
    sym c.read_words.ensures ∙ ap meaning c.in-Some-Check.is ∙ ap (λ (x : Command). Some (words_of x)) c.in-Some-Check.field-0-is in
    due_if_check _ _ _ _ _ c.check.result _ named c.check.ensures c.conclude-in-Some-Check.ensures
