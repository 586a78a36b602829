use Rattle.std.proofs.Common.{append-nil, subst}
use Rattle.ojp_values.specs.Texts.{Text}
use Rattle.ojp_steps.specs.Lent.{Tells, lent}
use Rattle.ojp_gtfs_cli.specs.Lines.{fit_line}
use Rattle.ojp_gtfs_cli.proofs.LineFacts.{told_both}
use Rattle.ojp_gtfs_cli.proofs.failures.past_limit.Goals as goal

pub returns-clause-told : goal.returns-clause-told
returns-clause-told g c =
    let seen = g.E.Sink.seen in
    told_both seen c.args.report.now c.put.new.report c.tell_fit.new.report c.args.line.now (fit_line c.args.fits) c.put.ensures.later c.tell_fit.ensures.later
    (subst (λ (text : Text). Tells (lent seen c.args.report.now c.put.new.report) text) (append-nil c.args.line.now) c.put.ensures.told) c.tell_fit.ensures.told
