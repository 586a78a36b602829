use Rattle.std.proofs.Common.{◌∙◌, append-nil, subst, sym}
use Rattle.std.specs.Prelude.{codes}
use Rattle.ojp_values.specs.Texts.{Text}
use Rattle.ojp_timetable.specs.Views.{reason_words}
use Rattle.ojp_feed.specs.declared.converting.ConvertRefused.{ConvertRefused}
use Rattle.ojp_steps.specs.Lent.{Tells, lent}
use Rattle.ojp_gtfs_cli.specs.Lines.{conversion_lines, fit_line, refused_line}
use Rattle.ojp_gtfs_cli.proofs.LineFacts.{told_both}
use Rattle.ojp_gtfs_cli.proofs.failures.refused_conversion.Goals as goal

pub returns-in-Line-clause-told : goal.returns-in-Line-clause-told
returns-in-Line-clause-told g c =
    let seen = g.E.Sink.seen in
    let old = c.args.report.now in
    let mid = c.refused_line-failure.new.report in
    let new = c.tell_fit.new.report in
    let line = c.in-Line.line in
    let feed = c.args.feed.now in
    let first = subst (λ (words : Text). Tells (lent seen old mid) (refused_line (codes "timetable") line words)) (append-nil c.words.result.now ∙ c.words.ensures) c.refused_line-failure.ensures.told in
    subst (λ (refused : ConvertRefused). Tells (lent seen old new) (conversion_lines feed.stops.items feed.trips.items c.args.fits refused)) (sym c.in-Line.is)
    (told_both seen old mid new (refused_line (codes "timetable") line (reason_words c.in-Line.reason)) (fit_line c.args.fits) c.refused_line-failure.ensures.later c.tell_fit.ensures.later first c.tell_fit.ensures.told)
