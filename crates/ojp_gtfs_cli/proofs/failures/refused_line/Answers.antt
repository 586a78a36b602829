use Rattle.std.proofs.Common.{◌++◌, [], ◌∷◌, subst}
use Rattle.ojp_values.specs.Texts.{Text}
use Rattle.ojp_steps.specs.Lent.{Tells, lent}
use Rattle.ojp_gtfs_cli.specs.Lines.{place_text}
use Rattle.ojp_gtfs_cli.proofs.LineFacts.{is_refused, told_both}
use Rattle.ojp_gtfs_cli.proofs.failures.refused_line.Goals as goal

pub returns-clause-told : goal.returns-clause-told
returns-clause-told g c =
    let seen = g.E.Sink.seen in
    let words = c.as_bytes.result.now in
    let column = c.as_bytes-2.result.now in
    subst (λ (text : Text). Tells (lent seen c.args.report.now c.put.new.report) text)
    (is_refused c.args.file.now c.args.words.now c.args.column.now c.args.line words column c.as_bytes.ensures.value c.as_bytes-2.ensures.value)
    (told_both seen c.args.report.now c.tell_place.new.report c.put.new.report (place_text c.args.file.now c.args.line) (words ++ (column ++ 10 ∷ []))
    c.tell_place.ensures.later c.put.ensures.later c.tell_place.ensures.told c.put.ensures.told)
