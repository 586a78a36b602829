use Rattle.std.proofs.Common.{sym, subst, Option}
use Rattle.std.specs.Prelude.{option_map}
use Rattle.ojp_values.specs.Texts.{Text}
use Rattle.ojp_feed_lines.specs.Refusals.{ExplainsAll}
use Rattle.ojp_feed_lines.specs.Rows.{or_nothing}
use Rattle.ojp_steps.specs.Lent.{Tells, lent}
use Rattle.ojp_gtfs_cli.specs.Causes.{RowsFailAs}
use Rattle.ojp_gtfs_cli.specs.Lines.{feed_line}
use Rattle.ojp_gtfs_cli.specs.Meanings.{text_in}
use Rattle.ojp_gtfs_cli.specs.declared.failures.Failure.{Failure}
use Rattle.ojp_gtfs_cli.proofs.CauseFacts.{of_feed}
use Rattle.ojp_gtfs_cli.proofs.converting.read_rows.Goals as goal

pub returns-clause-cause : goal.returns-clause-cause
returns-clause-cause g c =
    let code = c.args.words.now.code in
    let name = text_in c.args.words.now.options.exchange in
    let operator = option_map (λ held. held.items) c.in-Ok.operator in
    let folder = g.D.Folder.seen c.args.folder.now in
    let folder_after = g.D.Folder.seen c.read_feed.new.folder in
    let store = g.S.Store.seen c.args.store.now in
    let store_after = g.S.Store.seen c.read_operator.new.store in
    let report = lent g.E.Sink.seen c.args.report.now c.refused_feed.new.report in
    let later = lent g.E.Sink.seen c.read_operator.new.report c.refused_feed.new.report in
    let behind = subst (λ (file : Text). Tells later (feed_line file c.in-Err-read_feed.refused)) c.name_or_nothing-name.ensures c.refused_feed.ensures.told in
    let told = subst (λ r. Tells (lent g.E.Sink.seen r c.refused_feed.new.report) (feed_line (or_nothing name) c.in-Err-read_feed.refused)) c.in-Ok.ensures.quiet behind in
    let why = subst (λ (o : Option Text). ExplainsAll folder.contents code o c.in-Err-read_feed.refused) c.bytes_in.ensures c.in-Err-read_feed.ensures.refused in
    subst (λ (failure : Failure). RowsFailAs code name folder folder_after store store_after report failure) (sym c.refused_feed.ensures.failure)
    (of_feed code name operator folder folder_after store store_after report c.in-Err-read_feed.refused c.in-Ok.ensures.held c.in-Err-read_feed.ensures.unread why told)
