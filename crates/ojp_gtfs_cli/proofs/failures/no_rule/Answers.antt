use Rattle.std.proofs.Common.{subst}
use Rattle.std.specs.Io.KnownBytes.{Appends}
use Rattle.ojp_values.specs.Dates.{day_text}
use Rattle.ojp_gtfs_cli.specs.Feeds.{held_day}
use Rattle.ojp_gtfs_cli.proofs.LineFacts.{is_no_rule}
use Rattle.ojp_gtfs_cli.proofs.failures.no_rule.Goals as goal

pub returns-clause-told : goal.returns-clause-told
returns-clause-told g c rests =
    subst (Appends (g.E.Sink.seen c.args.report.now).written (g.E.Sink.seen c.put.new.report).written)
    (is_no_rule c.args.zone.now (day_text (held_day c.args.window.first)) (day_text (held_day c.args.window.last)) c.as_bytes.result.now c.day_text.result c.day_text-2.result c.as_bytes.ensures.value
    c.day_text.ensures c.day_text-2.ensures)
    (c.put.ensures.told rests)
