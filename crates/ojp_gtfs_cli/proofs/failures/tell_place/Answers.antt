use Rattle.std.proofs.Common.{◌∙◌, subst}
use Rattle.std.specs.Io.KnownBytes.{Appends}
use Rattle.ojp_gtfs_cli.proofs.LineFacts.{is_place}
use Rattle.ojp_gtfs_cli.proofs.failures.tell_place.Goals as goal

pub returns-clause-told : goal.returns-clause-told
returns-clause-told g c rests =
    subst (Appends (g.E.Sink.seen c.args.report.now).written (g.E.Sink.seen c.put.new.report).written)
    (is_place c.args.file.now c.as_bytes-2.result.now c.args.line c.as_bytes.result.now c.as_bytes.ensures.value (c.as_bytes-2.ensures.value ∙ c.format-number.ensures.text))
    (c.put.ensures.told rests)
