use Rattle.std.proofs.Common.{◌∙◌, None, ap, inr, refl, subst, sym}
use Rattle.ojp_values.specs.Texts.{Text}
use Rattle.ojp_outside.specs.Files.{IsContents}
use Rattle.ojp_calendars.specs.Files.{IsNoFile}
use Rattle.ojp_calendars.specs.declared.faults.ZoneFault.{ZoneFault}
use Rattle.ojp_steps.specs.Lent.{Tells, lent}
use Rattle.ojp_gtfs_cli.specs.Causes.{GivesNone, ZoneFailsAs}
use Rattle.ojp_gtfs_cli.specs.Feeds.{zone_file, zone_path}
use Rattle.ojp_gtfs_cli.specs.Lines.{no_rule_line}
use Rattle.ojp_gtfs_cli.specs.Refused.{FindsNoRule}
use Rattle.ojp_gtfs_cli.specs.declared.failures.Failure.{Failure}
use Rattle.ojp_gtfs_cli.proofs.CauseFacts.{no_zone_file, of_stored}
use Rattle.ojp_gtfs_cli.proofs.zones.zone_by_file.Goals as goal

pub returns-in-Err-File-clause-cause : goal.returns-in-Err-File-clause-cause
returns-in-Err-File-clause-cause g c =
    let store = g.S.Store.seen c.args.store.now in
    let store_after = g.S.Store.seen c.read_file.new.self in
    let report = lent g.E.Sink.seen c.args.report.now c.unread-in-Err-File.new.report in
    let feed = c.args.feed.now in
    let held = subst (λ (name : Text). IsContents store.contents name c.in-Ok-read_file.bytes.items)
    (c.as_str.ensures.value ∙ c.in-Ok.ensures) c.in-Ok-read_file.ensures.ok in
    let none = subst IsNoFile c.deref.ensures.value
    (subst (λ (fault : ZoneFault). GivesNone c.deref.result.now feed.window fault) c.in-Err-File.field-0-is c.in-Err-File.ensures.cause) in
    subst (λ (failure : Failure). ZoneFailsAs None c.args.zoneinfo.now feed store store_after report failure) (sym c.unread-in-Err-File.ensures.failure)
    (inr (no_zone_file c.args.zoneinfo.now c.as_str-name.result.now store.contents c.in-Ok-read_file.bytes.items held none))

pub returns-clause-cause : goal.returns-clause-cause
returns-clause-cause g c =
    let store = g.S.Store.seen c.args.store.now in
    let store_after = g.S.Store.seen c.read_file.new.self in
    let report = lent g.E.Sink.seen c.args.report.now c.no_rule.new.report in
    let feed = c.args.feed.now in
    let bytes = c.in-Ok-read_file.bytes.items in
    let held = subst (λ (name : Text). IsContents store.contents name bytes)
    (c.as_str.ensures.value ∙ (c.in-Ok.ensures ∙ ap (zone_path c.args.zoneinfo.now) c.as_str-name.ensures.value)) c.in-Ok-read_file.ensures.ok in
    let finds = subst (λ (b : Text). FindsNoRule b feed.window) c.deref.ensures.value
    (subst (λ (fault : ZoneFault). GivesNone c.deref.result.now feed.window fault) c.in-Err-Rule.field-0-is c.in-Err-Rule.ensures.cause) in
    let told = subst (λ (zone : Text). Tells report (no_rule_line zone feed.window)) c.as_str-name.ensures.value c.no_rule.ensures.told in
    subst (λ (failure : Failure). ZoneFailsAs None c.args.zoneinfo.now feed store store_after report failure) (sym c.no_rule.ensures.failure)
    (record {
      unasked = refl;
      why = inr (record {
        none = of_stored store.contents (zone_file c.args.zoneinfo.now feed) bytes (λ (b : Text). FindsNoRule b feed.window) held finds;
        told = told;
      });
    })
