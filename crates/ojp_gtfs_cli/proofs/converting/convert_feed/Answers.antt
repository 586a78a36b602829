use Rattle.std.proofs.Common.{◌∙◌, refl, subst}
use Rattle.std.specs.Prelude.{string_bytes}
use Rattle.ojp_feed_rows.specs.declared.settings.Settings.{Settings}
use Rattle.ojp_steps.specs.Lent.{lent}
use Rattle.ojp_gtfs_cli.specs.Causes.{ConversionFailsAs, FailsAs, ZoneFailsAs}
use Rattle.ojp_gtfs_cli.specs.Feeds.{AreSettings, IsZoneFor, Stored}
use Rattle.ojp_gtfs_cli.specs.Meanings.{text_in, wanted_by}
use Rattle.ojp_gtfs_cli.proofs.CauseFacts.{of_conversion, of_zone, passed_on, store_goes_on}
use Rattle.ojp_gtfs_cli.proofs.converting.convert_feed.Goals as goal

pub returns-in_err-zone-clause-cause : goal.returns-in_err-zone-clause-cause
returns-in_err-zone-clause-cause g c =
    let wanted = wanted_by c.args.words.now in
    let zoneinfo = c.args.zoneinfo.now in
    let folder = lent g.D.Folder.seen c.args.folder.now c.read_rows.new.folder in
    let seen = g.S.Store.seen in
    let store = lent seen c.args.store.now c.zone_text.new.store in
    let report = g.E.Sink.seen in
    let old = c.args.report.now in
    let new = c.zone_text.new.report in
    let failure = c.in_err-zone.field-0.0 in
    let middle = seen c.read_rows.new.store in
    let on = store_goes_on (seen c.args.store.now) (seen c.read_others.new.store) middle c.in_ok-others.ensures.on c.in_ok-feed.ensures.store in
    let fails = subst (λ (r : _). ZoneFailsAs wanted.chosen.zone zoneinfo c.in_ok-feed.feed middle (seen c.zone_text.new.store) (lent report r new) failure)
    (c.in_ok-feed.ensures.quiet ∙ c.in_ok-others.ensures.quiet) c.in_err-zone.ensures.cause in
    passed_on c.from_residual-in_err-zone.result failure (FailsAs wanted zoneinfo folder store (lent report old new)) c.from_residual-in_err-zone.ensures.1
    (of_zone wanted zoneinfo folder store report old new middle c.in_ok-feed.feed failure on c.in_ok-feed.ensures.feed fails)

pub returns-in_err-feed-2-clause-cause : goal.returns-in_err-feed-2-clause-cause
returns-in_err-feed-2-clause-cause g c =
    let words = c.args.words.now in
    let wanted = wanted_by words in
    let zoneinfo = c.args.zoneinfo.now in
    let folder = lent g.D.Folder.seen c.args.folder.now c.read_rows.new.folder in
    let seen = g.S.Store.seen in
    let store = lent seen c.args.store.now c.zone_text.new.store in
    let report = g.E.Sink.seen in
    let old = c.args.report.now in
    let new = c.convert_rows.new.report in
    let failure = c.in_err-feed-2.field-0.0 in
    let feed = c.in_ok-feed.feed in
    let settings : Settings = record { code = words.code; zone = c.in_ok-zone.zone; change = words.change; station_change = words.station_change; as_open = words.options.as_open } in
    let zone = subst (λ (stored : Stored). IsZoneFor (text_in words.options.zone) zoneinfo stored feed (string_bytes c.in_ok-zone.zone)) (c.in_ok-feed.ensures.store.kept ∙ c.read_others.ensures.kept) c.in_ok-zone.ensures.zone in
    let asked : AreSettings wanted zoneinfo (seen c.args.store.now).contents feed settings = record { code = refl; zone = zone; change = refl; station_change = refl; as_open = refl } in
    let fails = subst (λ (r : _). ConversionFailsAs feed settings (lent report r new) failure)
    (c.in_ok-zone.ensures.quiet ∙ (c.in_ok-feed.ensures.quiet ∙ c.in_ok-others.ensures.quiet)) c.in_err-feed-2.ensures.cause in
    passed_on c.from_residual-in_err-feed-2.result failure (FailsAs wanted zoneinfo folder store (lent report old new)) c.from_residual-in_err-feed-2.ensures.1
    (of_conversion wanted zoneinfo folder store report old new feed settings failure c.in_ok-feed.ensures.feed asked fails)

pub returns-clause-converted : goal.returns-clause-converted
returns-clause-converted g c =
    let words = c.args.words.now in
    let zoneinfo = c.args.zoneinfo.now in
    let seen = g.S.Store.seen in
    let feed = c.in_ok-feed.feed in
    let settings : Settings = record { code = words.code; zone = c.in_ok-zone.zone; change = words.change; station_change = words.station_change; as_open = words.options.as_open } in
    let zone = subst (λ (stored : Stored). IsZoneFor (text_in words.options.zone) zoneinfo stored feed (string_bytes c.in_ok-zone.zone)) (c.in_ok-feed.ensures.store.kept ∙ c.read_others.ensures.kept) c.in_ok-zone.ensures.zone in
    record {
      feed = feed;
      settings = settings;
      of_folder = c.in_ok-feed.ensures.feed;
      as_asked = record { code = refl; zone = zone; change = refl; station_change = refl; as_open = refl };
      is = c.in_ok-feed-2.ensures.converted;
    }
