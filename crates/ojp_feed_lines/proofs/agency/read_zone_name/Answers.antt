use Rattle.std.proofs.Common.{refl}
use Rattle.ojp_feed_lines.specs.declared.files.FeedFile.TheVariants.{Agency}
use Rattle.ojp_feed_lines.proofs.Explained.{no_zone, passed_is}
use Rattle.ojp_feed_lines.proofs.StandFacts.{zone_of}
use Rattle.ojp_feed_lines.proofs.agency.read_zone_name.Goals as goal

pub returns-in-Some-clause-told : goal.returns-in-Some-clause-told
returns-in-Some-clause-told g c =
    rw c.in-Some.is
    (zone_of (g.D.Folder.seen c.args.folder.now).contents Agency c.in-Some.name (rw c.in-Some.is at c.in_ok-take_needed.ensures.taken (λ column. refl)))

pub returns-in_err-take_needed-clause-refused : goal.returns-in_err-take_needed-clause-refused
returns-in_err-take_needed-clause-refused g c =
    rw (passed_is c.from_residual.result c.in_err-take_needed.field-0.0 c.from_residual.ensures.1) (c.in_err-take_needed.ensures.refused (λ column. refl))

pub returns-in-None-clause-refused : goal.returns-in-None-clause-refused
returns-in-None-clause-refused g c =
    no_zone (g.D.Folder.seen c.args.folder.now).contents c.no_row.result c.no_row.ensures (rw c.in-None.is at c.in_ok-take_needed.ensures.taken (λ column. refl))
