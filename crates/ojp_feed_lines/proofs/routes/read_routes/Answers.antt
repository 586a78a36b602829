use Rattle.std.proofs.Common.{rules}
use Rattle.ojp_feed_lines.specs.declared.files.FeedFile.TheVariants.{Routes}
use Rattle.ojp_feed_lines.proofs.Explained.{passed_is}
use Rattle.ojp_feed_lines.proofs.StandFacts.{routes_of}
use Rattle.ojp_feed_lines.proofs.routes.read_routes.Goals as goal

pub returns-clause-told : goal.returns-clause-told
returns-clause-told g c =
    routes_of (g.D.Folder.seen c.args.folder.now).contents Routes c.take_needed.new.rows.routes.items c.take_needed.new.rows.ids (c.in_ok-take_needed.ensures.taken (λ columns. search rules))

pub returns-in_err-take_needed-clause-refused : goal.returns-in_err-take_needed-clause-refused
returns-in_err-take_needed-clause-refused g c =
    rw (passed_is c.from_residual.result c.in_err-take_needed.field-0.0 c.from_residual.ensures.1)
    (c.in_err-take_needed.ensures.refused (λ columns. search rules))
