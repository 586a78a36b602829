use Rattle.std.proofs.Common.{◌≡◌, true, false}
use Rattle.ojp_feed_lines.proofs.DateFacts.{date_there, dated_decides, dated_eq}
use Rattle.ojp_feed_lines.proofs.services.keep_date.Goals as goal

pub returns-in-Ok-clause-there : goal.returns-in-Ok-clause-there
returns-in-Ok-clause-there c =
    λ is.
    let old : c.in-Ok.is_new ≡ false = cc in
    date_there dated_eq dated_decides c.args.dates.now.keys c.args.dated c.in-Ok.is_new old c.in-Ok.ensures.added
