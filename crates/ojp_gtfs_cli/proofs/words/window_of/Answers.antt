use Rattle.std.proofs.Common.{arith}
use Rattle.ojp_gtfs_cli.specs.Meanings.{text_in}
use Rattle.ojp_gtfs_cli.proofs.WordFacts.{no_window}
use Rattle.ojp_gtfs_cli.proofs.words.window_of.Goals as goal

pub returns-else-first-last : goal.returns-else-first-last
returns-else-first-last c =
    no_window (text_in c.args.from) (text_in c.args.to) c.in-Some.first c.in-Some-day_of.last c.in-Some.ensures c.in-Some-day_of.ensures (omega (arith, c.if-first-last.false))
