use Rattle.std.proofs.Common.{length}
use Rattle.ojp_gtfs_cli.specs.Meanings.{chosen_by}
use Rattle.ojp_gtfs_cli.specs.Words.{SaysAs, no_options, texts_of}
use Rattle.ojp_gtfs_cli.proofs.words.read_options.Given as goal

abbrev pub invariant-options : goal.invariant-options
invariant-options l = SaysAs no_options (texts_of l.fn.words) (chosen_by l.options) (texts_of l.rest)

abbrev pub decreases-options : goal.decreases-options
decreases-options l = length l.rest
