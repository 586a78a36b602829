use Rattle.std.proofs.Common.{◌≡◌, ◌++◌, List, length}
use Rattle.ojp_values.specs.Texts.{Text}
use Rattle.ojp_gtfs_cli.specs.Causes.{StoreGoesOn}
use Rattle.ojp_gtfs_cli.specs.Words.{texts_of}
use Rattle.ojp_gtfs_cli.proofs.converting.read_others.Given as goal

abbrev pub invariant-words : goal.invariant-words
invariant-words g l =
    StoreGoesOn (g.S.Store.seen l.fn.store) (g.S.Store.seen l.store)
    × (l.report ≡ l.fn.report)
    × ((front : List Text) × (texts_of l.fn.words ≡ front ++ texts_of l.rest))

abbrev pub decreases-words : goal.decreases-words
decreases-words g l = length l.rest
