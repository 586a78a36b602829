use Rattle.std.proofs.Common.{◌∙◌}
use Rattle.std.proofs.lemmas.Bool.{iff_false}
use Rattle.ojp_gtfs_cli.proofs.WordFacts.{no_change}
use Rattle.ojp_gtfs_cli.proofs.words.read_change.Goals as goal

pub returns-else-is_change : goal.returns-else-is_change
returns-else-is_change c =
    λ seconds is spelled.
    no_change c.args.word.now c.in-Some.seconds seconds c.in-Some.ensures.0 (c.in-Some.ensures.1 ∙ c.as_bytes.ensures.value) (iff_false c.is_change.ensures c.if-is_change.false) is spelled
