use Rattle.std.proofs.Common.{◌∙◌, ap, sym}
use Rattle.ojp_gtfs_cli.specs.Meanings.{chosen_by, chosen_in}
use Rattle.ojp_gtfs_cli.specs.Words.{texts_of}
use Rattle.ojp_gtfs_cli.proofs.WordFacts.{says_flag}
use Rattle.ojp_gtfs_cli.proofs.words.with_first.Goals as goal

pub returns-in-Some-clause-taken : goal.returns-in-Some-clause-taken
returns-in-Some-clause-taken c =
    says_flag (chosen_by c.args.options) (chosen_by c.in-Some.more) c.args.option.now (texts_of c.args.behind.now) (sym c.with_flag.ensures ∙ ap chosen_in c.in-Some.is)

pub with_first_value-requires : goal.with_first_value-requires
with_first_value-requires c = sym c.with_flag.ensures ∙ ap chosen_in c.in-None.is
