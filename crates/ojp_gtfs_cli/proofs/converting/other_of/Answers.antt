use Rattle.std.proofs.Common.{◌∙◌, sym}
use Rattle.std.specs.Prelude.{codes}
use Rattle.std.proofs.lemmas.Slice.Eq.{bytes_eq-Decides}
use Rattle.ojp_gtfs_cli.proofs.WordFacts.{stands_first}
use Rattle.ojp_gtfs_cli.proofs.converting.other_of.Goals as goal

pub returns-in-Some : goal.returns-in-Some
returns-in-Some c =
    stands_first c.args.option.now c.as_str.result.now c.args.behind.now c.in-Some.file.now ((bytes_eq-Decides c.args.option.now (codes "--against")).0 (sym c.eq.ensures ∙ c.if-eq.true)) c.in-Some.ensures.value
    c.as_str.ensures.value
