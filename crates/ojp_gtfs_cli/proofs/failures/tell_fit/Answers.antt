use Rattle.std.proofs.Common.{ℕ, [], ◌∷◌, ◌++◌, Option, subst, sym}
use Rattle.std.specs.Prelude.{codes}
use Rattle.std.specs.Io.KnownBytes.{Appends}
use Rattle.ojp_values.specs.Texts.{Text}
use Rattle.ojp_gtfs_cli.specs.Lines.{fit_line}
use Rattle.ojp_gtfs_cli.proofs.failures.tell_fit.Goals as goal

pub returns-in-Some-clause-told : goal.returns-in-Some-clause-told
returns-in-Some-clause-told g c rests =
    let old = (g.E.Sink.seen c.args.report.now).written in
    let new = (g.E.Sink.seen c.put.new.report).written in
    subst (λ (fits : Option ℕ). Appends old new (fit_line fits)) (sym c.in-Some.is)
    (subst (λ (day : Text). Appends old new (codes "it fits with --to " ++ (day ++ 10 ∷ []))) c.day_text.ensures (c.put.ensures.told rests))
