use Rattle.std.proofs.Common.{◌≡◌, ◌+◌, ◌++◌, ◌∷◌, [], List, ap, sym, ◌∙◌, subst, take}
use Rattle.std.proofs.lemmas.List.{take_more}
use Rattle.ojp_values.specs.Lists.{Pairwise}
use Rattle.ojp_values.specs.Texts.{Text}
use Rattle.ojp_values.specs.declared.replies.TripResult.{TripResult}
use Rattle.ojp_timetable.specs.Answers.{TargetAnswered}
use Rattle.ojp_region.proofs.PairFacts.{pairs_with}
use Rattle.ojp_region.proofs.trips.results_of.Goals as goal

pub targets-preserved : goal.targets-preserved
targets-preserved c origin start found =
    let R = TargetAnswered c.args.table.now origin start in
    let all = c.args.targets.now in
    let i = c.targets.target-index in
    let target = c.target-item.result in
    let done : take (i + 1) all ≡ take i all ++ target ∷ [] =
    take_more all i target c.targets-test.true ∙ ap (λ (stop : Text). take i all ++ stop ∷ []) (sym c.target-item.is) in
    let pairs = pairs_with R (take i all) c.targets.found.items target c.in_ok-result.result (c.targets.invariant origin start found) (c.in_ok-result.ensures origin start found) in
    subst (λ (stops : List Text). Pairwise R stops c.push.new.self.items) (sym done)
    (subst (λ (results : List TripResult). Pairwise R (take i all ++ target ∷ []) results) (sym c.in-Ok.ensures.items) pairs)
