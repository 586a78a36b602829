use Rattle.std.proofs.Common.{◌<◌, ◌≤◌, ℕ, subst}
use Rattle.ojp_values.specs.Lists.{Pairwise}
use Rattle.ojp_links.specs.Fits.{FitsResult}
use Rattle.ojp_links.proofs.RisingFacts.{none_left, refused, rest_at, taken, told_no, told_yes}
use Rattle.ojp_links.proofs.ResultFacts.{pairs_are_as_many, pairs_fail, pairs_first, pairs_next, pairs_whole}
use Rattle.ojp_links.proofs.fitting.trips.are_results.Goals as goal

pub returns-then-targets-results : goal.returns-then-targets-results
returns-then-targets-results c =
    let R = FitsResult c.args.region.now c.args.origin.now c.args.start in
    told_no (Pairwise R c.args.targets.now c.args.results.now) (λ all. c.if-targets-results.true (pairs_are_as_many R c.args.targets.now c.args.results.now all))

pub results-init : goal.results-init
results-init c = pairs_first (FitsResult c.args.region.now c.args.origin.now c.args.start) c.args.targets.now c.args.results.now

pub results-preserved : goal.results-preserved
results-preserved c =
    let R = FitsResult c.args.region.now c.args.origin.now c.args.start in
    let i = c.results.i in
    let target = rest_at c.args.targets.now i c.index-targets-i.result c.results-test.true c.index-targets-i.is in
    let within = subst (λ (n : ℕ). i < n) c.if-targets-results.false c.results-test.true in
    let outcome = rest_at c.args.results.now i c.index-results-i.result within c.index-results-i.is in
    pairs_next R c.args.targets.now c.args.results.now c.index-targets-i.result c.index-results-i.result _ _ _ _ target outcome
    (taken c.is_result.result (R c.index-targets-i.result c.index-results-i.result) c.is_result.ensures c.if-not-is_result.false)
    c.results.invariant

pub returns-then-not-is_result : goal.returns-then-not-is_result
returns-then-not-is_result c =
    let R = FitsResult c.args.region.now c.args.origin.now c.args.start in
    let i = c.results.i in
    let target = rest_at c.args.targets.now i c.index-targets-i.result c.results-test.true c.index-targets-i.is in
    let within = subst (λ (n : ℕ). i < n) c.if-targets-results.false c.results-test.true in
    let outcome = rest_at c.args.results.now i c.index-results-i.result within c.index-results-i.is in
    told_no (Pairwise R c.args.targets.now c.args.results.now) (λ all.
    pairs_fail R c.args.targets.now c.args.results.now c.index-targets-i.result c.index-results-i.result _ _ _ _ target outcome
    (refused c.is_result.result (R c.index-targets-i.result c.index-results-i.result) c.is_result.ensures c.if-not-is_result.true)
    c.results.invariant
    all)

pub returns : goal.returns
returns c =
    let R = FitsResult c.args.region.now c.args.origin.now c.args.start in
    let done = subst (λ (n : ℕ). n ≤ c.results.i) c.if-targets-results.false c.results-test.false in
    told_yes (Pairwise R c.args.targets.now c.args.results.now)
    (pairs_whole R c.args.targets.now c.args.results.now _ _ (none_left c.args.targets.now c.results.i c.results-test.false) (none_left c.args.results.now c.results.i done) c.results.invariant)
