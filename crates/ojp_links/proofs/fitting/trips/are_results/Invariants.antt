use Rattle.std.proofs.Common.{drop}
use Rattle.ojp_links.specs.Fits.{FitsResult}
use Rattle.ojp_links.proofs.ResultFacts.{PairsFrom}
use Rattle.ojp_links.proofs.fitting.trips.are_results.Given as goal

abbrev pub invariant-results : goal.invariant-results
invariant-results l =
    PairsFrom (FitsResult l.region l.origin l.start) l.targets l.results (drop l.i l.targets) (drop l.i l.results)
