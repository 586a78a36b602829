use Rattle.std.proofs.Common.{drop}
use Rattle.ojp_links.proofs.LegFacts.{LeadsFrom}
use Rattle.ojp_links.proofs.fitting.trips.leads_on.Given as goal

abbrev pub invariant-legs : goal.invariant-legs
invariant-legs l = LeadsFrom l.region l.initial.last l.legs l.last (drop l.leg-index l.legs)
