use Rattle.ojp_records.proofs.OneRegionFacts.{premises_are_met}
use Rattle.ojp_records.proofs.examples.premises_are_met.Goals as goal

pub returns : goal.returns
returns c = premises_are_met
