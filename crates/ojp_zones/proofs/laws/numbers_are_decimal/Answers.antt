use Rattle.ojp_zones.proofs.NumberFacts as numbers
use Rattle.ojp_zones.proofs.laws.numbers_are_decimal.Goals as goal

pub returns : goal.returns
returns c = numbers.numbers_are_decimal
