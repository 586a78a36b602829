use Rattle.ojp_records.proofs.PairFacts.{books_are_in_order}
use Rattle.ojp_records.proofs.laws.books_are_in_order.Goals as goal

pub returns : goal.returns
returns c = books_are_in_order
