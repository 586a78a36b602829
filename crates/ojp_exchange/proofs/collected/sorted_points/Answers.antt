use Rattle.std.proofs.Common.{rules}
use Rattle.std.proofs.lemmas.List.Sorted.{answers_always}
use Rattle.ojp_exchange.specs.Kept.{entry_lt, entry_same}
use Rattle.ojp_exchange.proofs.RisingFacts.{entry_order}
use Rattle.ojp_exchange.proofs.SortFacts.{weak}
use Rattle.ojp_exchange.proofs.collected.sorted_points.Goals as goal

pub returns-clause-sorted : goal.returns-clause-sorted
returns-clause-sorted c = c.sort_unstable_by.ensures.sorted entry_lt (weak entry_lt entry_same entry_order) (answers_always _ _ _ (λ f a r g h. search rules))
