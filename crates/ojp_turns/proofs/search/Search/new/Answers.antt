use Rattle.std.proofs.Common.{refl}
use Rattle.ojp_turns.proofs.SearchFacts.{new_search}
use Rattle.ojp_turns.proofs.search.Search.new.Goals as goal

pub returns-clause-new : goal.returns-clause-new
returns-clause-new c =
    new_search c.args.book.now c.args.ask.now _ c.slots.result c.in-Ok.ensures.of c.in-Ok.ensures.ask c.in-Ok.ensures.told c.requires c.new-2.ensures.items (c.slots.ensures.count c.args.book.now c.in-Ok.ensures.of) c.in-Ok-none.ensures refl
