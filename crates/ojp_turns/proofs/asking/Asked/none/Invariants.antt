use Rattle.std.proofs.Common.{◌≡◌, ℕ, length}
use Rattle.ojp_records.specs.declared.queries.Query.{Query}
use Rattle.ojp_turns.specs.Slots.{IsLastAt}
use Rattle.ojp_turns.proofs.asking.Asked.none.Given as goal

abbrev pub invariant-numbers : goal.invariant-numbers
invariant-numbers l = (length l.last.items ≡ l.counter) × ((number : ℕ) (query : Query) → IsLastAt l.last.items number query → ⊥)
