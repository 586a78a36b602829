use Rattle.std.proofs.Common.{◌<◌, ℕ}
use Rattle.ojp_exchange.specs.Places.{IsCodeAt}
use Rattle.ojp_exchange.proofs.places.number_of.Given as goal

abbrev pub invariant-codes : goal.invariant-codes
invariant-codes l = (k : ℕ) → k < l.number → IsCodeAt l.codes k l.code → ⊥
