use Rattle.std.proofs.Common.{◌≡◌, ℕ, ◌<◌}
use Rattle.ojp_links.specs.Seen.{code_at}
use Rattle.ojp_turns.proofs.asking.region_number.Given as goal

abbrev pub invariant-regions : goal.invariant-regions
invariant-regions g l = (k : ℕ) → k < l.region → code_at (g.L.Links.seen l.links) k ≡ l.code → ⊥
