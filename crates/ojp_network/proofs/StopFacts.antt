-- The stops of a region, by their numbers.
use Rattle.std.proofs.Common.{◌≡◌, ◌≢◌, ℕ, ◌+◌, ◌<◌, ◌≤◌, arith}
use Rattle.std.proofs.lemmas.Bool.Decides.{nat_tests}
use Rattle.ojp_network.specs.Regions.{higher_point, lower_point, own_stop, shared_stop, stop_at}

pub own_at : (region k : ℕ) → k < 30 → stop_at region k ≡ own_stop region (k + 1)
unfolding stop_at
own_at region k h = grind (arith, nat_tests)

pub lower_at : (region k : ℕ) → k ≡ 30 → stop_at region k ≡ shared_stop (lower_point region)
unfolding stop_at
lower_at region k h = grind (arith, nat_tests)

pub higher_at : (region k : ℕ) → 30 ≤ k → k ≢ 30 → stop_at region k ≡ shared_stop (higher_point region)
unfolding stop_at
higher_at region k h g = grind (arith, nat_tests)
