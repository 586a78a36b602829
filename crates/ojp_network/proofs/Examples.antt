-- What is drawn first from 0 and from 1, computed.
use Rattle.std.proofs.Common.{◌≡◌, ℕ, [], ◌∷◌, refl}
use Rattle.std.specs.Prelude.{codes}
use Rattle.ojp_network.specs.Draws.{below, draw, next_state, state_after}
use Rattle.ojp_network.specs.Regions.{higher_point, joined_region, lower_point, own_place}

drawn_of_zero : below (λ (k : ℕ). draw 0 k 2_147_483_648) 4 ≡ 167_951_807 ∷ 218_396_424 ∷ 1_299_921_937 ∷ 861_605_236 ∷ []
unfolding below next_state state_after
drawn_of_zero = refl

drawn_of_one : below (λ (k : ℕ). draw 1 k 2_147_483_648) 4 ≡ 908_834_774 ∷ 1_093_944_153 ∷ 1_392_341_196 ∷ 822_192_870 ∷ []
unfolding below next_state state_after
drawn_of_one = refl

first_stop : own_place 0 1 0 ≡ record { stop = codes "R01:s01"; change = 180; name = codes "Stop 01 & R01" }
unfolding next_state state_after
first_stop = refl

-- region 12 is joined to region 11 and to region 1
ring : lower_point 12 ∷ joined_region 12 11 ∷ higher_point 12 ∷ joined_region 12 12 ∷ [] ≡ 11 ∷ 11 ∷ 12 ∷ 1 ∷ []
ring = refl

ring_begins : lower_point 1 ∷ joined_region 1 1 ∷ higher_point 1 ∷ joined_region 1 12 ∷ [] ≡ 1 ∷ 2 ∷ 12 ∷ 12 ∷ []
ring_begins = refl
