-- The twelve regions of the ring.
use Rattle.std.proofs.Common.{◌≡◌, ◌≢◌, inl, inr, ℕ, zero, suc, ◌+◌, ◌<◌, ◌≤◌, true, false, nat_eq, nat_lt, refl, subst, arith}
use Rattle.std.specs.List.{range_with_len}
use Rattle.std.proofs.Math.Nat.{eq-or-lt_of_le}
use Rattle.std.proofs.lemmas.Bool.{eqb-false, ltb-true}
use Rattle.ojp_values.specs.Lists.{Each}
use Rattle.ojp_values.specs.Texts.{text_lt}
use Rattle.ojp_network.specs.Regions.{higher_point, joined_region, lower_point, shared_stop}

-- what holds of each number of a range, of one of them
pub in_range : (P : ℕ → Type 0) (a n : ℕ) → Each P (range_with_len a n) → (k : ℕ) → a ≤ k → k < a + n → P k
in_range P a zero h k low high = absurd (omega (arith, low, high))
in_range P a (suc n) h k low high = elim (eq-or-lt_of_le low) [ inl e ↦ subst P e h.0 | inr l ↦ in_range P (a + 1) n h.1 k (omega (arith, l)) (omega (arith, high)) ]

-- the exchange points of a region rise, and join it to others
pub record IsInRing (region : ℕ) : Type 0 where
  pub rises : text_lt (shared_stop (lower_point region)) (shared_stop (higher_point region)) ≡ true
  pub no_fall : text_lt (shared_stop (higher_point region)) (shared_stop (lower_point region)) ≡ false
  pub less : lower_point region < higher_point region
  pub few : higher_point region < 13
  pub lower_other : joined_region region (lower_point region) ≢ region
  pub higher_other : joined_region region (higher_point region) ≢ region
  pub lower_few : joined_region region (lower_point region) < 13
  pub higher_few : joined_region region (higher_point region) < 13

abbrev Computes : ℕ → Type 0
Computes region =
    (text_lt (shared_stop (lower_point region)) (shared_stop (higher_point region)) ≡ true)
    × (text_lt (shared_stop (higher_point region)) (shared_stop (lower_point region)) ≡ false)
    × (nat_lt (lower_point region) (higher_point region) ≡ true)
    × (nat_lt (higher_point region) 13 ≡ true)
    × (nat_eq (joined_region region (lower_point region)) region ≡ false)
    × (nat_eq (joined_region region (higher_point region)) region ≡ false)
    × (nat_lt (joined_region region (lower_point region)) 13 ≡ true)
    × (nat_lt (joined_region region (higher_point region)) 13 ≡ true)

all_compute : Each Computes (range_with_len 1 12)
unfolding text_lt
all_compute = (
  (refl, refl, refl, refl, refl, refl, refl, refl),
  (
    (refl, refl, refl, refl, refl, refl, refl, refl),
    (
      (refl, refl, refl, refl, refl, refl, refl, refl),
      (
        (refl, refl, refl, refl, refl, refl, refl, refl),
        (
          (refl, refl, refl, refl, refl, refl, refl, refl),
          (
            (refl, refl, refl, refl, refl, refl, refl, refl),
            (
              (refl, refl, refl, refl, refl, refl, refl, refl),
              (
                (refl, refl, refl, refl, refl, refl, refl, refl),
                (
                  (refl, refl, refl, refl, refl, refl, refl, refl),
                  ((refl, refl, refl, refl, refl, refl, refl, refl), ((refl, refl, refl, refl, refl, refl, refl, refl), ((refl, refl, refl, refl, refl, refl, refl, refl), tt))),
                ),
              ),
            ),
          ),
        ),
      ),
    ),
  ),
)

pub in_ring : (region : ℕ) → 1 ≤ region → region ≤ 12 → IsInRing region
in_ring region low high =
    let h = in_range Computes 1 12 all_compute region low (omega (arith, high)) in
    record {
      rises = h.0;
      no_fall = h.1;
      less = ltb-true _ _ h.2;
      few = ltb-true _ _ h.3;
      lower_other = eqb-false _ _ h.4;
      higher_other = eqb-false _ _ h.5;
      lower_few = ltb-true _ _ h.6;
      higher_few = ltb-true _ _ h.7;
    }
