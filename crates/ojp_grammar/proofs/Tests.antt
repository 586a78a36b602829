-- Tests that are true or false.
use Rattle.std.proofs.Common.{◌≡◌, refl, ℕ, zero, suc, Bool, true, false, ◌⊎◌, inl, inr, ◌<◌, arith}
use Rattle.std.proofs.lemmas.Bool.{eq-eqb, eqb-true}
pub use Rattle.std.proofs.lemmas.Bool.{or_cases, or_left, or_right}
use Rattle.std.specs.Prelude.{◌&&◌, ◌==◌, not}

pub either_way : (b : Bool) → (b ≡ true) ⊎ (b ≡ false)
either_way true = inl refl
either_way false = inr refl

pub false_of : (b : Bool) → (b ≡ true → ⊥) → b ≡ false
false_of true h = absurd (h refl)
false_of false h = refl

pub and_both : (a b : Bool) → a ≡ true → b ≡ true → (a && b) ≡ true
and_both true b h i = i
and_both false b h i = cc

pub and_left : (a b : Bool) → (a && b) ≡ true → a ≡ true
and_left true b h = refl
and_left false b h = cc

pub and_right : (a b : Bool) → (a && b) ≡ true → b ≡ true
and_right true b h = h
and_right false b h = cc

pub not_zero : (n : ℕ) → 0 < n → not (n == 0) ≡ true
not_zero n h =
    let other : (n == 0) ≡ false = false_of (n == 0) (λ g. let e : n ≡ 0 = eqb-true n 0 g in omega arith) in
    rw other refl

pub zero_is : (n : ℕ) → n ≡ 0 → (n == 0) ≡ true
zero_is n h = eq-eqb n 0 h

pub is_zero : (n : ℕ) → (n == 0) ≡ true → n ≡ 0
is_zero n h = eqb-true n 0 h

pub is_above : (n : ℕ) → not (n == 0) ≡ true → 0 < n
is_above zero h = cc
is_above (suc n) h = omega arith
