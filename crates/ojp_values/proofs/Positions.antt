-- The place of the first element that passes a test.
use Rattle.std.proofs.Common.{◌≡◌, ℕ, ◌<◌, ◌≤◌, Bool, true, false, not, cond, nat_lt, List, length, get_or, Some, None, unwrap_or, arith, refl, sym}
use Rattle.std.specs.List.{position, position_or_len}
use Rattle.std.proofs.lemmas.Bool.{ltb-false, not-true}
use Rattle.std.proofs.lemmas.Bool.Decides.{nat_tests}
use Rattle.std.proofs.lemmas.List.Sums.{prefix_len-le-length, prefix_len_passes}

unwrap_or-cond : (b : Bool) (m n : ℕ) → b ≡ nat_lt m n → m ≤ n → unwrap_or (cond b (Some m) None) n ≡ m
unwrap_or-cond true m n e h = refl
unwrap_or-cond false m n e h = omega (arith, ltb-false m n (sym e), h)

pub position_or_len-le-length : {X : Type 0} (p : X → Bool) (xs : List X) → position_or_len p xs ≤ length xs
position_or_len-le-length p xs = prefix_len-le-length _ xs

pub unwrap_or-position : {X : Type 0} (p : X → Bool) (xs : List X) → unwrap_or (position p xs) (length xs) ≡ position_or_len p xs
unwrap_or-position p xs = unwrap_or-cond _ (position_or_len p xs) (length xs) refl (position_or_len-le-length p xs)

no_stop : (n m : ℕ) → cond (nat_lt n m) (Some n) None ≡ None → m ≤ n
no_stop n m h = grind (arith, nat_tests)

-- no element passes a test that stops nowhere
pub none_passes : {X : Type 0} (p : X → Bool) (xs : List X) → position p xs ≡ None → (k : ℕ) (d : X) → k < length xs → p (get_or xs k d) ≡ false
none_passes p xs h k d lt =
    let n : length xs ≤ position_or_len p xs = no_stop _ _ h in
    not-true _ (prefix_len_passes (λ x. not (p x)) xs k d (omega (arith, n, lt)))
