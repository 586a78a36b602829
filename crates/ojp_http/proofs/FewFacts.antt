-- Heads with few lines.
use Rattle.std.proofs.Common.{◌≡◌, ℕ, suc, ◌+◌, ◌≤◌, Bool, true, false, List, [], ◌∷◌, ◌++◌, length, refl, ap, arith, inl, inr, length-append, if◌then◌else◌}
use Rattle.std.specs.Prelude.{◌==◌}
use Rattle.ojp_http.specs.Heads.{lines_after, without_front, is_empty_line}
use Rattle.ojp_http.specs.Few.{feeds_in, FewAreWithin}

lines_length : (begun bytes : List ℕ) → length (lines_after begun bytes) ≡ feeds_in bytes
lines_length begun [] = refl
lines_length begun (b ∷ bytes) = by (b == 10) (lines_length [] bytes) (lines_length (begun ++ b ∷ []) bytes)
  where
    by : (q : Bool) → length (lines_after [] bytes) ≡ feeds_in bytes → length (lines_after (begun ++ b ∷ []) bytes) ≡ feeds_in bytes → length (if q then begun ∷ lines_after [] bytes else lines_after (begun ++ b ∷ []) bytes) ≡ (if q then suc (feeds_in bytes) else feeds_in bytes)
    by true x y = ap suc x
    by false x y = y

without_front-le : (lines : List (List ℕ)) → length (without_front lines) ≤ length lines
without_front-le [] = omega arith
without_front-le (line ∷ lines) = by (is_empty_line line) (without_front-le lines)
  where
    by : (q : Bool) → length (without_front lines) ≤ length lines → length (if q then without_front lines else line ∷ lines) ≤ suc (length lines)
    by true x = omega (arith, x)
    by false x = omega arith

pub feeds_in-append : (a b : List ℕ) → feeds_in (a ++ b) ≡ feeds_in a + feeds_in b
feeds_in-append [] b = omega arith
feeds_in-append (x ∷ a) b = by (x == 10) (feeds_in-append a b)
  where
    by : (q : Bool) → feeds_in (a ++ b) ≡ feeds_in a + feeds_in b → (if q then suc (feeds_in (a ++ b)) else feeds_in (a ++ b)) ≡ (if q then suc (feeds_in a) else feeds_in a) + feeds_in b
    by true y = omega (arith, y)
    by false y = y

pub few_are_within : FewAreWithin
few_are_within most text short few front more is pos (inl long) = omega (arith, long, short, ap length is, length-append front more, pos)
few_are_within most text short few front more is pos (inr lined) =
    omega (arith, lined.0, without_front-le (lines_after [] front), lines_length [] front, ap feeds_in is, feeds_in-append front more, few)
