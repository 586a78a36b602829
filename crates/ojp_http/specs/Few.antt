-- Heads with few lines.
use Rattle.std.specs.Prelude.{ℕ, suc, ◌≤◌, ◌<◌, List, [], ◌∷◌, length, if◌then◌else◌, ◌==◌}
use Rattle.ojp_http.specs.Heads.{IsWithin}

-- how many line feeds the bytes have
abbrev pub feeds_in : List ℕ → ℕ
feeds_in [] = 0
feeds_in (b ∷ bytes) = if b == 10 then suc (feeds_in bytes) else feeds_in bytes

-- bytes with few line feeds are within their limits
abbrev pub FewAreWithin : Type 0
FewAreWithin = (most : ℕ) (text : List ℕ) → length text ≤ 16384 → feeds_in text < most → IsWithin most text
