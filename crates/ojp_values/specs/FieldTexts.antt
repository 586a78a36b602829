-- What every text of a field has in common.
use Rattle.std.specs.Prelude.{ℕ, ◌≢◌, ◌≤◌, List, length, All}

-- the text of a field is 1 to 512 bytes, and none of them is `<`
pub record IsFieldText (text : List ℕ) : Type 0 where
  pub some : 1 ≤ length text
  pub short : length text ≤ 512
  pub bare : All (λ b. b ≢ 60) text
