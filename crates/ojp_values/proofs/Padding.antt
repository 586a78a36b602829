-- Texts that are filled up with zeros to the length of their array.
use Rattle.std.proofs.Common.{◌≡◌, ℕ, ◌+◌, ◌-◌, ◌≤◌, List, ◌++◌, length, replicate, arith, ap, ◌∙◌, length-append}
use Rattle.std.proofs.lemmas.List.{length-replicate}

pub length-padded : (text : List ℕ) (n : ℕ) → length text ≤ n → length (text ++ replicate (n - length text) 0) ≡ n
length-padded text n h =
    length-append text (replicate (n - length text) 0) ∙ ap (λ k. length text + k) (length-replicate (n - length text) 0)
    ∙ omega (arith, h)
