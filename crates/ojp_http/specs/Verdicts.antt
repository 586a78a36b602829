-- What some bytes are, read as a message.
use Rattle.std.specs.Prelude.{ℕ, List, ◌++◌}
use Rattle.ojp_http.specs.declared.refusal.Refusal.{Refusal}

-- a whole message, by its body and what follows it; refused; or not all there, by the body so far
pub data Verdict : Type 0 where
  whole : List ℕ → List ℕ → Verdict
  refused : Refusal → Verdict
  cut : List ℕ → Verdict

-- the verdict where these bytes of the body stand before
abbrev pub after : List ℕ → Verdict → Verdict
after front (whole body rest) = whole (front ++ body) rest
after front (refused e) = refused e
after front (cut body) = cut (front ++ body)
