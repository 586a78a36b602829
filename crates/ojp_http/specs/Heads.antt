-- A head within its limits, over whole byte lists; the same for requests, replies and trailers.
use Rattle.std.specs.Prelude.{◌≡◌, ℕ, ◌<◌, ◌≤◌, ◌⊎◌, Bool, true, false, not, List, [], ◌∷◌, ◌++◌, length, if◌then◌else◌, ◌==◌, IsTrue}
use Rattle.std.specs.List.{list_all}
use Rattle.httparse.specs.Grammar.{Field}
use Rattle.ojp_http.specs.declared.refusal.Refusal.{Refusal}
use Rattle.ojp_http.specs.Verdicts.{Verdict, refused, cut}

-- the complete lines, each without its line feed, where some bytes of the first line have come
abbrev pub lines_after : List ℕ → List ℕ → List (List ℕ)
lines_after begun [] = []
lines_after begun (b ∷ bytes) = if b == 10 then begun ∷ lines_after [] bytes else lines_after (begun ++ b ∷ []) bytes

-- nothing, or a carriage return alone
abbrev pub is_empty_line : List ℕ → Bool
is_empty_line [] = true
is_empty_line (b ∷ []) = b == 13
is_empty_line (b ∷ c ∷ rest) = false

-- the lines from the first that is not empty
abbrev pub without_front : List (List ℕ) → List (List ℕ)
without_front [] = []
without_front (line ∷ lines) = if is_empty_line line then without_front lines else line ∷ lines

-- the lines of the bytes, without the empty ones at the front
abbrev pub counted_lines : List ℕ → List (List ℕ)
counted_lines bytes = without_front (lines_after [] bytes)

-- 16,384 bytes, or so many counted lines of which none is empty
abbrev pub IsFullAt : ℕ → List ℕ → Type 0
IsFullAt most bytes =
    (16384 ≤ length bytes)
    ⊎ ((most ≤ length (counted_lines bytes)) × IsTrue (list_all (λ l. not (is_empty_line l)) (counted_lines bytes)))

-- no proper prefix is full
abbrev pub IsWithin : ℕ → List ℕ → Type 0
IsWithin most bytes = (front more : List ℕ) → bytes ≡ front ++ more → 0 < length more → ¬ (IsFullAt most front)

-- some prefix is full
pub record IsFull (most : ℕ) (bytes : List ℕ) : Type 0 where
  pub front : List ℕ
  pub rest : List ℕ
  pub is : bytes ≡ front ++ rest
  pub full : IsFullAt most front

module _ {H : Type 0} (Reads : List ℕ → H → List ℕ → Type 0) (fields : H → List Field) (most : ℕ) where
  -- the bytes begin with the head h, which has at most 64 fields and does not end past the full prefix
  pub record HasHead (bytes : List ℕ) (h : H) (rest : List ℕ) : Type 0 where
    pub front : List ℕ
    pub is : bytes ≡ front ++ rest
    pub reads : Reads front h []
    pub few : length (fields h) ≤ 64
    pub within : IsWithin most front

  abbrev pub HasNoHead : List ℕ → Type 0
  HasNoHead bytes = (h : H) (rest : List ℕ) → ¬ (HasHead bytes h rest)

  -- some prefix, not past the full one, has no continuation that is a head
  pub record IsMalformed (bytes : List ℕ) : Type 0 where
    pub front : List ℕ
    pub rest : List ℕ
    pub is : bytes ≡ front ++ rest
    pub within : IsWithin most front
    pub never : (more : List ℕ) (h : H) → ¬ (Reads (front ++ more) h [])

  -- a head, and then what K says; where malformed bytes are full, or end, two verdicts hold
  pub data Begins (bad large : Refusal) (K : H → List ℕ → Verdict → Type 0) (bytes : List ℕ) (v : Verdict) : Type 0 where
    found : (h : H) (rest : List ℕ) → HasHead bytes h rest → K h rest v → Begins bad large K bytes v
    malformed : HasNoHead bytes → IsMalformed bytes → v ≡ refused bad → Begins bad large K bytes v
    full : HasNoHead bytes → IsFull most bytes → v ≡ refused large → Begins bad large K bytes v
    begun : HasNoHead bytes → ¬ (IsFull most bytes) → v ≡ cut [] → Begins bad large K bytes v
