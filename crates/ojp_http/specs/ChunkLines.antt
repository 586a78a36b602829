-- Chunk lines that end at their first line feed.
use Rattle.std.specs.Prelude.{◌≡◌, ℕ, List, [], ◌∷◌, ◌++◌, true, Option, Some, None}
use Rattle.httparse.specs.Grammar.{ChunkLine, ReadsChunkLine, chunk_size}
use Rattle.ojp_http.specs.Bodies.{has_no_feed}

-- the bytes are a line with its line feed
pub record EndsLine (bytes : List ℕ) : Type 0 where
  pub kept : List ℕ
  pub is : bytes ≡ kept ++ 10 ∷ []
  pub plain : has_no_feed kept ≡ true

-- the line is a chunk line of this size, or none at all
abbrev pub IsLineSize : List ℕ → Option ℕ → Type 0
IsLineSize bytes (Some size) = (l : ChunkLine) × ReadsChunkLine bytes l [] × (size ≡ chunk_size l)
IsLineSize bytes None = (l : ChunkLine) → ¬ (ReadsChunkLine bytes l [])
