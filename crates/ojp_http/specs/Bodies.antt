-- Bodies, part by part: each word says how the next part reads, and K what is read behind it.
use Rattle.std.specs.Prelude.{◌≡◌, ◌≢◌, ◌==◌, not, Bool, IsTrue, ℕ, ◌<◌, ◌≤◌, zero, suc, ◌-◌, List, [], ◌∷◌, ◌++◌, length, Option, Some, None}
use Rattle.std.specs.List.{list_all}
use Rattle.httparse.specs.Grammar.{LineEnd, Field, ReadsSection, ChunkLine, ReadsChunkLine, print_chunk_line, chunk_size, ResponseHead, ReadsResponse, RequestHead, ReadsRequest}
use Rattle.ojp_http.specs.declared.refusal.Refusal.TheVariants as refusals
use Rattle.ojp_http.specs.declared.refusal.Frame.{Frame}
use Rattle.ojp_http.specs.declared.refusal.Frame.TheVariants.{Counted, Chunked, Refused}
use Rattle.ojp_http.specs.Verdicts.{Verdict, whole, refused, cut, after}
use Rattle.ojp_http.specs.Heads.{Begins}
use Rattle.ojp_http.specs.Fields.{ask_frame, reply_frame}

-- the message ends here
abbrev pub EndsHere : List ℕ → Verdict → Type 0
EndsHere bytes v = v ≡ whole [] bytes

-- n bytes of the body
pub data Takes (n : ℕ) (K : List ℕ → Verdict → Type 0) (bytes : List ℕ) (v : Verdict) : Type 0 where
  taken : (front rest : List ℕ) (w : Verdict) → bytes ≡ front ++ rest → length front ≡ n → K rest w → v ≡ after front w → Takes n K bytes v
  short : length bytes < n → v ≡ cut bytes → Takes n K bytes v

-- the line end behind a chunk
pub data EndsChunk (K : List ℕ → Verdict → Type 0) (bytes : List ℕ) (v : Verdict) : Type 0 where
  ended : (rest : List ℕ) → bytes ≡ 13 ∷ 10 ∷ rest → K rest v → EndsChunk K bytes v
  begun : (more : List ℕ) → bytes ++ more ≡ 13 ∷ 10 ∷ [] → 0 < length more → v ≡ cut [] → EndsChunk K bytes v
  other : ((more rest : List ℕ) → bytes ++ more ≢ 13 ∷ 10 ∷ rest) → v ≡ refused refusals.Chunk → EndsChunk K bytes v

-- no line feed among the bytes
abbrev pub has_no_feed : List ℕ → Bool
has_no_feed bytes = list_all (λ b. not (b == 10)) bytes

-- a chunk line of at most 256 bytes, with its size
pub data ReadsLine (K : ℕ → List ℕ → Verdict → Type 0) (bytes : List ℕ) (v : Verdict) : Type 0 where
  line : (l : ChunkLine) (rest : List ℕ) → ReadsChunkLine bytes l rest → length (print_chunk_line l) ≤ 256 → K (chunk_size l) rest v → ReadsLine K bytes v
  wrong : (front rest : List ℕ) → bytes ≡ front ++ 10 ∷ rest → IsTrue (has_no_feed front) → length front < 256
      → ((l : ChunkLine) → ¬ (ReadsChunkLine (front ++ 10 ∷ []) l [])) → v ≡ refused refusals.Chunk → ReadsLine K bytes v
  long : (front rest : List ℕ) → bytes ≡ front ++ rest → IsTrue (has_no_feed front) → length front ≡ 256 → v ≡ refused refusals.Chunk → ReadsLine K bytes v
  unended : IsTrue (has_no_feed bytes) → length bytes < 256 → v ≡ cut [] → ReadsLine K bytes v

-- a trailer within its limits, and the end
abbrev pub ReadsTrailer : List ℕ → List Field × LineEnd → List ℕ → Type 0
ReadsTrailer bytes t rest = ReadsSection bytes t.0 t.1 rest

abbrev pub Trailer : List ℕ → Verdict → Type 0
Trailer bytes v = Begins ReadsTrailer (λ t. t.0) 65 refusals.Chunk refusals.Chunk (λ t. EndsHere) bytes v

-- the chunks to come may not sum up to this
abbrev pub IsAbove : Option ℕ → ℕ → Type 0
IsAbove None size = ⊥
IsAbove (Some room) size = room < size

-- the room that such a chunk leaves
abbrev pub room_after : Option ℕ → ℕ → Option ℕ
room_after None size = None
room_after (Some room) size = Some (room - size)

-- what a line's size asks for, where the chunks may sum up to this room
pub data Sized (K : Option ℕ → List ℕ → Verdict → Type 0) (room : Option ℕ) (size : ℕ) (bytes : List ℕ) (v : Verdict) : Type 0 where
  last : size ≡ 0 → Trailer bytes v → Sized K room size bytes v
  chunk : 0 < size → ¬ (IsAbove room size) → Takes size (EndsChunk (K (room_after room size))) bytes v → Sized K room size bytes v
  over : IsAbove room size → v ≡ refused refusals.TooLong → Sized K room size bytes v

-- chunks of at most n lines
abbrev pub ReadsLines : ℕ → Option ℕ → List ℕ → Verdict → Type 0
ReadsLines zero room bytes v = ⊥
ReadsLines (suc n) room bytes v = ReadsLine (Sized (ReadsLines n) room) bytes v

-- chunks that sum up to no more than the room, and the trailer
pub record Chunks (room : Option ℕ) (bytes : List ℕ) (v : Verdict) : Type 0 where
  pub lines : ℕ
  pub reads : ReadsLines lines room bytes v

-- a body in its frame
abbrev pub Frames : Option ℕ → Frame → List ℕ → Verdict → Type 0
Frames room (Counted n) bytes v = Takes n EndsHere bytes v
Frames room Chunked bytes v = Chunks room bytes v
Frames room (Refused e) bytes v = v ≡ refused e

-- a request
abbrev pub Asks : List ℕ → Verdict → Type 0
Asks bytes v = Begins ReadsRequest (λ (h : RequestHead). h.fields) 66 refusals.Head refusals.TooLargeHead (λ h. Frames (Some 1048576) (ask_frame h)) bytes v

-- a reply
abbrev pub Replies : List ℕ → Verdict → Type 0
Replies bytes v = Begins ReadsResponse (λ (h : ResponseHead). h.fields) 66 refusals.Head refusals.TooLargeHead (λ h. Frames None (reply_frame h)) bytes v
