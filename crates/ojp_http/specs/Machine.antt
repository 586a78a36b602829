-- Where the machine stands, by how it reads what is still to come.
use Rattle.std.specs.Prelude.{◌≢◌, ◌≡◌, ◌==◌, if◌then◌else◌, ℕ, ◌+◌, ◌-◌, ◌*◌, ◌<◌, ◌≤◌, Bool, true, false, List, [], ◌∷◌, ◌++◌, length, take, Option, Some, None, Result, Ok, Err}
use Rattle.httparse.specs.Grammar.{RequestHead, ReadsRequest, ResponseHead, ReadsResponse}
use Rattle.ojp_http.specs.declared.machine.Phase.{Phase}
use Rattle.ojp_http.specs.declared.machine.Phase.TheVariants.{Head, ReplyHead, Content, Line, Data, Return, Trailing, Whole}
use Rattle.ojp_http.specs.declared.machine.Framing.{Framing}
use Rattle.ojp_http.specs.declared.machine.Stop.{Stop}
use Rattle.ojp_http.specs.declared.machine.Stop.TheVariants.{Refused, NoMemory}
use Rattle.ojp_http.specs.declared.refusal.Refusal.{Refusal}
use Rattle.ojp_http.specs.declared.refusal.Frame.{Frame}
use Rattle.ojp_http.specs.declared.refusal.Frame.TheVariants.{Counted, Chunked}
use Rattle.ojp_http.specs.declared.refusal.Frame.TheVariants as frames
use Rattle.ojp_http.specs.declared.count.LineCount.{LineCount}
use Rattle.ojp_http.specs.Verdicts.{Verdict, refused, after}
use Rattle.ojp_http.specs.Heads.{HasNoHead, IsFull}
use Rattle.ojp_http.specs.LineCounts.{no_lines, count_from}
use Rattle.ojp_http.specs.Bodies.{EndsHere, Takes, EndsChunk, Chunks, Trailer, ReadsTrailer, Asks, Replies, Sized, has_no_feed, Frames}

-- the phase in a body, or in a chunk, that lacks so many bytes
abbrev pub content_left : ℕ → Phase
content_left left = if left == 0 then Whole else Content left

abbrev pub chunk_left : ℕ → Phase
chunk_left left = if left == 0 then Return false else Data left

-- what a chunk line's size asks for
abbrev pub chunk_start : ℕ → Phase
chunk_start size = if size == 0 then Trailing else Data size

-- how the rest reads from a phase
abbrev pub ReadsAt : Phase → Option ℕ → List ℕ → List ℕ → Verdict → Type 0
ReadsAt Head room kept rest v = Asks (kept ++ rest) v
ReadsAt ReplyHead room kept rest v = Replies (kept ++ rest) v
ReadsAt (Content left) room kept rest v = Takes left EndsHere rest v
ReadsAt Line room kept rest v = Chunks room (kept ++ rest) v
ReadsAt (Data left) room kept rest v = Takes left (EndsChunk (Chunks room)) rest v
ReadsAt (Return false) room kept rest v = EndsChunk (Chunks room) rest v
ReadsAt (Return true) room kept rest v = EndsChunk (Chunks room) (13 ∷ rest) v
ReadsAt Trailing room kept rest v = Trailer (kept ++ rest) v
ReadsAt Whole room kept rest v = EndsHere rest v

abbrev pub Reads : Framing → List ℕ → Verdict → Type 0
Reads f rest v = ReadsAt f.phase f.room f.kept.items rest v

-- the lines of the kept bytes were counted, and the bytes are not full
pub record IsCounted (most : ℕ) (kept : List ℕ) (count : LineCount) : Type 0 where
  pub lines : count ≡ count_from no_lines kept
  pub unfull : ¬ (IsFull most kept)

-- nothing was decided yet
abbrev pub IsOpenAt : Phase → List ℕ → LineCount → Type 0
IsOpenAt Head kept count = HasNoHead ReadsRequest (λ (h : RequestHead). h.fields) 66 kept × IsCounted 66 kept count
IsOpenAt ReplyHead kept count = HasNoHead ReadsResponse (λ (h : ResponseHead). h.fields) 66 kept × IsCounted 66 kept count
IsOpenAt (Content left) kept count = 0 < left
IsOpenAt Line kept count = (length kept < 256) × (has_no_feed kept ≡ true)
IsOpenAt (Data left) kept count = 0 < left
IsOpenAt (Return has_return) kept count = Unit {0}
IsOpenAt Trailing kept count = HasNoHead ReadsTrailer (λ t. t.0) 65 kept × IsCounted 65 kept count
IsOpenAt Whole kept count = Unit {0}

abbrev pub IsOpen : Framing → Type 0
IsOpen f = IsOpenAt f.phase f.kept.items f.count

-- the message is whole
abbrev pub is_whole_at : Phase → Bool
is_whole_at Head = false
is_whole_at ReplyHead = false
is_whole_at (Content left) = false
is_whole_at Line = false
is_whole_at (Data left) = false
is_whole_at (Return has_return) = false
is_whole_at Trailing = false
is_whole_at Whole = true

-- how many bytes fill what is kept of a head or of a trailer
abbrev pub most_kept_at : Phase → ℕ
most_kept_at Head = 16384
most_kept_at ReplyHead = 16384
most_kept_at (Content left) = 0
most_kept_at Line = 0
most_kept_at (Data left) = 0
most_kept_at (Return has_return) = 0
most_kept_at Trailing = 16384
most_kept_at Whole = 0

-- a run in front of the piece that holds no line feed and does not fill what is kept
pub record IsRun (most kept : ℕ) (piece : List ℕ) (n : ℕ) : Type 0 where
  pub within : n ≤ length piece
  pub plain : has_no_feed (take n piece) ≡ true
  pub unfull : 0 < n → kept + n < most

-- so many bytes, where a step by them was made
abbrev pub taken_of : ℕ → Result Unit Stop → Result ℕ Stop
taken_of n (Ok u) = Ok n
taken_of n (Err stop) = Err stop

-- the most bytes that may still be taken, where the chunks to come sum up to at most the room
abbrev pub work_at : Phase → ℕ → ℕ → ℕ
work_at Head room kept = (16384 - kept) + 272646403
work_at ReplyHead room kept = 0
work_at (Content left) room kept = left
work_at Line room kept = room * 260 + ((256 - kept) + 16386)
work_at (Data left) room kept = left + (room * 260 + 16645)
work_at (Return false) room kept = room * 260 + 16644
work_at (Return true) room kept = room * 260 + 16643
work_at Trailing room kept = 16385 - kept
work_at Whole room kept = 0

-- the most bytes of the body that may still come
abbrev pub room_at : Phase → ℕ → ℕ
room_at Head room = 1048576
room_at ReplyHead room = 0
room_at (Content left) room = left
room_at Line room = room
room_at (Data left) room = left + room
room_at (Return has_return) room = room
room_at Trailing room = 0
room_at Whole room = 0

-- so many bytes were taken, and so many of the body gained; nothing is said where there is no limit
abbrev pub SpendsBy : Option ℕ → Phase → ℕ → Option ℕ → Phase → ℕ → ℕ → ℕ → Type 0
SpendsBy None phase kept room' phase' kept' taken gained = Unit {0}
SpendsBy (Some room) phase kept None phase' kept' taken gained = ⊥
SpendsBy (Some room) phase kept (Some room') phase' kept' taken gained =
    (taken + work_at phase' room' kept' ≤ work_at phase room kept) × (gained + room_at phase' room' ≤ room_at phase room) × (phase' ≢ ReplyHead)

-- replies have no limit
abbrev pub limit_at : Phase → Option ℕ → Option ℕ
limit_at ReplyHead room = None
limit_at Head room = room
limit_at (Content left) room = room
limit_at Line room = room
limit_at (Data left) room = room
limit_at (Return has_return) room = room
limit_at Trailing room = room
limit_at Whole room = room

abbrev pub Spends : Framing → Framing → ℕ → ℕ → Type 0
Spends old new taken gained = SpendsBy (limit_at old.phase old.room) old.phase (length old.kept.items) new.room new.phase (length new.kept.items) taken gained

-- some bytes were taken, and these of the body gained: however the rest reads now, it read so before
pub record Moves (old new : Framing) (taken gained : List ℕ) : Type 0 where
  pub reads : (rest : List ℕ) (v : Verdict) → Reads new rest v → Reads old (taken ++ rest) (after gained v)
  pub ready : IsOpen new
  pub spends : Spends old new (length taken) (length gained)

-- a step by one byte
abbrev pub StepsBy : Framing → List ℕ → Result Unit Stop → Framing → Type 0
StepsBy old taken (Ok _) new = Moves old new taken []
StepsBy old taken (Err (Refused e)) new = (rest : List ℕ) → Reads old (taken ++ rest) (refused e)
StepsBy old taken (Err NoMemory) new = Unit {0}

-- the most bytes that may be taken for what a size asks for, and of the body
abbrev pub SizedSpends : Option ℕ → ℕ → Framing → Type 0
SizedSpends None size new = Unit {0}
SizedSpends (Some room) size new = SpendsBy (Some room) Line 255 new.room new.phase (length new.kept.items) 1 0

-- however the rest reads now, it is what the size asks for
pub record Begins (room : Option ℕ) (size : ℕ) (new : Framing) : Type 0 where
  pub reads : (rest : List ℕ) (v : Verdict) → Reads new rest v → Sized Chunks room size rest v
  pub ready : IsOpen new
  pub spends : SizedSpends room size new

-- what a size leads to
abbrev pub Enters : Option ℕ → ℕ → Result Unit Stop → Framing → Type 0
Enters room size (Ok _) new = Begins room size new
Enters room size (Err (Refused e)) new = (rest : List ℕ) → Sized Chunks room size rest (refused e)
Enters room size (Err NoMemory) new = ⊥

-- a body of a request has at most 1,048,576 bytes
abbrev pub IsCountedBy : ℕ → Frame → Type 0
IsCountedBy most (Counted n) = n ≤ most
IsCountedBy most Chunked = Unit {0}
IsCountedBy most (frames.Refused e) = Unit {0}

-- a frame that the limit on a body bounds, where there is one
abbrev pub IsBounded : Option ℕ → Frame → Type 0
IsBounded None frame = Unit {0}
IsBounded (Some room) frame = (room ≡ 1048576) × IsCountedBy 1048576 frame

-- a body takes less than its head leaves, and has at most the limit
abbrev pub FrameSpends : Option ℕ → Framing → Type 0
FrameSpends None new = Unit {0}
FrameSpends (Some room) new = SpendsBy (Some room) Head 16384 new.room new.phase (length new.kept.items) 1 0

-- however the rest reads now, it is a body in this frame
pub record FollowsFrame (room : Option ℕ) (frame : Frame) (new : Framing) : Type 0 where
  pub reads : (rest : List ℕ) (v : Verdict) → Reads new rest v → Frames room frame rest v
  pub ready : IsOpen new
  pub spends : FrameSpends room new

-- what a frame leads to
abbrev pub Follows : Option ℕ → Frame → Result Unit Stop → Framing → Type 0
Follows room frame (Ok _) new = FollowsFrame room frame new
Follows room frame (Err (Refused e)) new = (rest : List ℕ) → Frames room frame rest (refused e)
Follows room frame (Err NoMemory) new = ⊥

-- a step by some bytes of the piece
pub record Advances (old new : Framing) (piece before got : List ℕ) (n : ℕ) : Type 0 where
  pub some : 0 < n
  pub within : n ≤ length piece
  pub gained : List ℕ
  pub grows : got ≡ before ++ gained
  pub moves : Moves old new (take n piece) gained

-- however the rest reads, all was refused for this
abbrev pub Refuses : Framing → List ℕ → Refusal → Type 0
Refuses old piece e = (rest : List ℕ) → Reads old (piece ++ rest) (refused e)

abbrev pub Steps : Framing → List ℕ → List ℕ → Result ℕ Stop → Framing → List ℕ → Type 0
Steps old piece before (Ok n) new got = Advances old new piece before got n
Steps old piece before (Err (Refused e)) new got = Refuses old piece e × (got ≡ before)
Steps old piece before (Err NoMemory) new got = got ≡ before

-- so many bytes of the piece were taken
pub record Goes (old new : Framing) (piece before got : List ℕ) (used : ℕ) : Type 0 where
  pub within : used ≤ length piece
  pub gained : List ℕ
  pub grows : got ≡ before ++ gained
  pub moves : Moves old new (take used piece) gained

-- all of it where the message is not whole
pub record Took (old new : Framing) (piece before got : List ℕ) (used : ℕ) : Type 0 where
  pub goes : Goes old new piece before got used
  pub all : new.phase ≢ Whole → used ≡ length piece

-- some bytes of the body came behind those before
abbrev pub Gains : List ℕ → List ℕ → Type 0
Gains before got = (gained : List ℕ) × (got ≡ before ++ gained)

abbrev pub Feeds : Framing → List ℕ → List ℕ → Result ℕ Stop → Framing → List ℕ → Type 0
Feeds old piece before (Ok used) new got = Took old new piece before got used
Feeds old piece before (Err (Refused e)) new got = Refuses old piece e × Gains before got
Feeds old piece before (Err NoMemory) new got = Gains before got

-- the machine before the first byte of a request
pub record IsNewRequest (f : Framing) : Type 0 where
  pub reads : (rest : List ℕ) (v : Verdict) → Reads f rest v → Asks rest v
  pub ready : IsOpen f
  pub unfinished : f.phase ≢ Whole

-- the machine before the first byte of a reply
pub record IsNewReply (f : Framing) : Type 0 where
  pub reads : (rest : List ℕ) (v : Verdict) → Reads f rest v → Replies rest v
  pub ready : IsOpen f
  pub unfinished : f.phase ≢ Whole
