-- A reply in pieces, as it is seen from outside.
use Rattle.std.specs.Prelude.{◌≡◌, ◌≢◌, ℕ, ◌≤◌, false, List, [], ◌++◌, length, take, Option, None, Result, Ok, Err}
use Rattle.ojp_http.specs.declared.refusal.Refusal.{Refusal}
use Rattle.ojp_http.specs.declared.fed.ReplyFed.{ReplyFed}
use Rattle.ojp_http.specs.declared.fed.ReplyFed.TheVariants as fed
use Rattle.ojp_http.specs.declared.fed.ReplyRefused.{ReplyRefused}
use Rattle.ojp_http.specs.declared.fed.ReplyRefused.TheVariants as refused_as
use Rattle.ojp_http.specs.declared.fed.Stage.{Stage}
use Rattle.ojp_http.specs.declared.fed.Stage.TheVariants.{Reading, Whole, Over}
use Rattle.ojp_http.specs.declared.reply.State.{State}
use Rattle.ojp_http.specs.declared.reply.State.TheVariants as states
use Rattle.ojp_http.specs.declared.machine.Framing.{Framing}
use Rattle.ojp_http.specs.declared.machine.Phase.{Phase}
use Rattle.ojp_http.specs.declared.machine.Phase.TheVariants as phases
use Rattle.ojp_http.specs.declared.machine.Stop.{Stop}
use Rattle.ojp_http.specs.declared.machine.Stop.TheVariants.{Refused, NoMemory}
use Rattle.ojp_http.specs.declared.count.LineCount.{LineCount}
use Rattle.ojp_http.specs.Verdicts.{Verdict, refused, cut, after}
use Rattle.ojp_http.specs.Bodies.{Replies}
use Rattle.ojp_http.specs.Asking.{HttpReply}
use Rattle.ojp_http.specs.Machine.{ReadsAt, IsOpenAt, IsOpen, is_whole_at, Gains}
use Rattle.ojp_http.specs.LineCounts.{no_lines}

-- a reply that is read: its stage, and where its framing stands
pub record ReplyView : Type 0 where
  pub stage : Stage
  pub phase : Phase
  pub room : Option ℕ
  pub kept : List ℕ
  pub count : LineCount

-- a reply that is framed, as it is seen
abbrev pub framed : Framing → ReplyView
framed f = record { stage = Reading; phase = f.phase; room = f.room; kept = f.kept.items; count = f.count }

-- a reply of which no more is read, as it is seen
abbrev pub ended : Stage → ReplyView
ended stage = record { stage = stage; phase = phases.Whole; room = None; kept = []; count = no_lines }

-- a reply, as it is seen
abbrev pub seen_as : State → ReplyView
seen_as (states.Reading f) = framed f
seen_as states.Whole = ended Whole
seen_as (states.Over e) = ended (Over e)

-- these bytes were taken, and these of the body gained: however the rest reads, it read so
pub record HasTaken (r : ReplyView) (bytes got : List ℕ) : Type 0 where
  pub reads : (rest : List ℕ) (v : Verdict) → ReadsAt r.phase r.room r.kept rest v → Replies (bytes ++ rest) (after got v)
  pub ready : IsOpenAt r.phase r.kept r.count
  pub unfinished : is_whole_at r.phase ≡ false

-- what was fed, with the bytes of the body in it
abbrev pub HasFedAt : Stage → ReplyView → List ℕ → List ℕ → Type 0
HasFedAt Reading r bytes got = HasTaken r bytes got
HasFedAt Whole r bytes got = HttpReply bytes got
HasFedAt (Over e) r bytes got = Unit {0}

abbrev pub HasFed : ReplyView → List ℕ → List ℕ → Type 0
HasFed r bytes got = HasFedAt r.stage r bytes got

-- the machine is in order while it reads
abbrev pub IsSoundIn : State → Type 0
IsSoundIn (states.Reading f) = IsOpen f × (is_whole_at f.phase ≡ false)
IsSoundIn states.Whole = Unit {0}
IsSoundIn (states.Over e) = Unit {0}

-- no reply begins with these bytes
abbrev pub BeginsNoReply : List ℕ → Type 0
BeginsNoReply bytes = (more body : List ℕ) → ¬ (HttpReply (bytes ++ more) body)

-- the bytes decide a refusal, whatever follows, and no reply begins with them
pub record IsReplyRefused (bytes : List ℕ) : Type 0 where
  pub refusal : Refusal
  pub none : BeginsNoReply bytes
  pub decided : (rest : List ℕ) → Replies (bytes ++ rest) (refused refusal)

-- so many bytes of the piece belong to the reply, and the body grew
pub record Grows (new : ReplyView) (bytes got piece before after : List ℕ) (used : ℕ) : Type 0 where
  pub within : used ≤ length piece
  pub gained : List ℕ
  pub grows : after ≡ before ++ gained
  pub fed : HasFed new (bytes ++ take used piece) (got ++ gained)

-- the bytes would be cut if they ended here, so that no front of them is a whole reply, and the body of each reply that they
-- begin begins with what came of it
pub record StaysOpen (bytes got : List ℕ) : Type 0 where
  pub is_cut : Replies bytes (cut got)
  pub begins : (more body : List ℕ) → HttpReply (bytes ++ more) body → (tail : List ℕ) × (body ≡ got ++ tail)

-- a reply goes on with the whole piece
pub record Continues (new : ReplyView) (bytes got piece before after : List ℕ) : Type 0 where
  pub grows : Grows new bytes got piece before after (length piece)
  pub reads : new.stage ≡ Reading
  pub stays_open : StaysOpen (bytes ++ piece) (got ++ grows.gained)

-- the bytes decide a refusal, unless memory ran out; what came of the body stands behind what was there
pub record Stops (new : ReplyView) (bytes piece before after : List ℕ) (e : ReplyRefused) : Type 0 where
  pub over : new.stage ≡ Over e
  pub decided : e ≡ refused_as.Bad → IsReplyRefused (bytes ++ piece)
  pub gains : Gains before after

-- a reply goes on, or it ends within the piece, or it stops
abbrev pub ReadsOn : ReplyView → List ℕ → List ℕ → List ℕ → List ℕ → List ℕ → Result ReplyFed ReplyRefused → Type 0
ReadsOn new bytes got piece before after (Ok fed.More) = Continues new bytes got piece before after
ReadsOn new bytes got piece before after (Ok (fed.Whole used)) = Grows new bytes got piece before after used × (new.stage ≡ Whole)
ReadsOn new bytes got piece before after (Err e) = Stops new bytes piece before after e

-- after a whole reply an empty piece is whole again; another is bad, and no reply begins with all bytes
abbrev pub EndsAfter : ReplyView → List ℕ → List ℕ → Result ReplyFed ReplyRefused → Type 0
EndsAfter new bytes piece (Ok fed.More) = ⊥
EndsAfter new bytes piece (Ok (fed.Whole used)) = (used ≡ 0) × (piece ≡ []) × (new.stage ≡ Whole)
EndsAfter new bytes piece (Err e) = (e ≡ refused_as.Bad) × (piece ≢ []) × (new.stage ≡ Over refused_as.Bad) × BeginsNoReply (bytes ++ piece)

-- what a piece leads to; a refusal is answered again
abbrev pub AnswersAt : Stage → ReplyView → List ℕ → List ℕ → List ℕ → List ℕ → List ℕ → Result ReplyFed ReplyRefused → Type 0
AnswersAt Reading new bytes got piece before after r = ReadsOn new bytes got piece before after r
AnswersAt Whole new bytes got piece before after r = EndsAfter new bytes piece r × (after ≡ before)
AnswersAt (Over e) new bytes got piece before after r = (r ≡ Err e) × (new.stage ≡ Over e) × (after ≡ before)

-- what a piece leads to, by the stage
abbrev pub Answers : ReplyView → ReplyView → List ℕ → List ℕ → List ℕ → List ℕ → List ℕ → Result ReplyFed ReplyRefused → Type 0
Answers old new bytes got piece before after r = AnswersAt old.stage new bytes got piece before after r

abbrev pub refusal_at : Stop → ReplyRefused
refusal_at (Refused e) = refused_as.Bad
refusal_at NoMemory = refused_as.NoMemory
