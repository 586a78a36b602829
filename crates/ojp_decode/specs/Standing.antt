-- Where a reader stands: what it keeps of all the bytes that were fed.
use Rattle.std.specs.Prelude.{◌≡◌, ℕ, ◌≤◌, List, [], length, drop, Result, Ok, Err}
use Rattle.ojp_values.specs.declared.documents.Doc.{Doc}
use Rattle.ojp_grammar.specs.declared.machine.Machine.{Machine}
use Rattle.ojp_grammar.specs.declared.refusals.Reason.TheVariants.{Truncated}
use Rattle.ojp_grammar.specs.declared.refusals.Want.{Want}
use Rattle.ojp_grammar.specs.Machine.{StopsFor, IsCutAt}
use Rattle.ojp_grammar.specs.Running.{Stands}
use Rattle.ojp_grammar.specs.Steps.{stack_of}
use Rattle.ojp_decode.specs.declared.fed.Fed.{Fed}
use Rattle.ojp_decode.specs.declared.fed.Fed.TheVariants as feds
use Rattle.ojp_decode.specs.declared.fed.ReadRefused.{ReadRefused}
use Rattle.ojp_decode.specs.declared.fed.ReadRefused.TheVariants.{At, NoMemory}
use Rattle.ojp_decode.specs.declared.fed.Stage.{Stage}
use Rattle.ojp_decode.specs.declared.fed.Stage.TheVariants.{Reading, Whole, Over}
use Rattle.ojp_decode.specs.Progress.{Progress, reading, whole, over, spent}
use Rattle.ojp_decode.specs.Feeding.{Decides, FeedsOn, FeedsBehind, IsCut, IsRead}

-- what a reader holds: its stage, its machine, and the bytes of the item that a piece cut
pub record ReaderView : Type 0 where
  pub stage : Stage
  pub machine : Machine
  pub kept : List ℕ

-- the machine is behind whole items, and what is kept may still become the next
pub record IsWaiting (machine : Machine) (bytes kept : List ℕ) : Type 0 where
  pub stands : Stands machine bytes kept
  pub stops : StopsFor (stack_of machine.stack.items) kept Truncated
  pub cut : IsCutAt machine.cut (stack_of machine.stack.items) kept

-- the machine is at the end of a document that all the bytes spell
pub record IsEnded (machine : Machine) (bytes kept : List ℕ) : Type 0 where
  pub stands : Stands machine bytes []
  pub ended : machine.stack.items ≡ []
  pub none_kept : kept ≡ []

-- how far a reader has come with what it was fed
abbrev pub HasReadAt : Stage → Machine → List ℕ → Progress → Type 0
HasReadAt Reading machine kept progress = (bytes : List ℕ) × (progress ≡ reading machine.want bytes) × IsWaiting machine bytes kept
HasReadAt Whole machine kept progress = (bytes : List ℕ) × (progress ≡ whole machine.want bytes) × IsEnded machine bytes kept
HasReadAt (Over (At refused)) machine kept progress = progress ≡ over refused
HasReadAt (Over NoMemory) machine kept progress = progress ≡ spent

-- the reader has come so far
abbrev pub HasRead : ReaderView → Progress → Type 0
HasRead reader progress = HasReadAt reader.stage reader.machine reader.kept progress

-- a reader has come somewhere
abbrev pub IsSound : Stage → Machine → List ℕ → Type 0
IsSound stage machine kept = (progress : Progress) × HasReadAt stage machine kept progress

-- what a piece does, by how far the reader was
abbrev pub Follows : Progress → List ℕ → Result Fed ReadRefused → Progress → Type 0
Follows (reading want bytes) piece result after = FeedsOn want bytes piece result after
Follows (whole want bytes) piece result after = FeedsBehind want bytes piece result after
Follows (over refused) piece result after = (result ≡ Err (At refused)) × (after ≡ over refused)
Follows spent piece result after = (result ≡ Err NoMemory) × (after ≡ spent)

-- a reader that has come so far is fed a piece
abbrev pub Feeds : Progress → List ℕ → Result Fed ReadRefused → ReaderView → Type 0
Feeds before piece result new = (after : Progress) × HasRead new after × Follows before piece result after

-- what the end of the bytes gives, by how far the reader was
abbrev pub Gives : Progress → Result Doc ReadRefused → Type 0
Gives (reading want bytes) result = IsCut want bytes result
Gives (whole want bytes) result = IsRead want bytes result
Gives (over refused) result = result ≡ Err (At refused)
Gives spent result = result ≡ Err NoMemory

-- nothing is kept but while a document goes on
abbrev pub KeepsFor : Progress → ℕ → Type 0
KeepsFor (reading want bytes) kept = kept ≤ 512
KeepsFor (whole want bytes) kept = kept ≡ 0
KeepsFor (over refused) kept = kept ≡ 0
KeepsFor spent kept = kept ≡ 0

-- the stage behind an answer
abbrev pub stage_of : Result Fed ReadRefused → Stage
stage_of (Ok feds.More) = Reading
stage_of (Ok (feds.Whole used)) = Whole
stage_of (Err refused) = Over refused

-- the machine waits behind all the bytes, or a document ends within the piece, or the bytes decide a refusal
abbrev pub ReadsOn : Want → List ℕ → List ℕ → Result Fed ReadRefused → Machine → List ℕ → Type 0
ReadsOn want bytes piece (Ok feds.More) machine kept = (machine.want ≡ want) × IsWaiting machine bytes kept
ReadsOn want bytes piece (Ok (feds.Whole used)) machine kept =
    (machine.want ≡ want) × (used ≤ length piece) × Stands machine bytes (drop used piece) × (machine.stack.items ≡ []) × (kept ≡ [])
ReadsOn want bytes piece (Err (At refused)) machine kept = Decides want bytes refused
ReadsOn want bytes piece (Err NoMemory) machine kept = Unit {0}
