-- What a connection holds after it was served.
use Rattle.std.specs.Prelude.{◌≡◌, ℕ, List, IfSome, ◌⊎◌}
use Rattle.std.specs.Io.KnownBytes.{Appends, Keeps}
use Rattle.ojp_outside.specs.Causes.{Rose}
use Rattle.ojp_outside.specs.Known.{AppendsPrefix}
use Rattle.ojp_outside.specs.Seen.{SourceView, SinkView}
use Rattle.ojp_http.specs.declared.served.Served.{Served}
use Rattle.ojp_http.specs.declared.served.Served.TheVariants.{Answered, ReadFault, WriteFault, NoMemory}
use Rattle.ojp_http.specs.Responses.{no_memory_response}
use Rattle.ojp_http.specs.Serving.{ServedAs}

-- what is seen of a connection: of its input and of its output
pub record Wire : Type 0 where
  pub input : SourceView
  pub output : SinkView

abbrev pub wire : SourceView → SinkView → Wire
wire input output = record { input = input; output = output }

-- the counts of faults stand still
pub record IsCalm (old new : Wire) : Type 0 where
  pub reads : new.input.faults ≡ old.input.faults
  pub writes : new.output.faults ≡ old.output.faults

-- the count of reads that failed rose, and the other stands still
pub record ReadFailed (old new : Wire) : Type 0 where
  pub reads : Rose old.input.faults new.input.faults
  pub writes : new.output.faults ≡ old.output.faults

-- the count of writes that failed rose, and the other stands still
pub record WriteFailed (old new : Wire) : Type 0 where
  pub reads : new.input.faults ≡ old.input.faults
  pub writes : Rose old.output.faults new.output.faults

-- the whole response of the status was written for these bytes
abbrev pub WritesFor : (List ℕ → ℕ → List ℕ → Type 0) → Wire → Wire → ℕ → List ℕ → Type 0
WritesFor Answers old new status bytes = (out : List ℕ) × ServedAs Answers bytes status out × Appends old.output.written new.output.written out

-- a prefix of a response was written for these bytes
abbrev pub WritesPrefixFor : (List ℕ → ℕ → List ℕ → Type 0) → Wire → Wire → List ℕ → Type 0
WritesPrefixFor Answers old new bytes = (status : ℕ) × (out : List ℕ) × ServedAs Answers bytes status out × AppendsPrefix old.output.written new.output.written out

-- the connection was served so: with the whole response of a status; with nothing, where a read failed; with a prefix of a
-- response, where a write failed; or with the fixed one for want of memory, of which a prefix stands where a write failed
abbrev pub Serves : (List ℕ → ℕ → List ℕ → Type 0) → Wire → Wire → Served → Type 0
Serves Answers old new (Answered status) = IfSome old.input.left (WritesFor Answers old new status) × IsCalm old new
Serves Answers old new ReadFault = Keeps old.output.written new.output.written × ReadFailed old new
Serves Answers old new WriteFault = IfSome old.input.left (WritesPrefixFor Answers old new) × WriteFailed old new
Serves Answers old new NoMemory =
    (Appends old.output.written new.output.written no_memory_response × IsCalm old new)
    ⊎ (AppendsPrefix old.output.written new.output.written no_memory_response × WriteFailed old new)

-- the bytes of a response of this status were written, or a prefix of them where a write failed
abbrev pub WritesAs : ℕ → List ℕ → SinkView → SinkView → Served → Type 0
WritesAs status out old new (Answered given) = (given ≡ status) × Appends old.written new.written out × (new.faults ≡ old.faults)
WritesAs status out old new WriteFault = AppendsPrefix old.written new.written out × Rose old.faults new.faults
WritesAs status out old new ReadFault = ⊥
WritesAs status out old new NoMemory = ⊥

-- the response for want of memory was written, or a prefix of it where a write failed
abbrev pub WritesNoMemory : SinkView → SinkView → Type 0
WritesNoMemory old new =
    (Appends old.written new.written no_memory_response × (new.faults ≡ old.faults))
    ⊎ (AppendsPrefix old.written new.written no_memory_response × Rose old.faults new.faults)
