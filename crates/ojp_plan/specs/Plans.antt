-- What `plan` does with timetable files and a request.
use Rattle.std.specs.Prelude.{◌≡◌, ◌<◌, ◌≤◌, ◌++◌, ◌∷◌, ℕ, Bool, true, false, List, [], map, length, Option, Some, Result, Ok, Err}
use Rattle.ojp_values.specs.Lists.{Pairwise}
use Rattle.ojp_values.specs.Texts.{Text}
use Rattle.ojp_values.specs.declared.asks.Ask.{Ask}
use Rattle.ojp_values.specs.declared.documents.Doc.TheVariants as docs
use Rattle.ojp_values.specs.declared.replies.Delivery.{Delivery}
use Rattle.ojp_outside.specs.Causes.{Rests}
use Rattle.ojp_outside.specs.Seen.{SourceView, SinkView}
use Rattle.ojp_timetable.specs.Tables.{Timetable}
use Rattle.ojp_timetable.specs.TableText.{IsText, IsTextRefused as IsTableRefused}
use Rattle.ojp_timetable.specs.declared.file.lines.TableReason.{TableReason}
use Rattle.ojp_timetable.specs.GatewayAnswers.{GatewayAnswers}
use Rattle.ojp_grammar.specs.Answering.{SpellsAsk, SpellsDelivery}
use Rattle.ojp_grammar.specs.Places.{IsDocumentRefused}
use Rattle.ojp_grammar.specs.declared.refusals.Reason.{Reason}
use Rattle.ojp_grammar.specs.declared.refusals.Want.TheVariants as wants
use Rattle.ojp_exchange.specs.Book.{Book, points_of}
use Rattle.ojp_exchange.specs.Joins.{IsJoined}
use Rattle.ojp_records.specs.Headline.{AreTablesOf}
use Rattle.ojp_traces.specs.Traces.{TraceOf}
use Rattle.ojp_outside.specs.declared.store.TheConstants.{FILE_LIMIT}
use Rattle.ojp_links_mem.specs.Files.{FilesView}
use Rattle.ojp_steps.specs.Lent.{Lent, before, after, IsUnused, Gains, GainsInPart, TellsTrace}
use Rattle.ojp_outside.specs.declared.mem_sink.MemSink.{MemSink}
use Rattle.ojp_steps.specs.Endings.{HasEnding}
use Rattle.ojp_steps.specs.Inputs.{IsDocumentOf, IsNoDocument, FailsToRead, IsReadInPart, IsHeard}
use Rattle.ojp_steps.specs.declared.failures.Failure.{Failure}
use Rattle.ojp_steps.specs.declared.failures.Failure.TheVariants.{Document, Input, Output, Memory}
use Rattle.ojp_plan.specs.Files.{FilesFail, MakesBook}

-- the text is the document of a delivery that the gateway answers to the ask by the timetables
pub record AnswersAs (tables : List Timetable) (ask : Ask) (text : Text) : Type 0 where
  pub delivery : Delivery
  pub answers : GatewayAnswers tables ask delivery
  pub spelled : SpellsDelivery delivery text

-- the files are the texts of timetables that make a book
abbrev pub AreAccepted : {F : Type 0} → List Text → Lent F FilesView → Type 0
AreAccepted names files = (tables : List Timetable) × MakesBook (before files).store names tables

-- the trace is that of a search over the timetables whose replies become ready in the order, where one is asked for; else it is empty
abbrev pub IsTraceFor : Bool → List Timetable → ℕ → Ask → Text → Type 0
IsTraceFor true tables order ask trace = (book : Book) × AreTablesOf tables book × TraceOf tables book ask order trace
IsTraceFor false tables order ask trace = trace ≡ []

-- the text answers the request that the input had by the timetables of the files, and the trace is that of its search
pub record IsPlan {F I : Type 0} (order : ℕ) (traces : Bool) (trace : Text) (names : List Text) (files : Lent F FilesView) (input : Lent I SourceView) (text : Text) : Type 0 where
  pub tables : List Timetable
  pub of_files : MakesBook (before files).store names tables
  pub ask : Ask
  pub of_input : IsDocumentOf wants.Request input (docs.Ask ask)
  pub answered : AnswersAs tables ask text
  pub traced : IsTraceFor traces tables order ask trace

-- the output gained just a text that is due
pub record Planned {F I O : Type 0} (order : ℕ) (traces : Bool) (trace : Text) (names : List Text) (files : Lent F FilesView) (input : Lent I SourceView) (output : Lent O SinkView) : Type 0 where
  pub text : Text
  pub due : IsPlan order traces trace names files input text
  pub gained : Gains output text

-- a write failed, and the output gained a front of a text that is due
pub record PlannedInPart {F I O : Type 0} (order : ℕ) (traces : Bool) (trace : Text) (names : List Text) (files : Lent F FilesView) (input : Lent I SourceView) (output : Lent O SinkView) : Type 0 where
  pub text : Text
  pub due : IsPlan order traces trace names files input text
  pub gained : GainsInPart output text

-- why there is no answer, and what was left alone then: each step before the one that failed was passed, and none comes behind it
abbrev pub AnswerFails : {F I : Type 0} → List Text → Lent F FilesView → Lent I SourceView → Failure → Type 0
AnswerFails names files input (Document at reason) = AreAccepted names files × IsNoDocument wants.Request input at reason
AnswerFails names files input Input = AreAccepted names files × FailsToRead input
AnswerFails names files input Output = ⊥
AnswerFails names files input Memory = IsReadInPart input
AnswerFails names files input failure = FilesFail names files failure × IsUnused input

-- why `plan` fails, and what it leaves alone then: each step before the one that failed was passed, and none comes behind it; the trace is
-- told before the output is written
abbrev pub PlanFails : {F I O : Type 0} → ℕ → Bool → Text → List Text → Lent F FilesView → Lent I SourceView → Lent O SinkView → Failure → Type 0
PlanFails order traces trace names files input output (Document at reason) = AreAccepted names files × IsNoDocument wants.Request input at reason × IsUnused output × (trace ≡ [])
PlanFails order traces trace names files input output Input = AreAccepted names files × FailsToRead input × IsUnused output × (trace ≡ [])
PlanFails order traces trace names files input output Output = PlannedInPart order traces trace names files input output
PlanFails order traces trace names files input output Memory = IsReadInPart input × IsUnused output × (trace ≡ [])
PlanFails order traces trace names files input output failure = FilesFail names files failure × IsUnused input × IsUnused output × (trace ≡ [])

-- how the answer is made, in memory, with the trace of its search
abbrev pub MakesText : {F I : Type 0} → ℕ → Bool → Text → List Text → Lent F FilesView → Lent I SourceView → Result MemSink Failure → Type 0
MakesText order traces trace names files input (Ok text) = IsPlan order traces trace names files input text.written
MakesText order traces trace names files input (Err failure) = AnswerFails names files input failure

-- `plan` ends so, and standard error gained this trace, unless a write to it failed; its count of faults did not fall
pub record PlansAs {F I O E : Type 0} (order : ℕ) (traces : Bool) (names : List Text) (files : Lent F FilesView) (input : Lent I SourceView) (output : Lent O SinkView) (faults : Lent E SinkView) (ended : Result (Unit {0}) Failure) : Type 0 where
  pub trace : Text
  pub ends : HasEnding (Planned order traces trace names files input output) (PlanFails order traces trace names files input output) ended
  pub told : TellsTrace faults trace
  pub later : (before faults).faults ≤ (after faults).faults

-- ---- what is due

-- the store tells its files, and no read of one failed
pub record IsTold {F : Type 0} (files : Lent F FilesView) (held : Text → Option Text) : Type 0 where
  pub contents : (before files).store.contents ≡ Some held
  pub rests : Rests (before files).store.faults (after files).store.faults

-- the file is there, and is the text of the timetable
pub record IsGood (held : Text → Option Text) (file : Text) (table : Timetable) : Type 0 where
  pub bytes : Text
  pub is : held file ≡ Some bytes
  pub within : length bytes ≤ FILE_LIMIT
  pub is_text : IsText bytes table

-- the files down to this one are texts of timetables, and it has these bytes
pub record ComesTo (held : Text → Option Text) (names : List Text) (bytes : Text) : Type 0 where
  pub above : List Text
  pub file : Text
  pub behind : List Text
  pub order : names ≡ above ++ file ∷ behind
  pub tables : List Timetable
  pub good : Pairwise (IsGood held) above tables
  pub is : held file ≡ Some bytes

-- the files are texts of timetables that make a book
pub record AreGood (held : Text → Option Text) (names : List Text) : Type 0 where
  pub tables : List Timetable
  pub good : Pairwise (IsGood held) names tables
  pub book : Book
  pub joined : IsJoined (map points_of tables) book

-- the status that is due where files and input tell their bytes and no count rose
pub data PlanIsDue {F I O : Type 0} (names : List Text) (files : Lent F FilesView) (input : Lent I SourceView) (output : Lent O SinkView) : ℕ → Type 0 where
  -- a file has more bytes than a file may have
  too_long : (held : Text → Option Text) → IsTold files held → (bytes : Text) → ComesTo held names bytes → FILE_LIMIT < length bytes
      → PlanIsDue names files input output 3
  -- a file is no timetable
  no_table : (held : Text → Option Text) → IsTold files held → (bytes : Text) → ComesTo held names bytes → length bytes ≤ FILE_LIMIT
      → (line : ℕ) (reason : TableReason) → IsTableRefused bytes line reason → PlanIsDue names files input output 6
  -- the timetables make no book
  no_book : (held : Text → Option Text) → IsTold files held → (tables : List Timetable) → Pairwise (IsGood held) names tables
      → ((book : Book) → IsJoined (map points_of tables) book → ⊥) → PlanIsDue names files input output 7
  -- the input is no request
  no_request : (held : Text → Option Text) → IsTold files held → AreGood held names → (bytes : Text) → IsHeard input bytes
      → (at : ℕ) (reason : Reason) → IsDocumentRefused wants.Request bytes at reason → PlanIsDue names files input output 1
  -- files and input are in order, and no write failed
  an_answer : (held : Text → Option Text) → IsTold files held → AreGood held names → (bytes : Text) → IsHeard input bytes → (ask : Ask) → SpellsAsk ask bytes
      → Rests (before output).faults (after output).faults → PlanIsDue names files input output 0
