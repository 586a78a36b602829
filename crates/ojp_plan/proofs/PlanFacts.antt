-- How `plan` ends by how its steps ended.
use Rattle.std.proofs.Common.{◌≡◌, ℕ, Bool, List, [], Result, Ok, Err, refl, sym, subst}
use Rattle.std.specs.Prelude.{IfOk}
use Rattle.ojp_values.specs.Texts.{Text}
use Rattle.ojp_values.specs.declared.asks.Ask.{Ask}
use Rattle.ojp_values.specs.declared.replies.Delivery.{Delivery}
use Rattle.ojp_values.specs.declared.memory.NoMemory.{NoMemory}
use Rattle.ojp_values.specs.declared.documents.Doc.TheVariants as docs
use Rattle.ojp_grammar.specs.declared.refusals.Want.TheVariants as wants
use Rattle.ojp_outside.specs.Seen.{SourceView, SinkView, StoreView}
use Rattle.ojp_outside.specs.declared.mem_sink.MemSink.{MemSink}
use Rattle.ojp_timetable.specs.Tables.{Timetable}
use Rattle.ojp_timetable.specs.GatewayAnswers.{GatewayAnswers}
use Rattle.ojp_grammar.specs.Answering.{SpellsDelivery}
use Rattle.ojp_exchange.specs.Book.{Book}
use Rattle.ojp_links.specs.Seen.{View}
use Rattle.ojp_links_mem.specs.Files.{FilesView, RenumbersFiles}
use Rattle.ojp_links_mem.specs.Memory.{links_of}
use Rattle.ojp_steps.specs.Lent.{Lent, before, IsUnused}
use Rattle.ojp_steps.specs.Inputs.{IsDocumentOf, ReadsAsk, failure_of_input}
use Rattle.ojp_steps.specs.declared.failures.Failure.{Failure}
use Rattle.ojp_steps.specs.declared.failures.Failure.TheVariants.{Document, Input, Output, Memory}
use Rattle.ojp_steps.specs.declared.input.InputRefused.{InputRefused}
use Rattle.ojp_steps.specs.declared.input.InputRefused.TheVariants as refusals
use Rattle.ojp_plan.specs.Files.{AreTextsOf, MakesBook}
use Rattle.ojp_plan.specs.Ready.{IsLearnedOf, IsPrepared}
use Rattle.ojp_plan.specs.Plans.{AnswerFails, AnswersAs, IsPlan, IsTraceFor, PlanFails}
use Rattle.ojp_plan.proofs.ReadyFacts.{joined, renumbered}

-- the spelling of an answer
pub spelled_answer : (given : List Timetable) (ask : Ask) (delivery : Delivery) (result : Result MemSink NoMemory) → GatewayAnswers given ask delivery → IfOk result (λ text. SpellsDelivery delivery text.written)
    → IfOk result (λ text. AnswersAs given ask text.written)
spelled_answer given ask delivery (Ok text) answers spelled = record { delivery = delivery; answers = answers; spelled = spelled }
spelled_answer given ask delivery (Err refused) answers spelled = tt

-- the regions are prepared
pub prepared : (store : StoreView) (names : List Text) (given : List Timetable) (was order : ℕ) (book : Book) (old new : FilesView) → AreTextsOf store names given
    → IsLearnedOf given was book (links_of old.links) → RenumbersFiles old new order → IsPrepared store names order (links_of new.links) book
prepared store names given was order book old new texts learned renumbers = record {
  given = given;
  texts = texts;
  learned = renumbered given was order book old new renumbers learned;
  none_made = renumbers.links_by.none_made;
}

-- the files make the book
pub makes_book : (store : StoreView) (names : List Text) (order : ℕ) (v : View) (book : Book) (p : IsPrepared store names order v book) → MakesBook store names p.given
makes_book store names order v book p = record { texts = p.texts; book = book; joined = joined p.given order book v p.learned }

-- the input could not be taken
pub fails_for_input : {F I : Type 0} (names : List Text) (files : Lent F FilesView) (input : Lent I SourceView) (tables : List Timetable) (refused : InputRefused) (failure : Failure)
    → MakesBook (before files).store names tables → ReadsAsk input (Err refused) → failure ≡ failure_of_input refused → AnswerFails names files input failure
fails_for_input names files input tables refused failure makes reading e = subst (AnswerFails names files input) (sym e) (go refused reading)
  where
    go : (refused : InputRefused) → ReadsAsk input (Err refused) → AnswerFails names files input (failure_of_input refused)
    go (refusals.At at reason) r = ((tables, makes), r)
    go refusals.Failed r = ((tables, makes), r)
    go refusals.NoMemory r = r

-- there is no answer, so nothing is written or told
pub fails_unanswered : {F I O : Type 0} (order : ℕ) (traces : Bool) (names : List Text) (files : Lent F FilesView) (input : Lent I SourceView) (output : Lent O SinkView) (failure : Failure) → AnswerFails names files input failure
    → IsUnused output → PlanFails order traces [] names files input output failure
fails_unanswered order traces names files input output (Document at reason) f unused = (f.0, f.1, unused, refl)
fails_unanswered order traces names files input output Input f unused = (f.0, f.1, unused, refl)
fails_unanswered order traces names files input output Output f unused = absurd f
fails_unanswered order traces names files input output Memory f unused = (f, unused, refl)
fails_unanswered order traces names files input output failure f unused = (f.0, f.1, unused, refl)

-- the text is an answer
pub is_plan : {F I : Type 0} (order : ℕ) (traces : Bool) (trace : Text) (names : List Text) (files : Lent F FilesView) (v : View) (book : Book) (p : IsPrepared (before files).store names order v book) (input : Lent I SourceView)
    (ask : Ask) → IsDocumentOf wants.Request input (docs.Ask ask) → (text : Text) → AnswersAs p.given ask text → IsTraceFor traces p.given order ask trace → IsPlan order traces trace names files input text
is_plan order traces trace names files v book p input ask of_input text answered traced = record {
  tables = p.given;
  of_files = makes_book (before files).store names order v book p;
  ask = ask;
  of_input = of_input;
  answered = answered;
  traced = traced;
}

-- a spelled answer has the trace of its search
pub traced_text : {D : Type 0} (T : Type 0) (result : Result D NoMemory) → T → IfOk result (λ text. T)
traced_text T (Ok text) h = h
traced_text T (Err refused) h = tt
