-- Where the machine stops, the bytes are refused or a document is whole.
use Rattle.std.specs.Prelude.{MatchOption}
use Rattle.std.proofs.Common.{◌≡◌, ◌≢◌, refl, ℕ, ◌<◌, ◌≤◌, List, [], ◌∷◌, Option, None, inl, inr, length, drop, sym, ◌∙◌, ap, subst, arith, length-drop}
use Rattle.ojp_values.specs.declared.documents.Doc.{Doc}
use Rattle.ojp_grammar.specs.declared.refusals.Want.{Want}
use Rattle.ojp_grammar.specs.declared.refusals.Reason.{Reason}
use Rattle.ojp_grammar.specs.declared.refusals.Reason.TheVariants as reasons
use Rattle.ojp_grammar.specs.declared.refusals.WholeRefused.{WholeRefused}
use Rattle.ojp_grammar.specs.declared.refusals.WholeRefused.TheVariants as refusals
use Rattle.ojp_grammar.specs.declared.machine.Machine.{Machine}
use Rattle.ojp_grammar.specs.declared.machine.Ran.{Ran}
use Rattle.ojp_grammar.specs.declared.shapes.Shape.{Shape}
use Rattle.ojp_grammar.specs.Syntax.{Syntax}
use Rattle.ojp_grammar.specs.Documents.{IsWanted, Spells}
use Rattle.ojp_grammar.specs.Places.{IsDocumentRefused}
use Rattle.ojp_grammar.specs.Steps.{stack_of}
use Rattle.ojp_grammar.specs.Reached.{start_of}
use Rattle.ojp_grammar.specs.Folding.{Waiting}
use Rattle.ojp_grammar.specs.Machine.{StopsFor}
use Rattle.ojp_grammar.specs.Running.{IsReading, Stands, IsRead}
use Rattle.ojp_grammar.specs.Whole.{IsWholeRefused, IsWhyNot}
use Rattle.ojp_grammar.proofs.Refusal.{at_refused, at_trailing}
use Rattle.ojp_grammar.proofs.Wanted.{start_means}
use Rattle.ojp_grammar.proofs.Drafts.{finishes}

pub stop_refused : (want : Want) (at : ℕ) (open_shapes : List Syntax) (waiting : Waiting) (bytes tail : List ℕ) (reason : Reason) → IsReading want at open_shapes waiting bytes tail → StopsFor open_shapes tail reason → IsDocumentRefused want bytes at reason
stop_refused want at [] waiting bytes tail reason r stops = absurd stops
stop_refused want at (s ∷ k) waiting bytes tail reason r stops =
    subst (λ n. IsDocumentRefused want bytes n reason) (sym r.place)
    (at_refused want (start_of want) bytes r.front s k tail reason (start_means want) r.reached stops)

pub end_refused : (want : Want) (at : ℕ) (waiting : Waiting) (bytes tail : List ℕ) → IsReading want at [] waiting bytes tail → tail ≢ [] → IsDocumentRefused want bytes at reasons.Trailing
end_refused want at waiting bytes tail r some =
    subst (λ n. IsDocumentRefused want bytes n reasons.Trailing) (sym r.place)
    (at_trailing want (start_of want) bytes r.front tail (start_means want) r.reached some)

-- the machine after a run, for the wanted documents
reading_of : (want : Want) (m : Machine) (bytes tail : List ℕ) → m.want ≡ want → Stands m bytes tail → IsReading want m.at (stack_of m.stack.items) m.draft bytes tail
reading_of want m bytes tail same r =
    subst (λ w. IsReading w m.at (stack_of m.stack.items) m.draft bytes tail) same r

pub ended : (want : Want) (m : Machine) (bytes tail : List ℕ) → m.want ≡ want → Stands m bytes tail → m.stack.items ≡ [] → IsReading want m.at [] m.draft bytes tail
ended want m bytes tail same r none =
    subst (λ (stack : List Shape). IsReading want m.at (stack_of stack) m.draft bytes tail) none (reading_of want m bytes tail same r)

pub run_refused : (want : Want) (m : Machine) (bytes tail : List ℕ) (reason : Reason) (refused : WholeRefused) → m.want ≡ want → Stands m bytes tail → StopsFor (stack_of m.stack.items) tail reason → refused ≡ refusals.At (record { at = m.at; reason = reason }) → IsWholeRefused want bytes refused
run_refused want m bytes tail reason refused same r stops is =
    subst (IsWholeRefused want bytes) (sym is)
    (stop_refused want m.at (stack_of m.stack.items) m.draft bytes tail reason (reading_of want m bytes tail same r) stops)

some_left : (bytes : List ℕ) (took : ℕ) → took < length bytes → drop took bytes ≢ []
some_left bytes took more e =
    let size : length (drop took bytes) ≡ 0 = ap length e in omega (arith, size, length-drop took bytes)

pub run_trailing : (want : Want) (m : Machine) (bytes : List ℕ) (took : ℕ) (refused : WholeRefused) → m.want ≡ want → Stands m bytes (drop took bytes) → m.stack.items ≡ [] → took < length bytes → refused ≡ refusals.At (record { at = m.at; reason = reasons.Trailing }) → IsWholeRefused want bytes refused
run_trailing want m bytes took refused same r none more is =
    subst (IsWholeRefused want bytes) (sym is)
    (end_refused want m.at m.draft bytes (drop took bytes) (ended want m bytes (drop took bytes) same r none) (some_left bytes took more))

nothing_left : (xs : List ℕ) → length xs ≡ 0 → xs ≡ []
nothing_left [] e = refl
nothing_left (x ∷ xs) e = absurd (omega arith)

pub run_whole : (m : Machine) (bytes : List ℕ) (took : ℕ) → Stands m bytes (drop took bytes) → length bytes ≤ took → Stands m bytes []
run_whole m bytes took r all =
    subst (Stands m bytes) (nothing_left (drop took bytes) (omega (arith, length-drop took bytes))) r

-- where all is read, the document waits
pub record IsDone (want : Want) (waiting : Waiting) (bytes : List ℕ) : Type 0 where
  pub document : Doc
  pub wanted : IsWanted want document
  pub spells : Spells document bytes
  pub done : waiting.done ≡ document ∷ []

pub run_done : (m : Machine) (bytes : List ℕ) → Stands m bytes [] → m.stack.items ≡ [] → IsDone m.want m.draft bytes
run_done m bytes stands none =
    let r = ended m.want m bytes [] refl stands none in
    let d = finishes m.want bytes r.front m.draft r.reached r.folded in
    record { document = d.0; wanted = d.1; spells = d.2; done = ap (λ (w : Waiting). w.done) d.3 }

-- what a run over all the bytes leaves behind
pub record HasRun (want : Want) (m : Machine) (bytes : List ℕ) (ran : Ran) : Type 0 where
  pub want_is : m.want ≡ want
  pub stands : Stands m bytes (drop ran.took bytes)
  pub stop : MatchOption ran.stop (m.stack.items ≡ []) (StopsFor (stack_of m.stack.items) (drop ran.took bytes))

pub run_stopped : (want : Want) (m : Machine) (bytes : List ℕ) (ran : Ran) (reason : Reason) (refused : WholeRefused) → HasRun want m bytes ran → IsWhyNot ran (length bytes) reason → refused ≡ refusals.At (record { at = m.at; reason = reason }) → IsWholeRefused want bytes refused
run_stopped want m bytes ran reason refused run (inl stopped) is =
    run_refused want m bytes (drop ran.took bytes) reason refused run.want_is run.stands (rw stopped at run.stop) is
run_stopped want m bytes ran reason refused run (inr behind) is =
    run_trailing want m bytes ran.took refused run.want_is run.stands (rw behind.0 at run.stop) behind.1
    (is ∙ ap (λ r. refusals.At (record { at = m.at; reason = r })) behind.2)

pub run_read : (want : Want) (m : Machine) (bytes : List ℕ) (ran : Ran) (found : Option Doc) → HasRun want m bytes ran → ran.stop ≡ None → length bytes ≤ ran.took → (Stands m bytes [] → m.stack.items ≡ [] → IsRead m.want bytes found) → IsRead want bytes found
run_read want m bytes ran found run ended all read =
    let P : Want → Type 0 = λ w. IsRead w bytes found in
    subst P run.want_is (read (run_whole m bytes ran.took run.stands all) (rw ended at run.stop))
