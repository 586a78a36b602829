-- How the top call runs the command of its words: what was done, with its status and its line.
use Rattle.std.specs.Prelude.{◌≡◌, ℕ, Bool, List, [], ◌⊎◌, Option, Some, None}
use Rattle.ojp_values.specs.Texts.{Text}
use Rattle.ojp_outside.specs.Seen.{SourceView, SinkView}
use Rattle.ojp_steps.specs.Lent.{Lent, IsUnused, Tells}
use Rattle.ojp_steps.specs.Endings.{EndsAs}
use Rattle.ojp_links_mem.specs.Files.{FilesView}
use Rattle.ojp_plan.specs.Plans.{Planned, PlanFails, PlanIsDue}
use Rattle.ojp_load.specs.Loads.{Loaded, LoadFails, LoadIsDue}
use Rattle.ojp_cli.specs.Words.{Command, Plan, Check, Load, IsNumber, IsOrder}
use Rattle.ojp_steps.specs.Failures.{status_of, text_of, line_of}
use Rattle.ojp_cli.specs.Checks.{Checked, CheckFails, CheckIsDue}
use Rattle.ojp_steps.specs.declared.failures.Failure.TheVariants as failures

-- the words were refused, and nothing else was done
pub record RefusesWords {I O E F S : Type 0} (input : Lent I SourceView) (output : Lent O SinkView) (faults : Lent E SinkView) (files : Lent F S) (status : ℕ) : Type 0 where
  pub is : status ≡ status_of failures.Words
  pub told : Tells faults (line_of (text_of failures.Words))
  pub unread : IsUnused input
  pub unwritten : IsUnused output
  pub unopened : IsUnused files

-- how `plan` runs: in the order that its words name, with its trace before the line of a failure; or its words are refused
abbrev pub RunsPlan : {I O E F : Type 0} → Option Text → Bool → List Text → Lent I SourceView → Lent O SinkView → Lent E SinkView → Lent F FilesView → ℕ → Type 0
RunsPlan order_word traces names input output faults files status =
    ((order : ℕ) × IsOrder order_word order
    × (trace : Text) × EndsAs trace (Planned order traces trace names files input output) (PlanFails order traces trace names files input output) faults status)
    ⊎ (((order : ℕ) → IsOrder order_word order → ⊥) × RefusesWords input output faults files status)

-- how `load` runs: over the network of the number that its word names; or its words are refused
abbrev pub RunsLoad : {O E : Type 0} → Text → Lent O SinkView → Lent E SinkView → ℕ → Type 0
RunsLoad word output faults status =
    ((number : ℕ) × IsNumber word number × EndsAs [] (Loaded number output) (LoadFails number output) faults status)
    ⊎ (((number : ℕ) → IsNumber word number → ⊥) × (status ≡ status_of failures.Words) × Tells faults (line_of (text_of failures.Words)) × IsUnused output)

-- how the command of the words runs, where the call waits for nobody
abbrev pub RunsAs : {I O E F : Type 0} → Option Command → Lent I SourceView → Lent O SinkView → Lent E SinkView → Lent F FilesView → ℕ → Type 0
RunsAs None input output faults files status = RefusesWords input output faults files status
RunsAs (Some (Plan order traces names)) input output faults files status = RunsPlan order traces names input output faults files status
RunsAs (Some Check) input output faults files status = EndsAs [] (Checked input output) (CheckFails input output) faults status × IsUnused files
RunsAs (Some (Load number)) input output faults files status = RunsLoad number output faults status × IsUnused input × IsUnused files

-- the status that is due to `plan`
abbrev pub PlanDue : {I O F : Type 0} → Option Text → List Text → Lent I SourceView → Lent O SinkView → Lent F FilesView → ℕ → Type 0
PlanDue order_word names input output files status =
    ((order : ℕ) × IsOrder order_word order × PlanIsDue names files input output status)
    ⊎ (((order : ℕ) → IsOrder order_word order → ⊥) × (status ≡ status_of failures.Words))

-- the status that is due to `load`
abbrev pub LoadDue : {O : Type 0} → Text → Lent O SinkView → ℕ → Type 0
LoadDue word output status =
    ((number : ℕ) × IsNumber word number × LoadIsDue output status)
    ⊎ (((number : ℕ) → IsNumber word number → ⊥) × (status ≡ status_of failures.Words))

-- the status that is due to the command of the words
abbrev pub IsDue : {I O F : Type 0} → Option Command → Lent I SourceView → Lent O SinkView → Lent F FilesView → ℕ → Type 0
IsDue None input output files status = status ≡ status_of failures.Words
IsDue (Some (Plan order traces names)) input output files status = PlanDue order names input output files status
IsDue (Some Check) input output files status = CheckIsDue input output status
IsDue (Some (Load number)) input output files status = LoadDue number output status
