-- How a run ends by how its command ended.
use Rattle.std.proofs.Common.{◌≡◌, ℕ, ◌⊎◌, Bool, List, Option, Some, Result, inl, inr, sym, ◌∙◌, subst}
use Rattle.ojp_values.specs.Texts.{Text}
use Rattle.ojp_outside.specs.Seen.{SourceView, SinkView}
use Rattle.ojp_steps.specs.Lent.{Lent, lent}
use Rattle.ojp_cli.specs.Words.{Command, Plan, Check, IsOrder}
use Rattle.ojp_steps.specs.Endings.{HasEnding, Concludes}
use Rattle.ojp_steps.proofs.EndFacts.{ends_traced}
use Rattle.ojp_cli.specs.Runs.{IsDue, PlanDue, RunsAs}
use Rattle.ojp_links_mem.specs.Files.{FilesView}
use Rattle.ojp_plan.specs.Plans.{Planned, PlanFails, PlansAs}
use Rattle.ojp_plan.proofs.DueFacts.{due_to_plan}
use Rattle.ojp_cli.specs.Checks.{Checked, CheckFails}
use Rattle.ojp_cli.proofs.CheckFacts.{due_to_check}
use Rattle.ojp_steps.specs.declared.failures.Failure.{Failure}

module _ {I O F : Type 0} (named : Option Command) (order_word : Option Text) (traces : Bool) (names : List Text) (is : named ≡ Some (Plan order_word traces names))
    (input : Lent I SourceView) (output : Lent O SinkView) (files : Lent F FilesView) (status : ℕ) where
  -- `plan` ran in the order of its words
  pub runs_plan : {E : Type 0} (seen : E → SinkView) (old mid new : E) (order : ℕ) (ended : Result (Unit {0}) Failure) → IsOrder order_word order
      → PlansAs order traces names files input output (lent seen old mid) ended → Concludes ended (lent seen mid new) status → RunsAs named input output (lent seen old new) files status
  runs_plan seen old mid new order ended ordered plans concludes =
      subst (λ (n : Option Command). RunsAs n input output (lent seen old new) files status) (sym is)
      (inl (order, ordered, plans.trace, ends_traced plans.trace (Planned order traces plans.trace names files input output) (PlanFails order traces plans.trace names files input output) ended seen old mid new status plans.ends plans.told plans.later concludes))

  -- the status that is due to `plan`
  pub due_if_plan : {E : Type 0} (before faults : Lent E SinkView) (order : ℕ) (ended : Result (Unit {0}) Failure) → IsOrder order_word order
      → PlansAs order traces names files input output before ended → Concludes ended faults status
      → (due : ℕ) → IsDue named input output files due → (status ≡ 5) ⊎ (status ≡ due)
  due_if_plan before faults order ended ordered plans concludes due h =
      go (subst (λ (n : Option Command). IsDue n input output files due) is h)
    where
      go : PlanDue order_word names input output files due → (status ≡ 5) ⊎ (status ≡ due)
      go (inl d) = due_to_plan order traces plans.trace names files input output ended faults status due plans.ends concludes d.2
      go (inr d) = absurd (d.0 order ordered)

  -- the status that is due where the words of `plan` name no order
  pub due_if_no_order : ((order : ℕ) → IsOrder order_word order → ⊥) → status ≡ 2 → (due : ℕ) → IsDue named input output files due → (status ≡ 5) ⊎ (status ≡ due)
  due_if_no_order none two due h =
      go (subst (λ (n : Option Command). IsDue n input output files due) is h)
    where
      go : PlanDue order_word names input output files due → (status ≡ 5) ⊎ (status ≡ due)
      go (inl d) = absurd (none d.0 d.1)
      go (inr d) = inr (two ∙ sym d.1)

-- the status that is due to `check`
pub due_if_check : {I O E F : Type 0} (named : Option Command) (input : Lent I SourceView) (output : Lent O SinkView) (faults : Lent E SinkView) (files : Lent F FilesView)
    (ended : Result (Unit {0}) Failure) (result : ℕ) → named ≡ Some Check → HasEnding (Checked input output) (CheckFails input output) ended → Concludes ended faults result
    → (status : ℕ) → IsDue named input output files status → (result ≡ 5) ⊎ (result ≡ status)
due_if_check named input output faults files ended result e ends concludes status due =
    due_to_check input output ended faults result status ends concludes (subst (λ (n : Option Command). IsDue n input output files status) e due)
