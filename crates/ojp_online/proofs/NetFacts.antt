-- How a command runs by its words, and what is due to it.
use Rattle.std.proofs.Common.{◌≡◌, ℕ, ◌⊎◌, Option, Some, Result, inl, inr, subst, sym, ◌∙◌}
use Rattle.ojp_values.specs.Texts.{Text}
use Rattle.ojp_outside.specs.Seen.{SourceView, SinkView, StoreView}
use Rattle.ojp_links.specs.Seen.{View}
use Rattle.ojp_steps.specs.Lent.{Lent, after}
use Rattle.ojp_steps.specs.Endings.{HasEnding, Concludes}
use Rattle.ojp_steps.specs.Serving.{DoorsSeen}
use Rattle.ojp_steps.specs.declared.failures.Failure.{Failure}
use Rattle.ojp_steps.proofs.EndFacts.{ends_as}
use Rattle.ojp_online.specs.Words.{AreNumbers, Command, IsAddress}
use Rattle.ojp_online.specs.Added.{HasRejectedNoneTold}
use Rattle.ojp_online.specs.Regions.{RegionServed, RegionFails}
use Rattle.ojp_online.specs.Gateways.{GatewayServed, GatewayFails}
use Rattle.ojp_online.specs.Asks.{Asked, AskFails}
use Rattle.ojp_online.specs.Runs.{AskDue, ByNumbers, GatewayDue, IsDue, IsWordsStatus, Outside, RegionDue, RunsGateway}
use Rattle.ojp_online.proofs.AskDue.{due_to_ask}
use Rattle.ojp_online.proofs.GatewayDue.{due_to_gateway}
use Rattle.ojp_online.proofs.RegionDue.{due_to_region}

-- words that name no numbers
pub due_without : (port_word : Text) (count_word : Option Text) (Due : ℕ → Option ℕ → Type 0) (result status : ℕ)
    → ((port : ℕ) (count : Option ℕ) → AreNumbers port_word count_word port count → ⊥) → IsWordsStatus result → ByNumbers port_word count_word Due (IsWordsStatus status) → (result ≡ 5) ⊎ (result ≡ status)
due_without port_word count_word Due result status none is (inl d) = absurd (none d.0 d.1 d.2)
due_without port_word count_word Due result status none is (inr d) = inr (is ∙ sym d.1)

module _ {E : Type 0} (port_word : Text) (count_word : Option Text) (port : ℕ) (count : Option ℕ) (numbers : AreNumbers port_word count_word port count) (ended : Result (Unit {0}) Failure) (faults : Lent E SinkView)
    (result : ℕ) (concludes : Concludes ended faults result) where
  pub due_if_region : {F O D : Type 0} (file : Text) (store : Lent F StoreView) (output : Lent O SinkView) (doors : Lent D DoorsSeen)
      → HasEnding (RegionServed file port count store output doors) (RegionFails file port count store output doors) ended
      → (status : ℕ) → RegionDue file port_word count_word output store doors status → (result ≡ 5) ⊎ (result ≡ status)
  due_if_region file store output doors ends status (inl d) = due_to_region file port count store output doors ended faults result status ends concludes d.3
  due_if_region file store output doors ends status (inr d) = absurd (d.0 port count numbers)

  pub due_if_gateway : {F O D L : Type 0} (file : Text) (store : Lent F StoreView) (output : Lent O SinkView) (doors : Lent D DoorsSeen) (links : Lent L View)
      → HasEnding (GatewayServed file port count store output doors links) (GatewayFails file port count store output doors links) ended
      → (status : ℕ) → GatewayDue file port_word count_word output store doors links status → (result ≡ 5) ⊎ (result ≡ status)
  due_if_gateway file store output doors links ends status (inl d) = due_to_gateway file port count store output doors links ended faults result status ends concludes d.3
  due_if_gateway file store output doors links ends status (inr d) = absurd (d.0 port count numbers)

  pub runs_gateway : {F O D L : Type 0} (file : Text) (store : Lent F StoreView) (output : Lent O SinkView) (doors : Lent D DoorsSeen) (links : Lent L View)
      → HasEnding (GatewayServed file port count store output doors links) (GatewayFails file port count store output doors links) ended → HasRejectedNoneTold (after links)
      → RunsGateway file port_word count_word output faults store doors links result
  runs_gateway file store output doors links ends none =
      inl (port, count, numbers, (ends_as (GatewayServed file port count store output doors links) (GatewayFails file port count store output doors links) ended faults result ends concludes, none))

pub due_if_ask : {I O E L : Type 0} (host port_word : Text) (port : ℕ) (input : Lent I SourceView) (output : Lent O SinkView) (faults : Lent E SinkView) (links : Lent L View) (ended : Result (Unit {0}) Failure) (result : ℕ)
    → IsAddress host port_word port → HasEnding (Asked host port input output links) (AskFails host port input output links) ended → Concludes ended faults result
    → (status : ℕ) → AskDue host port_word input output links status → (result ≡ 5) ⊎ (result ≡ status)
due_if_ask host port_word port input output faults links ended result address ends concludes status (inl d) = due_to_ask host port input output links ended faults result status ends concludes d.2
due_if_ask host port_word port input output faults links ended result address ends concludes status (inr d) = absurd (d.0 port address)

-- what is due to the words is due to the command that they name
pub due_to_named : {I O E F D L : Type 0} (o : Outside I O E F D L) (status : ℕ) (named : Option Command) (command : Command) → named ≡ Some command → IsDue named o status → IsDue (Some command) o status
due_to_named o status named command is due = subst (λ (n : Option Command). IsDue n o status) is due
