-- How the top call that may wait runs the command of its words: what was done, with its status and its line.
use Rattle.std.specs.Prelude.{◌≡◌, ℕ, [], ◌⊎◌, Option, Some, None}
use Rattle.ojp_values.specs.Texts.{Text}
use Rattle.ojp_outside.specs.Seen.{SourceView, SinkView, StoreView}
use Rattle.ojp_links.specs.Seen.{View}
use Rattle.ojp_steps.specs.Lent.{Lent, after, IsUnused, Tells}
use Rattle.ojp_steps.specs.Endings.{EndsAs}
use Rattle.ojp_steps.specs.Failures.{status_of, text_of, line_of}
use Rattle.ojp_steps.specs.Serving.{DoorsSeen}
use Rattle.ojp_steps.specs.declared.failures.Failure.TheVariants as failures
use Rattle.ojp_online.specs.Words.{Command, Region, Gateway, Ask, AreNumbers, IsAddress}
use Rattle.ojp_online.specs.Added.{HasRejectedNoneServed, HasRejectedNoneTold}
use Rattle.ojp_online.specs.Regions.{RegionServed, RegionFails, RegionIsDue}
use Rattle.ojp_online.specs.Gateways.{GatewayServed, GatewayFails, GatewayIsDue}
use Rattle.ojp_online.specs.Asks.{Asked, AskFails, AskIsDue}

-- what a call was lent: its streams, its store, its doors and its links
pub record Outside (I O E F D L : Type 0) : Type 0 where
  pub input : Lent I SourceView
  pub output : Lent O SinkView
  pub faults : Lent E SinkView
  pub store : Lent F StoreView
  pub doors : Lent D DoorsSeen
  pub links : Lent L View

abbrev pub outside : {I O E F D L : Type 0} → Lent I SourceView → Lent O SinkView → Lent E SinkView → Lent F StoreView → Lent D DoorsSeen → Lent L View → Outside I O E F D L
outside input output faults store doors links = record { input = input; output = output; faults = faults; store = store; doors = doors; links = links }

-- a command runs by the numbers that its words name, or its words are refused
abbrev pub ByNumbers : Text → Option Text → (ℕ → Option ℕ → Type 0) → Type 0 → Type 0
ByNumbers port_word count_word Runs Refuses =
    ((port : ℕ) × (count : Option ℕ) × AreNumbers port_word count_word port count × Runs port count)
    ⊎ (((port : ℕ) (count : Option ℕ) → AreNumbers port_word count_word port count → ⊥) × Refuses)

-- the same, by the address that they name
abbrev pub ByAddress : Text → Text → (ℕ → Type 0) → Type 0 → Type 0
ByAddress host port_word Runs Refuses =
    ((port : ℕ) × IsAddress host port_word port × Runs port) ⊎ (((port : ℕ) → IsAddress host port_word port → ⊥) × Refuses)

-- the status of words that are refused
abbrev pub IsWordsStatus : ℕ → Type 0
IsWordsStatus status = status ≡ status_of failures.Words

-- the words were refused, and their line was told
abbrev pub RefusesWords : {E : Type 0} → Lent E SinkView → ℕ → Type 0
RefusesWords faults status = IsWordsStatus status × Tells faults (line_of (text_of failures.Words))

-- how `region` runs
abbrev pub RunsRegion : {O E F D : Type 0} → Text → Text → Option Text → Lent O SinkView → Lent E SinkView → Lent F StoreView → Lent D DoorsSeen → ℕ → Type 0
RunsRegion file port_word count_word output faults store doors status =
    ByNumbers port_word count_word (λ port count. EndsAs [] (RegionServed file port count store output doors) (RegionFails file port count store output doors) faults status)
    (RefusesWords faults status × IsUnused output × IsUnused store × IsUnused doors)

-- how `gateway` runs; where timetables are told, nothing is rejected, whatever its end
abbrev pub RunsGateway : {O E F D L : Type 0} → Text → Text → Option Text → Lent O SinkView → Lent E SinkView → Lent F StoreView → Lent D DoorsSeen → Lent L View → ℕ → Type 0
RunsGateway file port_word count_word output faults store doors links status =
    ByNumbers port_word count_word
    (λ port count. EndsAs [] (GatewayServed file port count store output doors links) (GatewayFails file port count store output doors links) faults status × HasRejectedNoneTold (after links))
    (RefusesWords faults status × IsUnused output × IsUnused store × IsUnused doors × IsUnused links)

-- how `ask` runs; where servers are told, nothing is rejected, whatever its end
abbrev pub RunsAsk : {I O E L : Type 0} → Text → Text → Lent I SourceView → Lent O SinkView → Lent E SinkView → Lent L View → ℕ → Type 0
RunsAsk host port_word input output faults links status =
    ByAddress host port_word (λ port. EndsAs [] (Asked host port input output links) (AskFails host port input output links) faults status × HasRejectedNoneServed (after links))
    (RefusesWords faults status × IsUnused input × IsUnused output × IsUnused links)

-- what is due to `region`
abbrev pub RegionDue : {O F D : Type 0} → Text → Text → Option Text → Lent O SinkView → Lent F StoreView → Lent D DoorsSeen → ℕ → Type 0
RegionDue file port_word count_word output store doors status =
    ByNumbers port_word count_word (λ port count. RegionIsDue file store output doors status) (IsWordsStatus status)

-- what is due to `gateway`
abbrev pub GatewayDue : {O F D L : Type 0} → Text → Text → Option Text → Lent O SinkView → Lent F StoreView → Lent D DoorsSeen → Lent L View → ℕ → Type 0
GatewayDue file port_word count_word output store doors links status =
    ByNumbers port_word count_word (λ port count. GatewayIsDue file store output doors links status) (IsWordsStatus status)

-- what is due to `ask`
abbrev pub AskDue : {I O L : Type 0} → Text → Text → Lent I SourceView → Lent O SinkView → Lent L View → ℕ → Type 0
AskDue host port_word input output links status = ByAddress host port_word (λ port. AskIsDue input output links status) (IsWordsStatus status)

module _ {I O E F D L : Type 0} where
  -- how the command of the words runs, and what it has nothing to do with
  abbrev pub RunsAs : Option Command → Outside I O E F D L → ℕ → Type 0
  RunsAs None o status = RefusesWords o.faults status × IsUnused o.input × IsUnused o.output × IsUnused o.store × IsUnused o.doors × IsUnused o.links
  RunsAs (Some (Region file port_word count_word)) o status = RunsRegion file port_word count_word o.output o.faults o.store o.doors status × IsUnused o.input × IsUnused o.links
  RunsAs (Some (Gateway file port_word count_word)) o status = RunsGateway file port_word count_word o.output o.faults o.store o.doors o.links status × IsUnused o.input
  RunsAs (Some (Ask host port_word)) o status = RunsAsk host port_word o.input o.output o.faults o.links status × IsUnused o.store × IsUnused o.doors

  -- the status that is due to the command of the words
  abbrev pub IsDue : Option Command → Outside I O E F D L → ℕ → Type 0
  IsDue None o status = IsWordsStatus status
  IsDue (Some (Region file port_word count_word)) o status = RegionDue file port_word count_word o.output o.store o.doors status
  IsDue (Some (Gateway file port_word count_word)) o status = GatewayDue file port_word count_word o.output o.store o.doors o.links status
  IsDue (Some (Ask host port_word)) o status = AskDue host port_word o.input o.output o.links status
