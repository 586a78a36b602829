-- What `load` tells of a network.
use Rattle.std.specs.Prelude.{◌≡◌, ℕ, ◌+◌, ◌-◌, List, [], ◌∷◌, ◌++◌, Option, Some, None, codes}
use Rattle.std.specs.Fmt.{decimal}
use Rattle.ojp_outside.specs.Causes.{Rests}
use Rattle.ojp_outside.specs.Seen.{SinkView}
use Rattle.ojp_values.specs.Lists.{Pairwise}
use Rattle.ojp_values.specs.Texts.{Text}
use Rattle.ojp_values.specs.declared.asks.TripAsk.{TripAsk}
use Rattle.ojp_timetable.specs.GatewayAnswers.{HasNoJourney, IsEarliest}
use Rattle.ojp_timetable.specs.Tables.{Timetable}
use Rattle.ojp_timetable.specs.TableText.{IsText}
use Rattle.ojp_network.specs.Networks.{asks, files}
use Rattle.ojp_network.specs.declared.shapes.LoadAsk.{LoadAsk}
use Rattle.ojp_steps.specs.Lent.{Lent, IsUnused, Gains, GainsInPart, before, after}
use Rattle.ojp_steps.specs.declared.failures.Failure.{Failure}
use Rattle.ojp_steps.specs.declared.failures.Failure.TheVariants.{Memory, Output}

-- what is told of an ask: how many seconds after its start the earliest united journey arrives, or that there is none
abbrev pub IsTold : List Timetable → TripAsk → Option ℕ → Type 0
IsTold tables ask None = HasNoJourney tables ask
IsTold tables ask (Some seconds) = (arrival : ℕ) × IsEarliest tables ask arrival × (seconds ≡ arrival - ask.start)

-- what is told of each ask
abbrev pub AreTold : List Timetable → List LoadAsk → List (Option ℕ) → Type 0
AreTold tables asks told = Pairwise (λ (load : LoadAsk) (told : Option ℕ). IsTold tables load.ask told) asks told

-- how many of the asks have a united journey
abbrev pub trips_of : List (Option ℕ) → ℕ
trips_of [] = 0
trips_of (None ∷ told) = trips_of told
trips_of (Some seconds ∷ told) = 1 + trips_of told

-- the sum of their seconds
abbrev pub seconds_of : List (Option ℕ) → ℕ
seconds_of [] = 0
seconds_of (None ∷ told) = seconds_of told
seconds_of (Some seconds ∷ told) = seconds + seconds_of told

-- so many asks of the network of the number have a united journey, and these arrive so many seconds after their starts, by the
-- timetables that its files are the texts of
pub record IsSummary (number trips seconds : ℕ) : Type 0 where
  pub tables : List Timetable
  pub texts : Pairwise IsText (files number) tables
  pub told : List (Option ℕ)
  pub told_of : AreTold tables (asks number) told
  pub trips_are : trips ≡ trips_of told
  pub seconds_are : seconds ≡ seconds_of told

-- the four lines
abbrev pub summary_text : ℕ → ℕ → Text
summary_text trips seconds =
    codes "requests 200\ntrips " ++ decimal trips ++ codes "\nno trips " ++ decimal (200 - trips) ++ codes "\nseconds " ++ decimal seconds ++ codes "\n"

-- the output gained just the lines of the network of the number
pub record Loaded {O : Type 0} (number : ℕ) (output : Lent O SinkView) : Type 0 where
  pub trips : ℕ
  pub seconds : ℕ
  pub summary : IsSummary number trips seconds
  pub gained : Gains output (summary_text trips seconds)

-- a write failed, and the output gained a front of those lines
pub record LoadedInPart {O : Type 0} (number : ℕ) (output : Lent O SinkView) : Type 0 where
  pub trips : ℕ
  pub seconds : ℕ
  pub summary : IsSummary number trips seconds
  pub gained : GainsInPart output (summary_text trips seconds)

-- why `load` fails, and what it leaves alone then
abbrev pub LoadFails : {O : Type 0} → ℕ → Lent O SinkView → Failure → Type 0
LoadFails number output Output = LoadedInPart number output
LoadFails number output Memory = IsUnused output
LoadFails number output failure = ⊥

-- the status that is due where no write failed
abbrev pub LoadIsDue : {O : Type 0} → Lent O SinkView → ℕ → Type 0
LoadIsDue output status = Rests (before output).faults (after output).faults × (status ≡ 0)
