-- An ask that is put through the gateway.
use Rattle.std.specs.Prelude.{◌≡◌, ◌≤◌, ℕ, List, Option, IfSome}
use Rattle.ojp_values.specs.Texts.{Text}
use Rattle.ojp_values.specs.declared.asks.Ask.{Ask}
use Rattle.ojp_values.specs.declared.asks.TripAsk.{TripAsk}
use Rattle.ojp_timetable.specs.Tables.{Timetable}
use Rattle.ojp_grammar.specs.Answering.{SpellsAsk}
use Rattle.ojp_http.specs.Laws.{GivesOnly}
use Rattle.ojp_network.specs.declared.shapes.LoadAsk.{LoadAsk}
use Rattle.ojp_load.specs.Loads.{AreTold, IsTold, seconds_of, trips_of}

-- the bytes are a request whose body, and nothing else, is the document of the ask
pub record IsRequestOf (ask : Ask) (bytes : Text) : Type 0 where
  pub body : Text
  pub spells : SpellsAsk ask body
  pub gives : GivesOnly bytes body

-- what is told of the ask, where a trip arrives within a day of its start
pub record IsToldOf (tables : List Timetable) (ask : TripAsk) (told : Option ℕ) : Type 0 where
  pub told_of : IsTold tables ask told
  pub in_day : IfSome told (λ seconds. seconds ≤ 86400)

-- so many of the asks have a united journey, and these arrive so many seconds after their starts
pub record Counts (tables : List Timetable) (asks : List LoadAsk) (trips seconds : ℕ) : Type 0 where
  pub told : List (Option ℕ)
  pub told_of : AreTold tables asks told
  pub trips_are : trips ≡ trips_of told
  pub seconds_are : seconds ≡ seconds_of told
