-- Asks that a region is sure of.
use Rattle.std.specs.Prelude.{◌≡◌, None, [], ◌∷◌}
use Rattle.ojp_values.specs.declared.asks.Ask.{Ask}
use Rattle.ojp_values.specs.declared.asks.Ask.TheVariants as asks
use Rattle.ojp_timetable.specs.Tables.{Timetable}
use Rattle.ojp_timetable.specs.Answers.{targets_fault}

-- the region answers the ask with no fault but that a stop of an ask for events or a place is unknown
abbrev pub IsSure : Timetable → Ask → Type 0
IsSure table (asks.Trip ask) = targets_fault table ask.origin (ask.target ∷ []) ≡ None
IsSure table (asks.Multi ask) = targets_fault table ask.origin ask.targets ≡ None
IsSure table (asks.Events ask) = Unit {0}
IsSure table (asks.Points ask) = Unit {0}
