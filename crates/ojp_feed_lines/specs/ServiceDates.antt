-- The dates of services that were taken of calendar_dates.txt.
use Rattle.std.specs.Prelude.{◌≡◌, Contains, List, Some}
use Rattle.ojp_values.specs.Texts.{Text}
use Rattle.ojp_feed_lines.specs.Fields.{compact_day}
use Rattle.ojp_feed_lines.specs.Lines.{IsIdOf}
use Rattle.ojp_feed_lines.specs.Rows.{Record, at_place}
use Rattle.ojp_feed_lines.specs.declared.services.Dated.{Dated}
use Rattle.ojp_feed_lines.specs.declared.services.DatedColumns.{DatedColumns}

-- the row has this day, for the service of this number
pub record IsDateOf (ids : List Text) (c : DatedColumns) (row : Record) (dated : Dated) : Type 0 where
  pub service : IsIdOf ids dated.service (at_place row (Some c.id))
  pub day : at_place row (Some c.date) ≡ compact_day dated.day

-- each of the dates stands in one of the rows
abbrev pub HoldDates : List Text → List Dated → DatedColumns → List Record → Type 0
HoldDates ids dates c rows = (dated : Dated) → Contains dates dated → (row : Record) × Contains rows row × IsDateOf ids c row dated
