-- The places of the columns of each file in its head line.
use Rattle.std.specs.Prelude.{ℕ, ◌<◌, List, Some, get_or}
use Rattle.ojp_feed_lines.specs.Columns.{column_name}
use Rattle.ojp_feed_lines.specs.Rows.{IsPlace, Record}
use Rattle.ojp_feed_lines.specs.declared.columns.Column.TheVariants as columns
use Rattle.ojp_feed_lines.specs.declared.frequencies.FrequencyColumns.{FrequencyColumns}
use Rattle.ojp_feed_lines.specs.declared.services.DatedColumns.{DatedColumns}
use Rattle.ojp_feed_lines.specs.declared.services.WeeklyColumns.{WeeklyColumns}
use Rattle.ojp_feed_lines.specs.declared.services.TheConstants.{WEEKDAYS}
use Rattle.ojp_feed_lines.specs.declared.stop_times.CallColumns.{CallColumns}
use Rattle.ojp_feed_lines.specs.declared.stops.StopColumns.{StopColumns}
use Rattle.ojp_feed_lines.specs.declared.transfers.TransferColumns.{TransferColumns}

pub record StopPlaces (c : StopColumns) (head : Record) : Type 0 where
  pub id : IsPlace head (column_name columns.StopId) (Some c.id)
  pub kind : IsPlace head (column_name columns.LocationType) c.kind

pub record FrequencyPlaces (c : FrequencyColumns) (head : Record) : Type 0 where
  pub start : IsPlace head (column_name columns.StartTime) (Some c.start)
  pub end : IsPlace head (column_name columns.EndTime) (Some c.end)
  pub headway : IsPlace head (column_name columns.HeadwaySecs) (Some c.headway)
  pub exact : IsPlace head (column_name columns.ExactTimes) c.exact

pub record TransferPlaces (c : TransferColumns) (head : Record) : Type 0 where
  pub kind : IsPlace head (column_name columns.TransferType) c.kind
  pub seconds : IsPlace head (column_name columns.MinTransferTime) c.seconds

pub record CallPlaces (c : CallColumns) (head : Record) : Type 0 where
  pub sequence : IsPlace head (column_name columns.StopSequence) (Some c.sequence)
  pub arrival : IsPlace head (column_name columns.ArrivalTime) (Some c.arrival)
  pub departure : IsPlace head (column_name columns.DepartureTime) (Some c.departure)
  pub boarding : IsPlace head (column_name columns.PickupType) c.boarding
  pub alighting : IsPlace head (column_name columns.DropOffType) c.alighting

-- the places of the first of the weekdays, Monday first
abbrev pub WeekdayPlaces : List ℕ → ℕ → Record → Type 0
WeekdayPlaces weekdays count head =
    (day : ℕ) → day < count → IsPlace head (column_name (get_or WEEKDAYS day columns.Monday)) (Some (get_or weekdays day 0))

pub record WeeklyPlaces (c : WeeklyColumns) (head : Record) : Type 0 where
  pub weekdays : WeekdayPlaces c.weekdays 7 head
  pub id : IsPlace head (column_name columns.ServiceId) (Some c.id)
  pub first : IsPlace head (column_name columns.StartDate) (Some c.first)
  pub last : IsPlace head (column_name columns.EndDate) (Some c.last)

pub record DatedPlaces (c : DatedColumns) (head : Record) : Type 0 where
  pub id : IsPlace head (column_name columns.ServiceId) (Some c.id)
  pub date : IsPlace head (column_name columns.Date) (Some c.date)
  pub kind : IsPlace head (column_name columns.ExceptionType) (Some c.kind)
