use Rattle.std.proofs.Common.{◌≡◌, length}
use Rattle.csv.specs.Records.{fields_of}
use Rattle.ojp_feed_lines.specs.RowPlaces.{WeekdayPlaces}
use Rattle.ojp_feed_lines.proofs.services.weekday_columns.Given as goal

abbrev pub invariant-loop-day : goal.invariant-loop-day
invariant-loop-day g l = (length l.weekdays ≡ 7) × WeekdayPlaces l.weekdays l.day (fields_of l.table.row)
