use Rattle.csv.specs.Records.{fields_of}
use Rattle.ojp_feed_lines.specs.Columns.{column_name}
use Rattle.ojp_feed_lines.proofs.PlaceFacts.{LacksBefore}
use Rattle.ojp_feed_lines.proofs.table.Table.place.Given as goal

abbrev pub invariant-loop-place : goal.invariant-loop-place
invariant-loop-place g l = LacksBefore (fields_of l.self.row) (column_name l.column) l.place
