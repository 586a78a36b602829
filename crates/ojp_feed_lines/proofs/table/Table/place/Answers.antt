use Rattle.std.proofs.Common.{arith}
use Rattle.csv.specs.Records.{fields_of}
use Rattle.ojp_feed_lines.specs.Columns.{column_name}
use Rattle.ojp_feed_lines.proofs.PlaceFacts.{lacks_name, under_first, under_none}
use Rattle.ojp_feed_lines.proofs.table.Table.place.Goals as goal

pub returns-then-is_named-clause-under : goal.returns-then-is_named-clause-under
returns-then-is_named-clause-under g c =
    under_first (fields_of c.args.self.now.row) (column_name c.args.column) c.loop-place.place (c.is_named.ensures.0 c.if-is_named.true) c.loop-place.invariant

pub returns-clause-under : goal.returns-clause-under
returns-clause-under g c =
    under_none (fields_of c.args.self.now.row) (column_name c.args.column)
    (λ k below. c.loop-place.invariant k (omega (arith, below, c.loop-place-test.false, c.len-place-end.ensures)))

pub returns-clause-none : goal.returns-clause-none
returns-clause-none g c =
    λ is.
    lacks_name (fields_of c.args.self.now.row) (column_name c.args.column)
    (λ k below. c.loop-place.invariant k (omega (arith, below, c.loop-place-test.false, c.len-place-end.ensures)))
