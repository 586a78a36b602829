use Rattle.csv.specs.Records.{fields_of}
use Rattle.ojp_feed_lines.proofs.CauseFacts.{head_lacks}
use Rattle.ojp_feed_lines.proofs.table.Table.needed.Goals as goal

pub returns-in-None-clause-why : goal.returns-in-None-clause-why
returns-in-None-clause-why g c =
    λ file needed. head_lacks file c.args.column (fields_of c.args.self.now.row) c.refused.result c.refused.ensures.reason (c.place.ensures.none c.in-None.is) needed
