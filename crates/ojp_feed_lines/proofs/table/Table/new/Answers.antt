use Rattle.std.proofs.Common.{◌∙◌}
use Rattle.ojp_feed_lines.proofs.ReadFacts.{read_nothing}
use Rattle.ojp_feed_lines.proofs.table.Table.new.Goals as goal

pub returns-clause-read : goal.returns-clause-read
returns-clause-read g c =
    let made = c.from_reader-rows.ensures in
    let set = c.has_headers.ensures in
    read_nothing g.F.Read.remaining c.from_reader-rows.result _
    (rw set at made.config ∙ c.new.ensures.config) (rw set at made.trim ∙ c.new.ensures.trim) (rw set at made.flexible ∙ c.new.ensures.flexible)
    (rw set at made.has_headers) made.headers made.expected made.state made.source
