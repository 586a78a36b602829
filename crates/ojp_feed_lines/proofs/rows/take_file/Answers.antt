use Rattle.std.proofs.Common.{[], Err, ap, ◌∙◌}
use Rattle.ojp_feed_lines.specs.Tables.{HasRead}
use Rattle.ojp_feed_lines.proofs.Explained.{long_explained, needs_apart, opened_explained}
use Rattle.ojp_feed_lines.proofs.rows.take_file.Goals as goal

pub returns-in-Err-TooLong-clause-refused : goal.returns-in-Err-TooLong-clause-refused
returns-in-Err-TooLong-clause-refused g c =
    λ none.
    long_explained (g.D.Folder.seen c.args.folder.now).contents c.args.file c.too_long.result
    (needs_apart c.args.file c.args.key c.requires.key) (c.open.ensures.too_long (c.in-Err-TooLong.is ∙ ap Err c.in-Err-TooLong.field-0-is)) c.too_long.ensures.table c.too_long.ensures.limit

pub returns-in-Err-clause-refused : goal.returns-in-Err-clause-refused
returns-in-Err-clause-refused g c =
    λ none.
    opened_explained (g.D.Folder.seen c.args.folder.now).contents c.args.file (g.D.File.Read.remaining c.in-Ok.from)
    (λ text. HasRead g.D.File.Read.remaining c.new-table.result.rows text []) c.in-Err.refused (needs_apart c.args.file c.args.key c.requires.key) c.in-Ok.ensures.opened c.new-table.ensures.read
    (λ text read. rw c.requires.file (c.in-Err.ensures.why text read none)) (rw c.new-table.ensures.file at c.in-Err.ensures.refused)
