use Rattle.std.proofs.Common.{◌≡◌, true, false}
use Rattle.csv.specs.Records.{fields_of}
use Rattle.ojp_feed_lines.proofs.CauseFacts.{read_refused}
use Rattle.ojp_feed_lines.proofs.ReadFacts.{read_all, read_more}
use Rattle.ojp_feed_lines.proofs.table.Table.next.Goals as goal

pub returns-in-Ok-clause-row : goal.returns-in-Ok-clause-row
returns-in-Ok-clause-row g c =
    λ is bytes rows h.
    let found : c.in-Ok.found ≡ true = cc in
    read_more g.F.Read.remaining c.args.self.now.rows c.read_record.new.self bytes rows (fields_of c.read_record.new.row) h
    (rw found at c.in-Ok.ensures.reads h.trim h.ready) c.in-Ok.ensures.flexible (c.in-Ok.ensures.ready h.trim)

pub returns-in-Ok-clause-end : goal.returns-in-Ok-clause-end
returns-in-Ok-clause-end g c =
    λ is bytes rows h.
    let found : c.in-Ok.found ≡ false = cc in
    read_all g.F.Read.remaining c.args.self.now.rows c.read_record.new.self bytes rows (fields_of c.read_record.new.row) h
    (rw found at c.in-Ok.ensures.reads h.trim h.ready)

pub returns-in-Err-clause-why : goal.returns-in-Err-clause-why
returns-in-Err-clause-why g c =
    λ file text rows h.
    read_refused g.F.Read.remaining c.args.self.now.rows c.read_record.new.self text rows file c.into_kind.result c.refusal.result h
    (rw c.into_kind.ensures (c.in-Err.ensures.why h.trim h.ready)) c.refusal.ensures.kind
