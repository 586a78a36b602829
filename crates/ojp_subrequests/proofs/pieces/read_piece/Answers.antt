use Rattle.std.proofs.Common.{◌≡◌}
use Rattle.std.specs.Prelude.{Ok, Err}
use Rattle.ojp_decode.specs.declared.fed.Fed.TheVariants as feds
use Rattle.ojp_subrequests.proofs.PieceFacts.{read_as, reads_on, reads_past, reads_whole}
use Rattle.ojp_subrequests.proofs.pieces.read_piece.Goals as goal

pub returns-in-Ok-More : goal.returns-in-Ok-More
returns-in-Ok-More c got at =
    let e : c.feed.result ≡ Ok feds.More = cc in
    reads_on c.one_place.ensures c.args.reader.now c.feed.new.self got c.args.piece.now (read_as c.args.reader.now c.feed.new.self c.args.piece.now c.feed.result (Ok feds.More) e c.feed.ensures) at

pub returns-then-used-piece : goal.returns-then-used-piece
returns-then-used-piece c got at more delivery s =
    let used = c.in-Ok-Whole.used in
    let e : c.feed.result ≡ Ok (feds.Whole used) = cc in
    reads_past c.one_spelling.ensures c.args.reader.now c.feed.new.self got c.args.piece.now used (read_as c.args.reader.now c.feed.new.self c.args.piece.now c.feed.result (Ok (feds.Whole used)) e c.feed.ensures) c.if-used-piece.true at more delivery s

pub returns-else-used-piece : goal.returns-else-used-piece
returns-else-used-piece c got at =
    let used = c.in-Ok-Whole.used in
    let e : c.feed.result ≡ Ok (feds.Whole used) = cc in
    reads_whole c.args.reader.now c.feed.new.self got c.args.piece.now used (read_as c.args.reader.now c.feed.new.self c.args.piece.now c.feed.result (Ok (feds.Whole used)) e c.feed.ensures) c.if-used-piece.false at
