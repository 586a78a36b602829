use Rattle.std.proofs.Common.{subst, List, ℕ}
use Rattle.httparse.specs.Grammar.{ReadsChunkLine}
use Rattle.ojp_http.proofs.ChunkFacts.{line_whole}
use Rattle.ojp_http.proofs.machine.line_size.Goals as goal

pub returns-in-Ok-Complete : goal.returns-in-Ok-Complete
returns-in-Ok-Complete c =
    let found = rw c.in-Ok-Complete.field-0-is at c.in-Ok-Complete.ensures.complete in
    (found.0, subst (λ (l : List ℕ). ReadsChunkLine c.args.line.now found.0 l) (line_whole c.args.line.now found.0 _ c.requires found.1.reads) found.1.reads, found.1.size_is)
