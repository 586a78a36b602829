use Rattle.std.proofs.Common.{sym}
use Rattle.ojp_grammar.specs.Steps.{syntax_of}
use Rattle.ojp_grammar.proofs.Cutting.{cut_field}
use Rattle.ojp_grammar.proofs.machine.cut_at.Goals as goal

pub returns-in-Some : goal.returns-in-Some
returns-in-Some c =
    cut_field (syntax_of c.args.shape.now) c.args.bytes.now c.in-Some.field-0 (sym c.in-Some.ensures) (rw c.in-Truncated.is at c.requires)
