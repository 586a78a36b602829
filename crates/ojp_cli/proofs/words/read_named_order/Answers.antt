use Rattle.std.proofs.Common.{◌∙◌, arith}
use Rattle.ojp_cli.proofs.WordFacts.{no_order}
use Rattle.ojp_cli.proofs.words.read_named_order.Goals as goal

pub returns-else-order-le-LAST_ORDER : goal.returns-else-order-le-LAST_ORDER
returns-else-order-le-LAST_ORDER c order (low, is) =
    no_order c.args.word.now c.in-Some.order order (omega (arith, c.if-order-le-LAST_ORDER.false)) c.in-Some.ensures.0 (c.in-Some.ensures.1 ∙ c.as_bytes.ensures.value) low is
