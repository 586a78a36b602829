use Rattle.std.proofs.Common.{sym, ◌∙◌, ap}
use Rattle.std.specs.Ordering.{is_lt}
use Rattle.ojp_exchange.proofs.OrderFacts.{other_stop, same_stop}
use Rattle.ojp_exchange.proofs.places.order_of.Goals as goal

pub returns-in-Equal : goal.returns-in-Equal
returns-in-Equal c =
    ap is_lt c.cmp-in-Equal.ensures ∙ same_stop c.args.point.now c.args.other.now (sym c.cmp.ensures ∙ c.in-Equal.is)

pub returns-in_default : goal.returns-in_default
returns-in_default c =
    ap is_lt c.cmp.ensures ∙ other_stop c.args.point.now c.args.other.now (λ e. c.in_default.not-Equal (c.cmp.ensures ∙ e))
