use Rattle.std.proofs.Common.{inl, sym, subst}
use Rattle.ojp_grammar.specs.Answering.{SpellsDelivery}
use Rattle.ojp_bodies.proofs.requests.deliver.Goals as goal

pub returns-in-Ok : goal.returns-in-Ok
returns-in-Ok g c = inl (c.written.result.now, subst (SpellsDelivery c.args.delivery) (sym c.written.ensures) c.in-Ok.ensures, c.respond.ensures)
