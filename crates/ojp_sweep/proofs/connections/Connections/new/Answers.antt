use Rattle.std.proofs.Common.{length, refl, arith}
use Rattle.ojp_sweep.specs.declared.connections.Connections.{Connections}
use Rattle.ojp_sweep.proofs.RowFacts.{is-network}
use Rattle.ojp_sweep.proofs.connections.Connections.new.Goals as goal

pub returns : goal.returns
returns c rows put are =
    let net : Connections = record { sorted = c.sorted.result; services = c.args.services; changes = c.args.changes; walks = c.new.result; firsts = c.in_ok-firsts.firsts } in
    is-network rows (length c.args.changes.items) (length c.args.services.items) are net (c.sorted.ensures rows put)
    c.args.services.items c.args.changes.items refl refl c.new.ensures.items (omega (arith, c.len.ensures, c.in_ok-firsts.ensures.count)) (λ i h. c.in_ok-firsts.ensures.zero i (omega (arith, c.len.ensures))) c.requires.changes refl refl
