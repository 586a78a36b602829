use Rattle.std.proofs.KnownBytes.{Consumes-trans}
use Rattle.ojp_outside.proofs.reading.read_all.Goals as goal

pub returns-in-Err-extend_from_slice-clause-lost : goal.returns-in-Err-extend_from_slice-clause-lost
returns-in-Err-extend_from_slice-clause-lost g c = (_, Consumes-trans _ _ _ _ _ c.reading.invariant.0.consumed c.in-Ok.ensures.bytes.0)
