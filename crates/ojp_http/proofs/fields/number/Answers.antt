use Rattle.ojp_http.proofs.FieldFacts.{number_over}
use Rattle.ojp_http.proofs.fields.number.Goals as goal

pub returns-in-None : goal.returns-in-None
returns-in-None c = number_over _ _ _ _ _ c.loop-digit-test.true c.loop-digit.invariant c.in-None.ensures c.ranges.most.fits
