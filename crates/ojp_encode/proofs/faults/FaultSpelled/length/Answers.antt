use Rattle.std.proofs.Common.{length, ap, arith}
use Rattle.ojp_grammar.specs.Items.{text}
use Rattle.ojp_grammar.specs.Grammar.{FAULT}
use Rattle.ojp_grammar.specs.Documents.{fault_said}
use Rattle.ojp_values.specs.declared.replies.Fault.{Fault}
use Rattle.ojp_values.specs.declared.replies.Fault.TheVariants as faults
use Rattle.ojp_encode.specs.Writing.{spelling}
use Rattle.ojp_encode.proofs.Sizes.{sized}
use Rattle.ojp_encode.proofs.faults.FaultSpelled.length.Goals as goal

pub returns-in-SameStop-clause-value : goal.returns-in-SameStop-clause-value
unfolding text
returns-in-SameStop-clause-value c = omega (arith, ap (λ (f : Fault). length (spelling FAULT (fault_said f))) c.in-SameStop.is, sized FAULT (fault_said (faults.SameStop c.in-SameStop.stop)))

pub returns-in-StopUnknown-clause-value : goal.returns-in-StopUnknown-clause-value
unfolding text
returns-in-StopUnknown-clause-value c = omega (arith, ap (λ (f : Fault). length (spelling FAULT (fault_said f))) c.in-StopUnknown.is, sized FAULT (fault_said (faults.StopUnknown c.in-StopUnknown.stop)))

pub returns-in-NoTrip-clause-value : goal.returns-in-NoTrip-clause-value
unfolding text
returns-in-NoTrip-clause-value c = omega (arith, ap (λ (f : Fault). length (spelling FAULT (fault_said f))) c.in-NoTrip.is, sized FAULT (fault_said (faults.NoTrip c.in-NoTrip.stop)))

pub returns-in-RegionFailed-clause-value : goal.returns-in-RegionFailed-clause-value
unfolding text
returns-in-RegionFailed-clause-value c = omega (arith, ap (λ (f : Fault). length (spelling FAULT (fault_said f))) c.in-RegionFailed.is, sized FAULT (fault_said (faults.RegionFailed c.in-RegionFailed.code)))

pub returns-in-NotServed-clause-value : goal.returns-in-NotServed-clause-value
unfolding text
returns-in-NotServed-clause-value c = omega (arith, ap (λ (f : Fault). length (spelling FAULT (fault_said f))) c.in-NotServed.is, sized FAULT (fault_said faults.NotServed))
