use Rattle.ojp_values.proofs.StopParts as stops
use Rattle.ojp_values.proofs.fields.stops_have_parts.Goals as goal

pub returns : goal.returns
returns c = stops.stops_have_parts
