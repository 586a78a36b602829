-- What is answered where the machine stops.
use Rattle.ojp_http.specs.declared.refusal.HttpRefusal.{HttpRefusal}
use Rattle.ojp_http.specs.declared.refusal.HttpRefusal.TheVariants as refusals
use Rattle.ojp_http.specs.declared.machine.Stop.{Stop}
use Rattle.ojp_http.specs.declared.machine.Stop.TheVariants.{Refused, NoMemory}
use Rattle.ojp_http.specs.Asking.{http_refusal}

abbrev pub refusal_by : Stop → HttpRefusal
refusal_by (Refused e) = http_refusal e
refusal_by NoMemory = refusals.NoMemory
