use Rattle.std.proofs.Common.{◌≡◌, ◌∙◌, ap, arith}
use Rattle.std.specs.Prelude.{option_map}
use Rattle.std.proofs.lemmas.Option.{same_Some}
use Rattle.ojp_values.proofs.EachFacts.{among_at, read_at}
use Rattle.ojp_timetable.specs.Tables.{Journey}
use Rattle.ojp_scan.proofs.networks.service_at.Goals as goal

pub overflow_cast-result : goal.overflow_cast-result
overflow_cast-result c =
    let table = c.args.table.now in
    let r = read_at table.journeys c.args.index c.requires.within in
    let same : c.service.result ≡ r.0.service = same_Some c.service.result r.0.service (c.service.ensures ∙ ap (option_map (λ (journey : Journey). journey.service)) r.1) in
    let within = c.requires.well.services r.0 (among_at table.journeys c.args.index r.0 r.1) in
    omega (arith, within, same, c.requires.well.few.services_few)

pub returns : goal.returns
returns c journey at = same_Some c.service.result journey.service (c.service.ensures ∙ ap (option_map (λ (journey : Journey). journey.service)) at)
