use Rattle.std.proofs.Common.{◌≡◌, length, arith}
use Rattle.std.proofs.lemmas.List.{length-map}
use Rattle.ojp_links.specs.Seen.{code_of_station, codes_of}
use Rattle.ojp_turns.proofs.AskFacts.{code_number}
use Rattle.ojp_turns.proofs.asking.region_number.Goals as goal

pub unreachable-requires : goal.unreachable-requires
unreachable-requires g c =
    let codes = codes_of (g.L.Links.seen c.args.links.now).fixed in
    let it = code_number codes c.args.code c.requires in
    let long : length codes ≡ length (g.L.Links.seen c.args.links.now).fixed.stations = length-map (g.L.Links.seen c.args.links.now).fixed.stations code_of_station in
    c.regions.invariant it.0 (omega (arith, it.1, long, c.regions-test.false, c.regions-region-end.ensures)) it.2
