use Rattle.std.proofs.Common.{◌≡◌, ap, arith, length, map, sym, ◌∙◌}
use Rattle.std.proofs.lemmas.List.{length-map}
use Rattle.ojp_links_mem.specs.Regions.{station_of}
use Rattle.ojp_links_mem.specs.Memory.{MemView}
use Rattle.ojp_links_mem.proofs.memory.MemLinksLinks.regions.Goals as goal

pub returns : goal.returns
returns c =
    let m = c.self.inside in
    let here : c.len.result ≡ length m.regions.items = omega (arith, c.len.ensures, m.regions.ok.0) in
    here ∙ (sym (length-map m.regions.items station_of) ∙ ap (λ (v : MemView). length (map station_of v.regions)) c.self.view_is)
