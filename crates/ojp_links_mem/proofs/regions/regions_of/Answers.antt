use Rattle.std.proofs.Common.{◌≡◌, ℕ, ◌+◌, ◌++◌, ◌∷◌, [], List, None, Some, ap, arith, length, sym, take, ◌∙◌}
use Rattle.std.proofs.lemmas.List.{take_all, take_more}
use Rattle.ojp_values.specs.Texts.{Text}
use Rattle.ojp_timetable.specs.Tables.{Timetable}
use Rattle.ojp_links_mem.specs.Regions.{region_at, regions_from}
use Rattle.ojp_links_mem.specs.declared.regions.Region.{Region}
use Rattle.ojp_links_mem.proofs.RegionFacts.{from_length, from_more}
use Rattle.ojp_links_mem.proofs.regions.regions_of.Goals as goal

pub servers-preserved : goal.servers-preserved
servers-preserved c =
    let all = c.args.servers.now in
    let i = c.servers.server-index in
    let server = c.server-item.result in
    let done : take (i + 1) all ≡ take i all ++ server ∷ [] =
    take_more all i server c.servers-test.true ∙ ap (λ (t : Timetable). take i all ++ t ∷ []) (sym c.server-item.is) in
    let count : length c.servers.regions.items ≡ length (take i all) = ap (λ (rs : List Region). length rs) c.servers.invariant ∙ from_length 0 (take i all) in
    let n : c.len.result ≡ 0 + length (take i all) = omega (arith, c.len.ensures, c.servers.regions.ok.0, count) in
    let region : ℕ → Text → Region = λ k code. record { code = code; address = None; table = Some k; faults = 0; rejections = 0 } in
    let is : region c.len.result c.code.result ≡ region_at (0 + length (take i all)) server = ap (λ (t : Text). region c.len.result t) c.code.ensures ∙ ap (λ (k : ℕ). region_at k server) n in
    c.in-Ok.ensures.items
    ∙ (ap (λ (rs : List Region). rs ++ region c.len.result c.code.result ∷ []) c.servers.invariant
    ∙ (ap (λ (r : Region). regions_from 0 (take i all) ++ r ∷ []) is ∙ (sym (from_more 0 (take i all) server) ∙ ap (regions_from 0) (sym done))))

pub returns : goal.returns
returns c = c.servers.invariant ∙ ap (regions_from 0) (take_all c.servers.server-index c.args.servers.now (omega (arith, c.servers-test.false)))
