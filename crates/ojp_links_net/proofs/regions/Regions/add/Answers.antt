use Rattle.std.proofs.Common.{ℕ, List, [], ◌∷◌, ◌++◌, ap, subst, sym, ◌∙◌}
use Rattle.ojp_links_net.specs.Regions.{IsNewAmong, RegionsView}
use Rattle.ojp_links_net.specs.declared.regions.Endpoint.{Endpoint}
use Rattle.ojp_links_net.proofs.RegionFacts.{counted_more}
use Rattle.ojp_links_net.proofs.regions.Regions.add.Goals as goal

pub invariant_of-self-2 : goal.invariant_of-self-2
invariant_of-self-2 c =
    let r = c.self.inside in
    let n = record r { places = c.push_reserved.new.self; faults = c.push_reserved-2.new.self; rejections = c.push_reserved-3.new.self } in
    let place : Endpoint = record { code = c.args.code; host = c.in-Ok.host; port = c.args.port } in
    counted_more r n place 0 0 c.self.invariant
    (c.push_reserved.ensures.items ∙ ap (λ (ps : List Endpoint). ps ++ place ∷ []) c.make_room.ensures.places)
    (c.push_reserved-2.ensures.items ∙ ap (λ (ns : List ℕ). ns ++ 0 ∷ []) c.make_room.ensures.faults)
    (c.push_reserved-3.ensures.items ∙ ap (λ (ns : List ℕ). ns ++ 0 ∷ []) c.make_room.ensures.rejections)
    (subst (λ (v : RegionsView). IsNewAmong v.stations c.args.code) (sym c.self.view_is) c.requires)
