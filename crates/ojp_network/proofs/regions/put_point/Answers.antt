use Rattle.std.proofs.Common.{◌≡◌, ℕ, ◌+◌, ◌*◌, ◌++◌, OnOk, refl, ◌∙◌, ap, subst, append_assoc}
use Rattle.std.specs.Prelude.{codes}
use Rattle.ojp_values.specs.Texts.{Text}
use Rattle.ojp_network.specs.Draws.{state_after}
use Rattle.ojp_network.specs.Regions.{region_code, shared_neighbour, shared_place, shared_stop, text_of_neighbour, text_of_place}
use Rattle.ojp_network.proofs.DrawFacts.{drawn_at, state_first, state_next}
use Rattle.ojp_network.proofs.PlaceFacts.{neighbour_text_is, place_text_is}
use Rattle.ojp_network.proofs.ResultFacts.{always}
use Rattle.ojp_network.proofs.regions.put_point.Goals as goal

behind_one : (c : goal.After-put_neighbour) → c.below.new.self.state ≡ state_after c.args.draws.now.state 1
behind_one c = let z = c.args.draws.now.state in state_next z 0 1 z c.below.new.self.state (state_first z) c.below.ensures.next refl

pub returns-clause-text : goal.returns-clause-text
returns-clause-text c =
    let z = c.args.draws.now.state in
    let old = c.args.out.now.items in
    let first = place_text_is (codes "exchange") _ (shared_stop c.args.point) _ _ _ _ c.shared_stop-stop.ensures
    (ap (λ (d : ℕ). 60 * (1 + d)) (c.below.ensures.value ∙ drawn_at z 0 z 5 (state_first z))) c.point_name.ensures in
    let second = neighbour_text_is _ (shared_stop c.args.point) _ _ _ _ c.shared_stop-stop.ensures (c.region_code-code.ensures ∙ ap (λ (r : ℕ). region_code r) c.joined_region.ensures)
    (ap (λ (d : ℕ). 60 * (1 + d)) (c.below-2.ensures.value ∙ drawn_at z 1 c.below.new.self.state 10 (behind_one c))) in
    let left = text_of_place (codes "exchange") (shared_place z c.args.point) in
    let right = text_of_neighbour (shared_stop c.args.point) (shared_neighbour z c.args.region c.args.point) in
    subst (λ (t : Text). OnOk c.put_neighbour.result (c.put_neighbour.new.out.items ≡ t))
    (ap (λ (t : Text). c.put_place.new.out.items ++ t) second ∙ (ap (λ (t : Text). t ++ right) (c.in_ok-put_place.ensures ∙ ap (λ (t : Text). old ++ t) first) ∙ append_assoc old left right))
    c.put_neighbour.ensures

pub returns-clause-drawn : goal.returns-clause-drawn
returns-clause-drawn c =
    let z = c.args.draws.now.state in
    always c.put_neighbour.result (c.below-2.new.self.state ≡ state_after z 2) (state_next z 1 2 c.below.new.self.state c.below-2.new.self.state (behind_one c) c.below-2.ensures.next refl)
