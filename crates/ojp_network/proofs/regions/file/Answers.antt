use Rattle.std.proofs.Common.{◌≡◌, ℕ, List, [], ◌++◌, ◌∙◌, ap}
use Rattle.std.specs.Prelude.{codes}
use Rattle.std.specs.List.{flat_map}
use Rattle.ojp_lines.specs.Lines.{head_text}
use Rattle.ojp_network.specs.Draws.{state_after}
use Rattle.ojp_network.specs.Regions.{file, higher_point, journeys, lower_point, own_places, point_text, region_code, text_of_journey, text_of_place, text_of_service}
use Rattle.ojp_network.proofs.DrawFacts.{state_sum}
use Rattle.ojp_network.proofs.regions.file.Goals as goal

abbrev zone : List ℕ
zone = codes "+00:00"

-- six parts, one behind another
in_a_row : (a b d e f g o1 o2 o3 o4 o5 o6 : List ℕ) → o1 ≡ [] ++ a → o2 ≡ o1 ++ b → o3 ≡ o2 ++ d → o4 ≡ o3 ++ e → o5 ≡ o4 ++ f → o6 ≡ o5 ++ g
    → o6 ≡ a ++ b ++ d ++ e ++ f ++ g
in_a_row a b d e f g o1 o2 o3 o4 o5 o6 h1 h2 h3 h4 h5 h6 = cc

pub returns-clause-text : goal.returns-clause-text
unfolding file
returns-clause-text c =
    let z = c.args.draws.now.state in
    let region = c.args.region in
    let s30 = c.in_ok-put_own_places.ensures.drawn in
    let s32 = c.in_ok-put_point.ensures.drawn ∙ (ap (λ (s : ℕ). state_after s 2) s30 ∙ state_sum z 30 2) in
    let s34 = c.in_ok-put_point-2.ensures.drawn ∙ (ap (λ (s : ℕ). state_after s 2) s32 ∙ state_sum z 32 2) in
    let low = c.in_ok-put_point.ensures.text
    ∙ ap (λ (t : List ℕ). c.put_own_places.new.out.items ++ t) (ap (λ (s : ℕ). point_text s region c.lower_point.result) s30 ∙ ap (point_text (state_after z 30) region) c.lower_point.ensures) in
    let high = c.in_ok-put_point-2.ensures.text
    ∙ ap (λ (t : List ℕ). c.put_point.new.out.items ++ t) (ap (λ (s : ℕ). point_text s region c.higher_point.result) s32 ∙ ap (point_text (state_after z 32) region) c.higher_point.ensures) in
    let rest = c.in_ok-put_journeys.ensures.text ∙ ap (λ (s : ℕ). c.put_service.new.out.items ++ flat_map text_of_journey (journeys s region)) s34 in
    let first = c.in_ok-put_head.ensures
    ∙ (ap (λ (t : List ℕ). t ++ head_text c.region_code.result zone) c.new-out.ensures.items ∙ ap (λ (t : List ℕ). [] ++ head_text t zone) c.region_code.ensures) in
    c.from_items.ensures
    ∙ in_a_row (head_text (region_code region) zone) (flat_map (text_of_place (codes "stop")) (own_places z region)) (point_text (state_after z 30) region (lower_point region))
    (point_text (state_after z 32) region (higher_point region)) text_of_service (flat_map text_of_journey (journeys (state_after z 34) region))
    c.put_head.new.out.items c.put_own_places.new.out.items c.put_point.new.out.items c.put_point-2.new.out.items c.put_service.new.out.items c.put_journeys.new.out.items
    first c.in_ok-put_own_places.ensures.text low high c.in_ok-put_service.ensures rest

pub returns-clause-drawn : goal.returns-clause-drawn
returns-clause-drawn c =
    let z = c.args.draws.now.state in
    let s30 = c.in_ok-put_own_places.ensures.drawn in
    let s32 = c.in_ok-put_point.ensures.drawn ∙ (ap (λ (s : ℕ). state_after s 2) s30 ∙ state_sum z 30 2) in
    let s34 = c.in_ok-put_point-2.ensures.drawn ∙ (ap (λ (s : ℕ). state_after s 2) s32 ∙ state_sum z 32 2) in
    c.in_ok-put_journeys.ensures.drawn ∙ (ap (λ (s : ℕ). state_after s 1920) s34 ∙ state_sum z 34 1920)
