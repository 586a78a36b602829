use Rattle.std.proofs.Common.{◌≡◌, ℕ, ◌+◌, ◌*◌, ◌++◌, List, refl, ◌∙◌, ap, append_assoc, arith}
use Rattle.std.specs.List.{flat_map}
use Rattle.ojp_lines.specs.Lines.{journey_text}
use Rattle.ojp_network.specs.Draws.{state_after}
use Rattle.ojp_network.specs.Regions.{calls, journey, journey_label, line_label, service_label, text_of_call, text_of_journey}
use Rattle.ojp_network.proofs.DrawFacts.{grows_flat, grows_none, state_first, state_sum}
use Rattle.ojp_network.proofs.journeys.put_journeys.Goals as goal

pub loop-k-init : goal.loop-k-init
loop-k-init c = record { text = grows_none text_of_journey (journey c.args.draws.now.state c.args.region) c.args.out.now.items; state = state_first c.args.draws.now.state }

pub loop-k-preserved : goal.loop-k-preserved
loop-k-preserved c =
    let z = c.args.draws.now.state in
    let region = c.args.region in
    let k = c.loop-k.k in
    let at = c.loop-k.invariant.state in
    let head : journey_text c.journey_label.result service_label c.line_label.result ≡ journey_text (journey_label (k + 1)) service_label (line_label (k + 1)) = cc (c.journey_label.ensures, c.line_label.ensures) in
    let rows = ap (λ (s : ℕ). flat_map text_of_call (calls s region)) at in
    let both = c.in_ok-put_calls.ensures.text
    ∙ (ap (λ (t : List ℕ). t ++ flat_map text_of_call (calls c.loop-k.draws.state region)) (c.in_ok-put_journey.ensures ∙ ap (λ (t : List ℕ). c.loop-k.out.items ++ t) head)
    ∙ (append_assoc c.loop-k.out.items (journey_text (journey_label (k + 1)) service_label (line_label (k + 1))) (flat_map text_of_call (calls c.loop-k.draws.state region))
    ∙ ap (λ (t : List ℕ). c.loop-k.out.items ++ (journey_text (journey_label (k + 1)) service_label (line_label (k + 1)) ++ t)) rows)) in
    let size : 16 * k + 16 ≡ 16 * (k + 1) = omega arith in
    record {
      text = grows_flat text_of_journey (journey z region) k c.args.out.now.items c.loop-k.out.items c.put_calls.new.out.items (text_of_journey (journey z region k)) c.loop-k.invariant.text both refl;
      state = c.in_ok-put_calls.ensures.drawn ∙ (ap (λ (s : ℕ). state_after s 16) at ∙ (state_sum z (16 * k) 16 ∙ ap (state_after z) size));
    }
