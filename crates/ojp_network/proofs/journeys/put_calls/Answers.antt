use Rattle.std.proofs.Common.{◌≡◌, ℕ, suc, ◌+◌, ◌*◌, ◌≤◌, [], ◌∷◌, ◌++◌, OnOk, Some, None, refl, sym, ◌∙◌, ap, subst, append_assoc, append-nil, arith, List}
use Rattle.std.specs.List.{flat_map}
use Rattle.std.proofs.lemmas.List.Concat.{flat_map-append}
use Rattle.ojp_values.specs.Texts.{Text}
use Rattle.ojp_network.specs.Draws.{below, draw, state_after}
use Rattle.ojp_network.specs.Regions.{departs_at, first_call, last_call, middle_call, minutes, stop_at, text_of_call}
use Rattle.ojp_network.proofs.DrawFacts.{drawn_at, flat_none, grows_flat, state_first, state_next}
use Rattle.ojp_network.proofs.PlaceFacts.{call_text_is}
use Rattle.ojp_network.proofs.ResultFacts.{always}
use Rattle.ojp_network.proofs.journeys.put_calls.Goals as goal

departs_first : (z d : ℕ) → d ≡ draw z 0 1200 → 14_400 + 60 * d ≡ departs_at z 0
unfolding departs_at
departs_first z d e = ap (λ (n : ℕ). 14_400 + 60 * n) e

departs_next : (z k before hop dwell : ℕ) → before ≡ departs_at z k → hop ≡ draw z (3 * k + 2) 20 → dwell ≡ draw z (3 * k + 4) 3
    → before + 60 * (1 + hop) + 60 * dwell ≡ departs_at z (k + 1)
unfolding departs_at
departs_next z k before hop dwell e f g =
    let more : k + 1 ≡ suc k = omega arith in
    let sums : before + 60 * (1 + hop) + 60 * dwell ≡ departs_at z (suc k) = cc in
    sums ∙ sym (ap (departs_at z) more)

stop_is : (region n m : ℕ) → n ≡ m → stop_at region n ≡ stop_at region m
stop_is region n m e = ap (stop_at region) e

minutes_of : (z k hop m : ℕ) → hop ≡ draw z k m → 60 * (1 + hop) ≡ minutes z k m
minutes_of z k hop m e = ap (λ (d : ℕ). 60 * (1 + d)) e

pub loop-k-init : goal.loop-k-init
loop-k-init c =
    let z = c.args.draws.now.state in
    let region = c.args.region in
    let behind_one = state_next z 0 1 z c.below.new.self.state (state_first z) c.below.ensures.next refl in
    let time = departs_first z c.below.result (c.below.ensures.value ∙ drawn_at z 0 z 1200 (state_first z)) in
    let is = call_text_is _ _ None None _ _ (stop_is region c.below-stop.result (draw z 1 32) (c.below-stop.ensures.value ∙ drawn_at z 1 c.below.new.self.state 32 behind_one)) refl (ap Some time) in
    record {
      text = c.in_ok-put_call_at.ensures
          ∙ (ap (λ (t : List ℕ). c.args.out.now.items ++ t) is
          ∙ sym (ap (λ (t : List ℕ). (c.args.out.now.items ++ text_of_call (first_call z region)) ++ t) (flat_none text_of_call (middle_call z region)) ∙ append-nil (c.args.out.now.items ++ text_of_call (first_call z region))));
      time = time;
      small = omega (arith, c.below.ensures.small);
      state = state_next z 1 2 c.below.new.self.state c.below-stop.new.self.state behind_one c.below-stop.ensures.next refl;
    }

pub loop-k-preserved : goal.loop-k-preserved
loop-k-preserved c =
    let z = c.args.draws.now.state in
    let region = c.args.region in
    let k = c.loop-k._k in
    let s2 = c.loop-k.invariant.state in
    let s3 = state_next z (3 * k + 2) (3 * k + 3) c.loop-k.draws.state c.below-in-loop-k.new.self.state s2 c.below-in-loop-k.ensures.next (omega arith) in
    let s4 = state_next z (3 * k + 3) (3 * k + 4) c.below-in-loop-k.new.self.state c.below-stop-in-loop-k.new.self.state s3 c.below-stop-in-loop-k.ensures.next (omega arith) in
    let hop = c.below-in-loop-k.ensures.value ∙ drawn_at z (3 * k + 2) c.loop-k.draws.state 20 s2 in
    let at = c.below-stop-in-loop-k.ensures.value ∙ drawn_at z (3 * k + 3) c.below-in-loop-k.new.self.state 32 s3 in
    let dwell = c.below-in-loop-k-2.ensures.value ∙ drawn_at z (3 * k + 4) c.below-stop-in-loop-k.new.self.state 3 s4 in
    let comes : c.loop-k.departs + 60 * (1 + c.below-in-loop-k.result) ≡ departs_at z k + minutes z (3 * k + 2) 20 = cc (c.loop-k.invariant.time, minutes_of z (3 * k + 2) c.below-in-loop-k.result 20 hop) in
    let leaves = departs_next z k c.loop-k.departs c.below-in-loop-k.result c.below-in-loop-k-2.result c.loop-k.invariant.time hop dwell in
    let is = call_text_is _ _ _ _ _ _ (stop_is region c.below-stop-in-loop-k.result (draw z (3 * k + 3) 32) at) (ap Some comes) (ap Some leaves) in
    record {
      text = grows_flat text_of_call (middle_call z region) k (c.args.out.now.items ++ text_of_call (first_call z region)) c.loop-k.out.items c.put_call_at-in-loop-k.new.out.items _ c.loop-k.invariant.text c.in_ok-put_call_at-2.ensures is;
      time = leaves;
      small = omega (arith, c.loop-k.invariant.small, c.below-in-loop-k.ensures.small, c.below-in-loop-k-2.ensures.small);
      state = state_next z (3 * k + 4) (3 * (k + 1) + 2) c.below-stop-in-loop-k.new.self.state c.below-in-loop-k-2.new.self.state s4 c.below-in-loop-k-2.ensures.next (omega arith);
    }

four : (k : ℕ) → k ≤ 4 → 4 ≤ k → k ≡ 4
four k h g = omega arith

-- the text at the end: that of the first calls, and of the last
ended : (old out first piece : List ℕ) {X : Type 0} (g : X → List ℕ) (xs : List X) (x : X) → out ≡ (old ++ first) ++ flat_map g xs → piece ≡ g x
    → out ++ piece ≡ old ++ (first ++ flat_map g (xs ++ x ∷ []))
ended old out first piece {X} g xs x before is =
    ap (λ (t : List ℕ). t ++ piece) before
    ∙ (ap (λ (t : List ℕ). ((old ++ first) ++ flat_map g xs) ++ t) is
    ∙ (append_assoc (old ++ first) (flat_map g xs) (g x)
    ∙ (append_assoc old first (flat_map g xs ++ g x)
    ∙ ap (λ (t : List ℕ). old ++ (first ++ t)) (ap (λ (t : List ℕ). flat_map g xs ++ t) (sym (append-nil (g x))) ∙ sym (flat_map-append g xs (x ∷ []))))))

last_state : (c : goal.After-put_call_at-2) → c.loop-k.draws.state ≡ state_after c.args.draws.now.state 14
last_state c =
    let k4 = four c.loop-k._k c.loop-k.auto._k-end c.loop-k-test.false in
    c.loop-k.invariant.state ∙ ap (λ (k : ℕ). state_after c.args.draws.now.state (3 * k + 2)) k4

behind_hop : (c : goal.After-put_call_at-2) → c.below-2.new.self.state ≡ state_after c.args.draws.now.state 15
behind_hop c = state_next c.args.draws.now.state 14 15 c.loop-k.draws.state c.below-2.new.self.state (last_state c) c.below-2.ensures.next refl

pub returns-clause-text : goal.returns-clause-text
returns-clause-text c =
    let z = c.args.draws.now.state in
    let region = c.args.region in
    let k4 = four c.loop-k._k c.loop-k.auto._k-end c.loop-k-test.false in
    let hop = c.below-2.ensures.value ∙ drawn_at z 14 c.loop-k.draws.state 20 (last_state c) in
    let at = c.below-stop-2.ensures.value ∙ drawn_at z 15 c.below-2.new.self.state 32 (behind_hop c) in
    let comes : c.loop-k.departs + 60 * (1 + c.below-2.result) ≡ departs_at z 4 + minutes z 14 20 = cc (c.loop-k.invariant.time, ap (departs_at z) k4, minutes_of z 14 c.below-2.result 20 hop) in
    let is = call_text_is _ _ _ _ None None (stop_is region c.below-stop-2.result (draw z 15 32) at) (ap Some comes) refl in
    let before = c.loop-k.invariant.text
    ∙ ap (λ (k : ℕ). (c.args.out.now.items ++ text_of_call (first_call z region)) ++ flat_map text_of_call (below (middle_call z region) k)) k4 in
    subst (λ (t : Text). OnOk c.put_call_at-2.result (c.put_call_at-2.new.out.items ≡ t))
    (ended c.args.out.now.items c.loop-k.out.items (text_of_call (first_call z region)) _ text_of_call (below (middle_call z region) 4) (last_call z region) before is)
    c.put_call_at-2.ensures

pub returns-clause-drawn : goal.returns-clause-drawn
returns-clause-drawn c =
    let z = c.args.draws.now.state in
    always c.put_call_at-2.result (c.below-stop-2.new.self.state ≡ state_after z 16)
    (state_next z 15 16 c.below-2.new.self.state c.below-stop-2.new.self.state (behind_hop c) c.below-stop-2.ensures.next refl)
