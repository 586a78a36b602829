use Rattle.std.proofs.Common.{ℕ, ◌+◌, ◌*◌, refl, ◌∙◌, ap}
use Rattle.std.specs.Prelude.{codes}
use Rattle.ojp_network.specs.Regions.{own_place, text_of_place}
use Rattle.ojp_network.proofs.DrawFacts.{drawn_at, grows_flat, grows_none, state_first, state_next}
use Rattle.ojp_network.proofs.PlaceFacts.{place_text_is}
use Rattle.ojp_network.proofs.regions.put_own_places.Goals as goal

pub loop-k-init : goal.loop-k-init
loop-k-init c =
    record { text = grows_none (text_of_place (codes "stop")) (own_place c.args.draws.now.state c.args.region) c.args.out.now.items; state = state_first c.args.draws.now.state }

pub loop-k-preserved : goal.loop-k-preserved
loop-k-preserved c =
    let z = c.args.draws.now.state in
    let k = c.loop-k.k in
    record {
      text = grows_flat (text_of_place (codes "stop")) (own_place z c.args.region) k c.args.out.now.items c.loop-k.out.items c.put_place.new.out.items _ c.loop-k.invariant.text c.in_ok-put_place.ensures
          (place_text_is (codes "stop") _ _ _ _ _ _ c.own_stop.ensures
          (ap (λ (d : ℕ). 60 * (1 + d)) (c.below.ensures.value ∙ drawn_at z k c.loop-k.draws.state 5 c.loop-k.invariant.state)) c.own_name.ensures);
      state = state_next z k (k + 1) c.loop-k.draws.state c.below.new.self.state c.loop-k.invariant.state c.below.ensures.next refl;
    }
