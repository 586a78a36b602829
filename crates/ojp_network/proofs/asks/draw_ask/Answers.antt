use Rattle.std.proofs.Common.{◌≡◌, ℕ, ◌+◌, ◌*◌, refl, ◌∙◌, ap}
use Rattle.ojp_values.specs.Texts.{Text}
use Rattle.ojp_network.specs.declared.shapes.LoadAsk.{LoadAsk}
use Rattle.ojp_network.specs.Draws.{draw}
use Rattle.ojp_network.specs.Networks.{apart, load_ask, target_at}
use Rattle.ojp_network.specs.Regions.{own_stop}
use Rattle.ojp_network.proofs.DrawFacts.{drawn_at, state_first, state_next}
use Rattle.ojp_network.proofs.asks.draw_ask.Goals as goal

abbrev one_ask : Text → Text → ℕ → ℕ → LoadAsk
one_ask origin target start order = record { ask = record { origin = origin; start = start; target = target }; order = order }

-- an ask of these values
ask_is : (z from board to given alight minute order start : ℕ) (origin target : Text) → from ≡ draw z 0 12 → board ≡ draw z 1 30 → to ≡ draw z 2 12 → given ≡ draw z 3 30 → minute ≡ draw z 4 1440
    → order ≡ draw z 5 11 → alight ≡ apart from board to given → origin ≡ own_stop (from + 1) (board + 1) → target ≡ own_stop (to + 1) (alight + 1) → start ≡ 1_714_953_600 + 60 * minute
    → one_ask origin target start order ≡ load_ask z
unfolding load_ask
ask_is z from board to given alight minute order start origin target h0 h1 h2 h3 h4 h5 h6 h7 h8 h9 =
    let moved : alight ≡ target_at z = h6 ∙ ap4 h0 h1 h2 h3 in
    let first : origin ≡ own_stop (draw z 0 12 + 1) (draw z 1 30 + 1) = h7 ∙ cc (h0, h1) in
    let last : target ≡ own_stop (draw z 2 12 + 1) (target_at z + 1) = h8 ∙ cc (h2, moved) in
    let moment : start ≡ 1_714_953_600 + 60 * draw z 4 1440 = h9 ∙ ap (λ (n : ℕ). 1_714_953_600 + 60 * n) h4 in
    cc (first, last, moment, h5)
  where
    ap4 : from ≡ draw z 0 12 → board ≡ draw z 1 30 → to ≡ draw z 2 12 → given ≡ draw z 3 30 → apart from board to given ≡ target_at z
    ap4 e f g h = ap (λ (n : ℕ). apart n board to given) e ∙ (ap (λ (n : ℕ). apart (draw z 0 12) n to given) f ∙ (ap (λ (n : ℕ). apart (draw z 0 12) (draw z 1 30) n given) g ∙ ap (λ (n : ℕ). apart (draw z 0 12) (draw z 1 30) (draw z 2 12) n) h))

pub returns-clause-ask : goal.returns-clause-ask
returns-clause-ask c =
    let z = c.args.draws.now.state in
    let s1 = state_next z 0 1 z c.below-from.new.self.state (state_first z) c.below-from.ensures.next refl in
    let s2 = state_next z 1 2 c.below-from.new.self.state c.below-board.new.self.state s1 c.below-board.ensures.next refl in
    let s3 = state_next z 2 3 c.below-board.new.self.state c.below-to.new.self.state s2 c.below-to.ensures.next refl in
    let s4 = state_next z 3 4 c.below-to.new.self.state c.below-given.new.self.state s3 c.below-given.ensures.next refl in
    let s5 = state_next z 4 5 c.below-given.new.self.state c.below.new.self.state s4 c.below.ensures.next refl in
    ask_is z c.below-from.result c.below-board.result c.below-to.result c.below-given.result c.apart-alight.result c.below.result c.below-2.result c.moment-start.result c.stop_of.result c.stop_of-2.result
    (c.below-from.ensures.value ∙ drawn_at z 0 z 12 (state_first z))
    (c.below-board.ensures.value ∙ drawn_at z 1 c.below-from.new.self.state 30 s1)
    (c.below-to.ensures.value ∙ drawn_at z 2 c.below-board.new.self.state 12 s2)
    (c.below-given.ensures.value ∙ drawn_at z 3 c.below-to.new.self.state 30 s3)
    (c.below.ensures.value ∙ drawn_at z 4 c.below-given.new.self.state 1440 s4)
    (c.below-2.ensures.value ∙ drawn_at z 5 c.below.new.self.state 11 s5)
    c.apart-alight.ensures.value c.stop_of.ensures c.stop_of-2.ensures c.moment-start.ensures

pub returns-clause-drawn : goal.returns-clause-drawn
returns-clause-drawn c =
    let z = c.args.draws.now.state in
    let s1 = state_next z 0 1 z c.below-from.new.self.state (state_first z) c.below-from.ensures.next refl in
    let s2 = state_next z 1 2 c.below-from.new.self.state c.below-board.new.self.state s1 c.below-board.ensures.next refl in
    let s3 = state_next z 2 3 c.below-board.new.self.state c.below-to.new.self.state s2 c.below-to.ensures.next refl in
    let s4 = state_next z 3 4 c.below-to.new.self.state c.below-given.new.self.state s3 c.below-given.ensures.next refl in
    let s5 = state_next z 4 5 c.below-given.new.self.state c.below.new.self.state s4 c.below.ensures.next refl in
    state_next z 5 6 c.below.new.self.state c.below-2.new.self.state s5 c.below-2.ensures.next refl
