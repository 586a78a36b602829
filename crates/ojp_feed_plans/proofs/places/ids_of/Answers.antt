use Rattle.std.proofs.Common.{ℕ, map, ap, ◌∙◌}
use Rattle.std.specs.Prelude.{slice_get}
use Rattle.std.proofs.lemmas.List.{take_all}
use Rattle.ojp_feed_plans.specs.Labels.{stop_id, stop_ids}
use Rattle.ojp_feed_plans.proofs.places.ids_of.Goals as goal

pub returns : goal.returns
unfolding stop_ids
returns c = c.loop-number.invariant ∙ ap (map (λ (number : ℕ). stop_id (slice_get c.args.feed.now.stops.items number))) (take_all c.loop-number.number-index c.args.numbers.now c.loop-number-test.false)
