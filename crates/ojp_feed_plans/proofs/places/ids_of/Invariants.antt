use Rattle.std.proofs.Common.{◌≡◌, ℕ, map, take}
use Rattle.std.specs.Prelude.{slice_get}
use Rattle.ojp_feed_plans.specs.Labels.{stop_id}
use Rattle.ojp_feed_plans.proofs.places.ids_of.Given as goal

abbrev pub invariant-loop-number : goal.invariant-loop-number
invariant-loop-number l = map (λ id. id.now) l.ids.items ≡ map (λ (number : ℕ). stop_id (slice_get l.feed.stops.items number)) (take l.number-index l.numbers)
