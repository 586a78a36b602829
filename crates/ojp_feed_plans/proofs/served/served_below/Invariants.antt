use Rattle.std.proofs.Common.{◌≡◌}
use Rattle.std.specs.List.{filter, range_with_len}
use Rattle.ojp_feed_plans.specs.Served.{is_marked}
use Rattle.ojp_feed_plans.proofs.served.served_below.Given as goal

abbrev pub invariant-loop-number : goal.invariant-loop-number
invariant-loop-number l = l.numbers.items ≡ filter (is_marked l.served.places.items) (range_with_len 0 l.number)
