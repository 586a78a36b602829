use Rattle.std.proofs.Common.{◌≡◌, ◌≤◌, length, ◌∙◌, arith}
use Rattle.ojp_feed_plans.proofs.ServedFacts.{served_are}
use Rattle.ojp_feed_plans.proofs.places.placed_of.Goals as goal

pub returns-in-Err : goal.returns-in-Err
returns-in-Err c =
    let feed = c.args.feed.now in
    let patterns = c.args.patterns.now in
    let stops = c.len-stops.result in
    let count = c.saturating_add-count.result in
    let is : stops ≡ length feed.stops.items = omega (arith, c.len-stops.ensures, feed.stops.ok) in
    let within : stops ≤ count = omega (arith, c.saturating_add-count.ensures, is, feed.stops.ok) in
    let served = served_are feed patterns count stops c.in-Ok.served.places.items c.in-Ok-served_below.own.items c.in-Ok.ensures is within c.in-Ok-served_below.ensures in
    c.in-Err.ensures patterns (c.as_slice-2.ensures.value ∙ served)
