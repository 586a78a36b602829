use Rattle.std.proofs.Common.{refl, ◌≡◌, ◌<◌, ◌≤◌, ◌+◌, ◌∷◌, [], ℕ, List, Some, true, false, length, take, get_or, slice_get, sym, subst, ap, arith, ◌∙◌}
use Rattle.std.proofs.lemmas.Option.{slice_get_read, slice_get_within, slice_get-get_or, same_Some}
use Rattle.ojp_labels.specs.Hearing.{is_away}
use Rattle.ojp_labels.proofs.HearFacts.{way_here, taken_past, taken_below, taken_more, taken_all, taken_same}
use Rattle.ojp_labels.proofs.hearing.take_ways.Goals as goal
use Rattle.ojp_labels.proofs.hearing.take_ways.Goals.{then-is_away, else-is_away}

pub spot-spot-requires : goal.spot-spot-requires
spot-spot-requires c =
    let it = way_here c.args.book.now c.args.region c.ways-way-items.result.now c.ways.way-index c.ways-way-items.ensures (omega arith) in
    slice_get_within c.args.book.now.spots _ it.spot it.is

pub bounds-found-next : goal.bounds-found-next
bounds-found-next c =
    let it = way_here c.args.book.now c.args.region c.ways-way-items.result.now c.ways.way-index c.ways-way-items.ensures (omega arith) in
    let same : it.spot ≡ c.spot-spot.result = same_Some _ _ (sym it.is ∙ c.spot-spot.ensures) in
    let away : is_away c.args.ask.now c.args.stop it.spot ≡ true = ap (is_away c.args.ask.now c.args.stop) same ∙ sym c.if-is_away.ensures in
    let below = taken_below c.args.book.now c.args.ask.now c.args.stop c.args.region c.ways.way-index c.ways.next it.spot it.at away c.ways.invariant.taken in
    omega (arith, below, c.requires.each)

pub ways-preserved : goal.ways-preserved
ways-preserved c =
    let it = way_here c.args.book.now c.args.region c.ways-way-items.result.now c.ways.way-index c.ways-way-items.ensures (omega arith) in
    let same : it.spot ≡ c.spot-spot.result = same_Some _ _ (sym it.is ∙ c.spot-spot.ensures) in
    elim c.if-is_away.branch [
      | then-is_away w ↦
          let away : is_away c.args.ask.now c.args.stop it.spot ≡ true = ap (is_away c.args.ask.now c.args.stop) same ∙ sym w.if-is_away.ensures in
          let below = taken_below c.args.book.now c.args.ask.now c.args.stop c.args.region c.ways.way-index c.ways.next it.spot it.at away c.ways.invariant.taken in
          let within : c.ways.next < length c.args.found.now = omega (arith, below, c.requires.each) in
          let here : slice_get c.args.found.now c.ways.next ≡ Some w.index-found-next.result = slice_get_read c.args.found.now (length c.args.found.now) c.ways.next w.index-found-next.result refl within w.index-found-next.is in
          taken_same c.args.book.now c.args.ask.now c.args.stop c.args.region c.args.found.now c.args.labels.now.items w.take_result.new.labels.items c.if-is_away.labels.items (c.ways.way-index + 1) (c.ways.next + 1) c.if-is_away.next (ap (λ v. v.items) w.labels-is) w.next-is
          (taken_more c.args.book.now c.args.ask.now c.args.stop c.args.region c.args.found.now c.args.labels.now.items c.ways.labels.items w.take_result.new.labels.items c.ways.way-index c.ways.next it.spot w.index-found-next.result it.at it.of_region away here w.take_result.ensures.count c.ways.invariant (w.take_result.ensures.follow it.spot it.is))
      | else-is_away w ↦
          let near : is_away c.args.ask.now c.args.stop it.spot ≡ false = ap (is_away c.args.ask.now c.args.stop) same ∙ sym w.if-is_away.ensures in
          taken_same c.args.book.now c.args.ask.now c.args.stop c.args.region c.args.found.now c.args.labels.now.items c.ways.labels.items c.if-is_away.labels.items (c.ways.way-index + 1) c.ways.next c.if-is_away.next (ap (λ v. v.items) w.labels-is) w.next-is
          (taken_past c.args.book.now c.args.ask.now c.args.stop c.args.region c.args.found.now c.args.labels.now.items c.ways.labels.items c.ways.way-index c.ways.next it.spot it.at near c.ways.invariant)
    ]

pub returns-clause-taken : goal.returns-clause-taken
returns-clause-taken c = (taken_all c.args.book.now c.args.ask.now c.args.stop c.args.region c.args.found.now c.args.labels.now.items c.ways.labels.items c.ways-way-items.result.now c.ways.way-index c.ways.next c.ways-way-items.ensures c.ways-test.false c.ways.invariant).0

pub returns-clause-follow : goal.returns-clause-follow
returns-clause-follow c = (taken_all c.args.book.now c.args.ask.now c.args.stop c.args.region c.args.found.now c.args.labels.now.items c.ways.labels.items c.ways-way-items.result.now c.ways.way-index c.ways.next c.ways-way-items.ensures c.ways-test.false c.ways.invariant).1

pub take_result-requires-clause-way : goal.take_result-requires-clause-way
take_result-requires-clause-way c = slice_get_within c.args.book.now.spots _ c.spot-spot.result c.spot-spot.ensures

pub offset_bounds-found-next : goal.offset_bounds-found-next
offset_bounds-found-next c =
    let it = way_here c.args.book.now c.args.region c.ways-way-items.result.now c.ways.way-index c.ways-way-items.ensures (omega arith) in
    let same : it.spot ≡ c.spot-spot.result = same_Some _ _ (sym it.is ∙ c.spot-spot.ensures) in
    let away : is_away c.args.ask.now c.args.stop it.spot ≡ true = ap (is_away c.args.ask.now c.args.stop) same ∙ sym c.if-is_away.ensures in
    let below = taken_below c.args.book.now c.args.ask.now c.args.stop c.args.region c.ways.way-index c.ways.next it.spot it.at away c.ways.invariant.taken in
    let w = c.well_formed in
    omega (arith, below, c.requires.each)

pub overflow_add-next : goal.overflow_add-next
overflow_add-next c =
    let it = way_here c.args.book.now c.args.region c.ways-way-items.result.now c.ways.way-index c.ways-way-items.ensures (omega arith) in
    let same : it.spot ≡ c.spot-spot.result = same_Some _ _ (sym it.is ∙ c.spot-spot.ensures) in
    let away : is_away c.args.ask.now c.args.stop it.spot ≡ true = ap (is_away c.args.ask.now c.args.stop) same ∙ sym c.if-is_away.ensures in
    let below = taken_below c.args.book.now c.args.ask.now c.args.stop c.args.region c.ways.way-index c.ways.next it.spot it.at away c.ways.invariant.taken in
    omega (arith, below, c.requires.each)
