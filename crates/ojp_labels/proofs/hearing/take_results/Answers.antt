use Rattle.std.proofs.Common.{refl, ◌≡◌, ◌<◌, ◌≤◌, ◌+◌, ◌++◌, ◌∷◌, [], ℕ, List, Some, true, false, length, take, slice_get, sym, subst, ap, arith, ◌∙◌}
use Rattle.std.proofs.lemmas.Option.{slice_get_read}
use Rattle.ojp_records.specs.Starts.{Arrival}
use Rattle.ojp_labels.specs.Hearing.{Follow}
use Rattle.ojp_labels.proofs.HearFacts.{follow_then, served_told, unserved_told, targets_long, served_long, best_served, best_unserved}
use Rattle.ojp_labels.proofs.hearing.take_results.Goals as goal

pub take_ways-next-requires-clause-each : goal.take_ways-next-requires-clause-each
take_ways-next-requires-clause-each c = let long = targets_long c.args.book.now c.args.ask.now c.args.stop c.args.region in omega (arith, long, c.requires.each)

pub bounds-found-next : goal.bounds-found-next
bounds-found-next c =
    let long = targets_long c.args.book.now c.args.ask.now c.args.stop c.args.region in
    let one = served_long c.args.book.now c.args.ask.now c.args.region (sym c.if-serves.ensures) in
    omega (arith, long, one, c.requires.each, c.take_ways-next.ensures.taken)

pub offset_bounds-found-next : goal.offset_bounds-found-next
offset_bounds-found-next c =
    let long = targets_long c.args.book.now c.args.ask.now c.args.stop c.args.region in
    let one = served_long c.args.book.now c.args.ask.now c.args.region (sym c.if-serves.ensures) in
    let w = c.well_formed in
    omega (arith, long, one, c.requires.each, c.take_ways-next.ensures.taken)

pub returns-then-serves-clause-follow : goal.returns-then-serves-clause-follow
returns-then-serves-clause-follow c =
    let book = c.args.book.now in
    let ask = c.args.ask.now in
    let found = c.args.found.now in
    let long = targets_long book ask c.args.stop c.args.region in
    let one = served_long book ask c.args.region (sym c.if-serves.ensures) in
    let within : c.take_ways-next.result < length found = omega (arith, long, one, c.requires.each, c.take_ways-next.ensures.taken) in
    let here : slice_get found c.take_ways-next.result ≡ Some c.index-found-next.result = slice_get_read found (length found) c.take_ways-next.result c.index-found-next.result refl within c.index-found-next.is in
    let told = served_told book ask c.args.stop c.args.region found c.take_ways-next.result c.index-found-next.result (sym c.if-serves.ensures) c.requires.each c.take_ways-next.ensures.taken here in
    subst (λ (hs : List Arrival). Follow book ask hs c.args.labels.now.items c.take_end.new.labels.items) (sym told)
    (follow_then book ask _ _ c.args.labels.now.items c.take_ways-next.new.labels.items c.take_end.new.labels.items c.take_ways-next.ensures.follow c.take_end.ensures.follow)

pub returns-then-serves-clause-best : goal.returns-then-serves-clause-best
returns-then-serves-clause-best c =
    let book = c.args.book.now in
    let ask = c.args.ask.now in
    let found = c.args.found.now in
    let long = targets_long book ask c.args.stop c.args.region in
    let one = served_long book ask c.args.region (sym c.if-serves.ensures) in
    let within : c.take_ways-next.result < length found = omega (arith, long, one, c.requires.each, c.take_ways-next.ensures.taken) in
    let here : slice_get found c.take_ways-next.result ≡ Some c.index-found-next.result = slice_get_read found (length found) c.take_ways-next.result c.index-found-next.result refl within c.index-found-next.is in
    let told = served_told book ask c.args.stop c.args.region found c.take_ways-next.result c.index-found-next.result (sym c.if-serves.ensures) c.requires.each c.take_ways-next.ensures.taken here in
    c.take_end.ensures.best ∙ best_served book ask c.args.stop c.args.region found c.take_ways-next.result c.index-found-next.result c.args.best told

pub returns-else-serves-clause-follow : goal.returns-else-serves-clause-follow
returns-else-serves-clause-follow c =
    subst (λ (hs : List Arrival). Follow c.args.book.now c.args.ask.now hs c.args.labels.now.items c.take_ways-next.new.labels.items)
    (sym (unserved_told c.args.book.now c.args.ask.now c.args.stop c.args.region c.args.found.now c.take_ways-next.result (sym c.if-serves.ensures) c.take_ways-next.ensures.taken)) c.take_ways-next.ensures.follow

pub returns-else-serves-clause-best : goal.returns-else-serves-clause-best
returns-else-serves-clause-best c =
    best_unserved c.args.book.now c.args.ask.now c.args.stop c.args.region c.args.found.now c.take_ways-next.result c.args.best
    (unserved_told c.args.book.now c.args.ask.now c.args.stop c.args.region c.args.found.now c.take_ways-next.result (sym c.if-serves.ensures) c.take_ways-next.ensures.taken)
