use Rattle.std.proofs.Common.{◌≡◌, ◌∙◌, ap, ℕ, Some, reverse, length, is_some, subst, sym, arith}
use Rattle.std.proofs.lemmas.Option.{MatchOption-at_some}
use Rattle.std.proofs.lemmas.List.{with_items_is, length-reverse}
use Rattle.ojp_values.specs.Lists.{Earliest}
use Rattle.ojp_timetable.specs.Journeys.{ArrivesWithin, Regional}
use Rattle.ojp_sweep.specs.Searches.{NeverArrives}
use Rattle.ojp_scan.specs.Networks.{place_number}
use Rattle.ojp_scan.specs.Walks.{IsFirstAt}
use Rattle.ojp_scan.proofs.ScanFacts.{reached-known, reached-some, reached-other, first-earliest, leads-regional}
use Rattle.ojp_scan.proofs.scans.Scan.legs.Goals as goal

pub unwrap-place-requires : goal.unwrap-place-requires
unwrap-place-requires c =
    let made = c.requires.reached.scan_of.made in
    ap is_some (c.place_of.ensures c.args.table.now made) ∙ reached-known c.args.self.now c.args.table.now c.args.stop c.requires.reached

pub unwrap-end-requires : goal.unwrap-end-requires
unwrap-end-requires c =
    let s = c.args.self.now in
    let found = c.requires.reached.scan_of in
    let number = sym (c.place_of.ensures c.args.table.now found.made) ∙ c.unwrap-place.ensures in
    reached-some s c.args.table.now c.args.stop c.requires.reached c.unwrap-place.result number c.arrival.result (c.arrival.ensures.whole s.days s.asked found.found)

pub legs_back-requires-clause-end : goal.legs_back-requires-clause-end
legs_back-requires-clause-end c =
    let s = c.args.self.now in
    let found = c.requires.reached.scan_of in
    MatchOption-at_some (NeverArrives s.sweep.net s.days s.asked c.unwrap-place.result) (λ a. IsFirstAt s c.unwrap-place.result a) c.unwrap-end.result c.unwrap-end.ensures (c.arrival.ensures.whole s.days s.asked found.found)

pub returns : goal.returns
returns c origin start found =
    let s = c.args.self.now in
    let table = c.args.table.now in
    let stop = c.args.stop in
    let place = c.unwrap-place.result in
    let end = c.unwrap-end.result in
    let number : place_number table stop ≡ Some place = sym (c.place_of.ensures table found.made) ∙ c.unwrap-place.ensures in
    let first : IsFirstAt s place end = MatchOption-at_some (NeverArrives s.sweep.net s.days s.asked place) (λ a. IsFirstAt s place a) end c.unwrap-end.ensures (c.arrival.ensures.whole s.days s.asked found.found) in
    let other = reached-other s table stop c.requires.reached place number in
    let back = c.in_ok-legs.legs in
    let turned : c.reverse.new.self ≡ reverse back.items = c.reverse.ensures.after ∙ ap reverse c.as_mut_slice.ensures.value in
    let count : length c.reverse.new.self ≡ back.len = ap length turned ∙ (length-reverse back.items ∙ omega (arith, back.ok.0)) in
    let legs : c.from_items.result ≡ reverse back.items = c.from_items.ensures ∙ (with_items_is back c.reverse.new.self count ∙ turned) in
    subst (λ ls. (a : ℕ) × Earliest (ArrivesWithin table origin start stop) a × Regional table origin start stop a ls) (sym legs)
    (end, first-earliest s table origin start found stop place number end other first, leads-regional s table origin start found stop place number end (reverse back.items) other first.0 (c.in_ok-legs.ensures origin start found))
