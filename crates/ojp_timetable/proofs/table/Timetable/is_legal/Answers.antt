use Rattle.std.proofs.Common.{◌≡◌, ◌<◌, ◌≤◌, ◌+◌, ◌-◌, ℕ, length, arith, refl, sym, subst}
use Rattle.std.proofs.lemmas.Option.{slice_get_read, slice_get_within}
use Rattle.ojp_values.specs.declared.trips.Leg.{Leg}
use Rattle.ojp_timetable.specs.Journeys.{Regional}
use Rattle.ojp_timetable.specs.Legal.{Ends, GoesOnBy}
use Rattle.ojp_timetable.proofs.LegalFacts.{ends_of, from_follows, joins, never, not_on, rest_of, to_follows, true_where, walked_on}
use Rattle.ojp_timetable.proofs.ReadFacts.{read_once}
use Rattle.ojp_timetable.proofs.table.Timetable.is_legal.Goals as goal

pub returns-then-not-follows : goal.returns-then-not-follows
returns-then-not-follows c =
    let table = c.args.self.now in
    let legs = c.args.legs.now in
    let i = c.legs.i in
    let w = c.legs.invariant in
    let inside : i + 1 < length legs = omega (arith, c.legs-test.true) in
    let last = slice_get_read legs (length legs) i c.index-legs-i.result refl (omega (arith, inside)) c.index-legs-i.is in
    let next = slice_get_read legs (length legs) (i + 1) c.index-legs-i-in-legs.result refl inside c.index-legs-i-in-legs.is in
    let one : c.index-legs-i.result ≡ w.last = read_once legs i i c.index-legs-i.result w.last refl last w.at in
    let stops = subst (λ (l : Leg). GoesOnBy table l c.index-legs-i-in-legs.result → ⊥) one c.if-not-follows.ensures in
    never ((a : ℕ) × Regional table c.args.origin c.args.start c.args.target a legs)
    (λ r. not_on table legs i c.index-legs-i-in-legs.result w next (λ f. stops (from_follows table w.last c.index-legs-i-in-legs.result f)) c.args.target r.0
    (rest_of table c.args.origin c.args.start c.args.target r.0 legs r.1))

pub legs-preserved : goal.legs-preserved
legs-preserved c =
    let table = c.args.self.now in
    let legs = c.args.legs.now in
    let i = c.legs.i in
    let w = c.legs.invariant in
    let inside : i + 1 < length legs = omega (arith, c.legs-test.true) in
    let last = slice_get_read legs (length legs) i c.index-legs-i.result refl (omega (arith, inside)) c.index-legs-i.is in
    let next = slice_get_read legs (length legs) (i + 1) c.index-legs-i-in-legs.result refl inside c.index-legs-i-in-legs.is in
    let one : c.index-legs-i.result ≡ w.last = read_once legs i i c.index-legs-i.result w.last refl last w.at in
    let on = to_follows table w.last c.index-legs-i-in-legs.result (subst (λ (l : Leg). GoesOnBy table l c.index-legs-i-in-legs.result) one c.if-not-follows.ensures) in
    walked_on table legs i c.index-legs-i-in-legs.result w next on

pub returns : goal.returns
returns c =
    let table = c.args.self.now in
    let legs = c.args.legs.now in
    let i = c.legs.i in
    let w = c.legs.invariant in
    let inside = slice_get_within legs i w.last w.at in
    let done : length legs ≤ i + 1 = omega (arith, c.legs-test.false) in
    let number : length legs - 1 ≡ i = omega (arith, inside, done) in
    let read = slice_get_read legs (length legs) (length legs - 1) c.index-legs-legs.result refl (omega (arith, inside)) c.index-legs-legs.is in
    let one : c.index-legs-legs.result ≡ w.last = read_once legs (length legs - 1) i c.index-legs-legs.result w.last number read w.at in
    let first = slice_get_read legs (length legs) 0 c.index-legs-0.result refl (omega (arith, inside)) c.index-legs-0.is in
    let begin = c.if-not-begins.ensures in
    true_where c.ends.result (Ends c.index-legs-legs.result c.args.target c.args.start) ((a : ℕ) × Regional table c.args.origin c.args.start c.args.target a legs)
    (λ e.
    let end = subst (λ (l : Leg). Ends l c.args.target c.args.start) one e in
    joins table c.args.origin c.args.start c.args.target legs c.index-legs-0.result i w c.if-is_same_stop.ensures first (begin.2, begin.0, begin.1) done end.0 end.1)
    (λ r. subst (λ (l : Leg). Ends l c.args.target c.args.start) (sym one) (ends_of table c.args.origin c.args.start c.args.target r.0 legs i w done r.1))
    c.ends.ensures
