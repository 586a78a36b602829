use Rattle.std.proofs.Common.{◌≡◌, ℕ, ◌+◌, ◌<◌, ◌≤◌, ◌++◌, ◌∷◌, [], List, get_or, length, refl, sym, ◌∙◌, ap, subst, arith}
use Rattle.std.specs.Prelude.{MatchOption}
use Rattle.std.proofs.lemmas.Option.{slice_get_read}
use Rattle.ojp_values.proofs.ListFacts.{each_at}
use Rattle.ojp_values.specs.Texts.{Text}
use Rattle.ojp_values.specs.declared.trips.Neighbour.{Neighbour}
use Rattle.ojp_values.specs.declared.trips.Point.{Point}
use Rattle.ojp_timetable.specs.Points.{IsPointOf}
use Rattle.ojp_timetable.proofs.ReadFacts.{among_at}
use Rattle.ojp_timetable.proofs.TextFacts.{same_is}
use Rattle.ojp_exchange.specs.declared.spots.Edge.{Edge}
use Rattle.ojp_exchange.specs.Points.{HasNeighbour, HasNoNeighbour}
use Rattle.ojp_exchange.specs.Places.{edge_to}
use Rattle.ojp_exchange.proofs.ChangeFacts.{AreChangesTo, all_there, none_there, one_there}
use Rattle.ojp_exchange.proofs.TableFacts.{pushed_one}
use Rattle.ojp_exchange.proofs.tables.add_edges.Goals as goal
use Rattle.ojp_exchange.proofs.tables.add_edges.Goals.{in-Some+else-is_err, in_default}

pub others-preserved : goal.others-preserved
others-preserved c =
    let points = c.args.points.now in
    let place = c.args.place in
    let other = c.others.other in
    let from = c.args.from in
    let here = c.index-points-place.result in
    let there = c.index-points-other.result in
    let here_at = slice_get_read points (length points) place here refl c.requires.place c.index-points-place.is in
    let stretch = c.requires.stretch here here_at in
    let within : other < length points = omega (arith, c.others-test.true, stretch.within) in
    let there_at = slice_get_read points (length points) other there refl within c.index-points-other.is in
    let low : from ≤ other = omega (arith, c.others.auto.other) in
    let own = each_at (λ (point : Point). IsPointOf point.region point) there points c.requires.order.own (among_at points other there there_at) in
    let stop_is = sym (same_is here.stop there.stop (stretch.inside other there there_at low c.others-test.true)) in
    let said = subst (λ (code : Text). MatchOption c.change_among.result (HasNoNeighbour there.neighbours code) (HasNeighbour there.neighbours code)) (ap (λ (p : Point). p.region) (sym c.index-points-place.is))
    (subst (λ (xs : List Neighbour). MatchOption c.change_among.result (HasNoNeighbour xs (get_or points place here).region) (HasNeighbour xs (get_or points place here).region))
    (c.as_slice.ensures ∙ ap (λ (p : Point). p.neighbours) (sym c.index-points-other.is)) c.change_among.ensures) in
    elim c.match-change_among.branch [
      | in-Some+else-is_err w ↦
          let change = w.in-Some.change in
          let has : HasNeighbour there.neighbours here.region change = subst (λ r. MatchOption r (HasNoNeighbour there.neighbours here.region) (HasNeighbour there.neighbours here.region)) w.in-Some.is said in
          let pushed : c.match-change_among.edges.items ≡ c.others.edges.items ++ edge_to other change ∷ [] =
          ap (λ (v : _). v.items) w.edges-is ∙ pushed_one c.others.edges.items _ (edge_to other change) _ _ w.push.ensures.items w.is_err.ensures.negation w.if-is_err.false in
          one_there points place from other change here there c.args.edges.now.items c.others.edges.items c.match-change_among.edges.items c.others.invariant here_at there_at low stop_is own.rising has pushed
      | in_default w ↦
          let none : HasNoNeighbour there.neighbours here.region = subst (λ r. MatchOption r (HasNoNeighbour there.neighbours here.region) (HasNeighbour there.neighbours here.region)) w.in_default.is said in
          subst (λ (edges : List Edge). AreChangesTo points place from (other + 1) c.args.edges.now.items edges) (ap (λ (v : _). v.items) (sym w.edges-is))
          (none_there points place from other here there c.args.edges.now.items c.others.edges.items c.others.invariant here_at there_at none)
    ]

pub returns : goal.returns
returns c =
    let points = c.args.points.now in
    let here = c.index-points-place.result in
    let here_at = slice_get_read points (length points) c.args.place here refl c.requires.place c.index-points-place.is in
    let stretch = c.requires.stretch here here_at in
    let end : c.others.other ≡ c.args.to = omega (arith, c.others-test.false, c.others.auto.other-end stretch.order) in
    let done = subst (λ (to : ℕ). AreChangesTo points c.args.place c.args.from to c.args.edges.now.items c.others.edges.items) end c.others.invariant in
    record { more = done.more; grown = done.grown; right = all_there points c.args.place c.args.from c.args.to here c.args.edges.now.items c.others.edges.items done here_at stretch }
