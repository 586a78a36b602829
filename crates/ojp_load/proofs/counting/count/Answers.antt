use Rattle.std.proofs.Common.{ℕ, ◌+◌, List, [], ◌∷◌, take, sym, subst, arith}
use Rattle.ojp_network.specs.declared.shapes.LoadAsk.{LoadAsk}
use Rattle.ojp_load.specs.Asking.{Counts}
use Rattle.ojp_load.specs.Loads.{seconds_of, trips_of}
use Rattle.ojp_load.specs.Ready.{IsGoodAsk}
use Rattle.ojp_load.proofs.CountFacts.{counts_more, counts_none, each_at_index, one_day, one_trip, take_one, take_whole}
use Rattle.ojp_load.proofs.counting.count.Goals as goal

pub ask_one-requires : goal.ask_one-requires
ask_one-requires c =
    let tables = c.requires.ready.0 in
    (tables, c.loop-load.invariant.ready tables c.requires.ready.1, each_at_index (IsGoodAsk tables) c.args.asks.now c.loop-load.load-index c.load-item.result c.loop-load-test.true c.load-item.is c.requires.ready.2)

pub counted-summary-requires-clause-in_day : goal.counted-summary-requires-clause-in_day
counted-summary-requires-clause-in_day c =
    let tables = c.requires.ready.0 in
    (c.in_ok-told.ensures.told tables (c.loop-load.invariant.ready tables c.requires.ready.1)
    (each_at_index (IsGoodAsk tables) c.args.asks.now c.loop-load.load-index c.load-item.result c.loop-load-test.true c.load-item.is c.requires.ready.2)).in_day

pub loop-load-init : goal.loop-load-init
loop-load-init c = record { ready = λ tables r. r; counts = λ tables r g. counts_none tables; few = omega arith; in_days = omega arith }

pub loop-load-preserved : goal.loop-load-preserved
loop-load-preserved c =
    let asks = c.args.asks.now in
    let i = c.loop-load.load-index in
    let item = c.load-item.result in
    let t = c.in_ok-told.told in
    let made = c.counted-summary.ensures in
    let first = c.requires.ready.0 in
    let in_day = (c.in_ok-told.ensures.told first (c.loop-load.invariant.ready first c.requires.ready.1) (each_at_index (IsGoodAsk first) asks i item c.loop-load-test.true c.load-item.is c.requires.ready.2)).in_day in
    record {
      ready = λ tables r. c.in_ok-told.ensures.ready tables (c.loop-load.invariant.ready tables r);
      counts = λ tables r g.
          let good = each_at_index (IsGoodAsk tables) asks i item c.loop-load-test.true c.load-item.is g in
          let more = counts_more tables (take i asks) item t c.loop-load.summary.trips c.loop-load.summary.seconds (c.loop-load.invariant.counts tables r g)
          (c.in_ok-told.ensures.told tables (c.loop-load.invariant.ready tables r) good) in
          subst (λ (n : ℕ). Counts tables (take (i + 1) asks) n c.counted-summary.result.seconds) (sym made.trips)
          (subst (λ (n : ℕ). Counts tables (take (i + 1) asks) (c.loop-load.summary.trips + trips_of (t ∷ [])) n) (sym made.seconds)
          (subst (λ (ls : List LoadAsk). Counts tables ls (c.loop-load.summary.trips + trips_of (t ∷ [])) (c.loop-load.summary.seconds + seconds_of (t ∷ []))) (sym (take_one asks i item c.loop-load-test.true c.load-item.is)) more));
      few = omega (arith, c.loop-load.invariant.few, made.trips, one_trip t);
      in_days = omega (arith, c.loop-load.invariant.in_days, made.seconds, one_day t in_day);
    }

pub returns : goal.returns
returns c tables r g =
    subst (λ (ls : List LoadAsk). Counts tables ls c.loop-load.summary.trips c.loop-load.summary.seconds) (take_whole c.args.asks.now c.loop-load.load-index c.loop-load-test.false)
    (c.loop-load.invariant.counts tables r g)
