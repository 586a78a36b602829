use Rattle.std.proofs.Common.{arith, rules}
use Rattle.ojp_gateway.proofs.SeekFacts.{seeks_start, seeks_on, seeks_end, too_many}
use Rattle.ojp_gateway.proofs.TraceFacts.{gains_none, gains_on}
use Rattle.ojp_gateway.proofs.OrderRunFacts.{run_start, run_more, run_ends}
use Rattle.ojp_gateway.proofs.seeking.seek_paced.Goals as goal

pub searching-init : goal.searching-init
searching-init g c = record { seeks = seeks_start c.args.book.now (g.L.Links.seen c.args.links.now) c.args.search.now c.requires; counted = omega arith; gains = gains_none c.args.trace.now; ordered = run_start c.args.book.now (g.L.Links.seen c.args.links.now) c.args.search.now c.args.trace.now }

pub hearing-init : goal.hearing-init
hearing-init g c = record { seeks = c.searching.invariant.seeks; as_before = c.asks-before.ensures; gains = c.searching.invariant.gains; ordered = c.searching.invariant.ordered }

pub returns-in-Some-clause-sought : goal.returns-in-Some-clause-sought
returns-in-Some-clause-sought g c =
    seeks_end c.args.book.now (g.L.Links.seen c.args.links.now) (g.L.Links.seen c.hearing.links) (g.L.Links.seen c.step_paced.new.links) c.args.search.now c.hearing.search c.step_paced.new.search c.in-Some.outcome
    c.hearing.invariant.seeks c.in-Some.ensures.steps

pub hearing-preserved : goal.hearing-preserved
hearing-preserved g c =
    record {
      seeks = seeks_on c.args.book.now (g.L.Links.seen c.args.links.now) (g.L.Links.seen c.hearing.links) (g.L.Links.seen c.step_paced.new.links) c.args.search.now c.hearing.search c.step_paced.new.search
          c.hearing.invariant.seeks c.in-None.ensures.steps;
      as_before = first_of (search rules, grind (arith, rules));
      gains = gains_on c.args.trace.now c.hearing.trace c.step_paced.new.trace c.hearing.invariant.gains c.in-None.ensures.gains;
      ordered = run_more c.args.book.now (g.L.Links.seen c.args.links.now) (g.L.Links.seen c.hearing.links) (g.L.Links.seen c.step_paced.new.links) c.args.search.now c.hearing.search c.step_paced.new.search c.args.trace.now c.hearing.trace c.step_paced.new.trace
          c.hearing.invariant.seeks.grows.keeps c.hearing.invariant.seeks.same_ask c.hearing.invariant.seeks.bounded c.in-None.ensures.steps c.in-None.ensures.ordered c.in-None.ensures.gains c.hearing.invariant.ordered;
    }

pub hearing-smaller : goal.hearing-smaller
hearing-smaller g c = c.in-None.ensures.steps.falls (first_of (search rules, grind (arith, rules)))

pub searching-preserved : goal.searching-preserved
searching-preserved g c =
    record {
      seeks = seeks_on c.args.book.now (g.L.Links.seen c.args.links.now) (g.L.Links.seen c.hearing.links) (g.L.Links.seen c.step_paced.new.links) c.args.search.now c.hearing.search c.step_paced.new.search
          c.hearing.invariant.seeks c.in-None.ensures.steps;
      counted = first_of (search rules, grind (arith, rules));
      gains = gains_on c.args.trace.now c.hearing.trace c.step_paced.new.trace c.hearing.invariant.gains c.in-None.ensures.gains;
      ordered = run_more c.args.book.now (g.L.Links.seen c.args.links.now) (g.L.Links.seen c.hearing.links) (g.L.Links.seen c.step_paced.new.links) c.args.search.now c.hearing.search c.step_paced.new.search c.args.trace.now c.hearing.trace c.step_paced.new.trace
          c.hearing.invariant.seeks.grows.keeps c.hearing.invariant.seeks.same_ask c.hearing.invariant.seeks.bounded c.in-None.ensures.steps c.in-None.ensures.ordered c.in-None.ensures.gains c.hearing.invariant.ordered;
    }

pub unreachable-requires : goal.unreachable-requires
unreachable-requires g c =
    let few = too_many c.args.book.now (g.L.Links.seen c.args.links.now) (g.L.Links.seen c.searching.links) c.args.search.now c.searching.search c.searching.counter c.searching.invariant.seeks c.searching.invariant.counted in
    first_of (search rules, grind (arith, rules, few))

pub returns-in-Some-clause-gains : goal.returns-in-Some-clause-gains
returns-in-Some-clause-gains g c = gains_on c.args.trace.now c.hearing.trace c.step_paced.new.trace c.hearing.invariant.gains c.in-Some.ensures.gains

pub returns-in-Some-clause-ordered : goal.returns-in-Some-clause-ordered
returns-in-Some-clause-ordered g c =
    run_ends c.args.book.now (g.L.Links.seen c.args.links.now) (g.L.Links.seen c.hearing.links) (g.L.Links.seen c.step_paced.new.links) c.args.search.now c.hearing.search c.step_paced.new.search c.args.trace.now c.hearing.trace c.step_paced.new.trace c.in-Some.outcome
    c.hearing.invariant.seeks.grows.keeps c.hearing.invariant.seeks.same_ask c.hearing.invariant.seeks.bounded c.hearing.invariant.seeks.can_turn c.in-Some.ensures.steps c.in-Some.ensures.ordered c.hearing.invariant.ordered
