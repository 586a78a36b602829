use Rattle.std.proofs.Common.{List, refl, subst, ap, ◌∙◌, arith}
use Rattle.ojp_feed_rows.specs.declared.trips.StopTime.{StopTime}
use Rattle.ojp_feed_trips.specs.Halts.{AreHalts, first_departure, open_halts}
use Rattle.ojp_feed_trips.proofs.HaltFacts.{open_stem}
use Rattle.ojp_feed_trips.proofs.weighing.weigh.Goals as goal

pub returns : goal.returns
returns c =
    let places = c.args.places.now in
    let halts = c.in_ok-halts.halts.items in
    let kept = c.in_ok-open.open.items in
    let value = c.as_slice-rows.ensures.value in
    record {
      trip_is = refl;
      begin_is = c.begin.ensures ∙ ap first_departure value;
      stem = subst (λ (rows : List StopTime). AreHalts rows places kept) value
          (open_stem c.as_slice-rows.result.now places c.args.as_open halts kept c.in_ok-halts.ensures (c.in_ok-open.ensures ∙ ap (open_halts c.args.as_open) c.as_slice.ensures.value));
      two = omega (arith, c.in_ok-open.open.ok.0);
    }
