use Rattle.std.proofs.Common.{◌≡◌, ◌+◌, ◌-◌, ◌<◌, ◌≤◌, ◌++◌, take, length, get_or, List, ap, sym, subst, arith}
use Rattle.std.proofs.lemmas.Bool.{eqb-false}
use Rattle.ojp_feed_rows.specs.declared.trips.Frequency.{Frequency}
use Rattle.ojp_feed_trips.proofs.StartFacts.{departures_are, rows_more, stem_more}
use Rattle.ojp_feed_trips.specs.Halts.{first_departure}
use Rattle.ojp_feed_trips.specs.Starts.{AddsRepeats, repeats}
use Rattle.ojp_feed_trips.proofs.starts.starts_of.Goals as goal

pub loop-frequency-preserved : goal.loop-frequency-preserved
loop-frequency-preserved c =
    let i = c.loop-frequency.frequency-index in
    let value = c.as_slice-frequency-items.ensures.value in
    let here = subst (λ (xs : List Frequency). i < length xs) value c.loop-frequency-test.true in
    let starts = c.loop-frequency.starts.items in
    let new = c.repeat.new.starts.items in
    record {
      stem = stem_more c.args.trip.now.frequencies.items i _ starts new here c.loop-frequency.invariant.stem (subst (λ (xs : List Frequency). AddsRepeats (get_or xs i _) starts new) value c.in_ok-repeat.ensures.stem);
      all = rows_more c.args.trip.now.frequencies.items i _ starts new c.args.most here c.loop-frequency.invariant.all
          (subst (λ (xs : List Frequency). new ≡ starts ++ take ((c.args.most + 1) - length starts) (repeats (get_or xs i _))) value c.in_ok-repeat.ensures.all);
    }

pub returns-clause-all : goal.returns-clause-all
returns-clause-all c =
    let rows = c.args.trip.now.frequencies.items in
    let i = c.loop-frequency.frequency-index in
    let behind = subst (λ (xs : List Frequency). length xs ≤ i) c.as_slice-frequency-items.ensures.value c.loop-frequency-test.false in
    let some : 1 ≤ length rows =
    let other : (c.args.trip.now.frequencies.len ≡ 0) → ⊥ = eqb-false c.args.trip.now.frequencies.len 0 (sym c.if-is_empty.ensures) in
    omega (arith, other, c.as_slice-frequency-items.ensures.len, ap length c.as_slice-frequency-items.ensures.value) in
    departures_are (first_departure c.args.trip.now.stop_times.items) rows i c.loop-frequency.starts.items c.args.most some behind c.loop-frequency.invariant.all
