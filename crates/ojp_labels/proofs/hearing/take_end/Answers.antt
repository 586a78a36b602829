use Rattle.std.proofs.Common.{◌≡◌, ◌+◌, ℕ, Option, true, length, nat_le, sym, subst, ap, ◌∙◌}
use Rattle.std.specs.Prelude.{MatchOption}
use Rattle.ojp_timetable.specs.Runs.{day_long}
use Rattle.ojp_exchange.specs.Places.{IsPairAt, NoPairAt}
use Rattle.ojp_labels.specs.Labels.{lowered_by}
use Rattle.ojp_labels.proofs.LabelFacts.{lowered_length}
use Rattle.ojp_labels.proofs.HearFacts.{edges_within, end_follows, end_nowhere, end_best}
use Rattle.ojp_labels.proofs.hearing.take_end.Goals as goal
use Rattle.ojp_labels.proofs.hearing.take_end.Goals.{in-Some, in_default-place_of}

pub arrive-requires-clause-within : goal.arrive-requires-clause-within
arrive-requires-clause-within c = edges_within c.args.book.now c.in-Some.place c.edges.result.now _ c.edges.ensures c.requires.count

pub returns-clause-count : goal.returns-clause-count
returns-clause-count c =
    elim c.match-place_of.branch [
      | in-Some w ↦ ap (λ v. length v.items) w.labels-is ∙ (ap length w.arrive.ensures ∙ (lowered_length w.edges.result.now w.seconds.result c.args.labels.now.items ∙ c.requires.count))
      | in_default-place_of w ↦ ap (λ v. length v.items) w.labels-is ∙ c.requires.count
    ]

pub returns-clause-follow : goal.returns-clause-follow
returns-clause-follow c =
    let within : nat_le c.in-Trip.trip.end (c.args.ask.now.start + day_long) ≡ true = sym c.is_within_day.ensures ∙ c.if-not-is_within_day.false in
    elim c.match-place_of.branch [
      | in-Some w ↦
          end_follows c.args.book.now c.args.ask.now c.args.region w.in-Some.place w.edges.result.now c.args.one.now c.in-Trip.trip c.args.labels.now.items c.match-place_of.labels.items c.is_well.ensures w.edges.ensures w.in-Some.ensures c.in-Trip.is within
          (ap (λ v. v.items) w.labels-is ∙ (w.arrive.ensures ∙ ap (λ n. lowered_by w.edges.result.now n c.args.labels.now.items) w.seconds.ensures.value))
      | in_default-place_of w ↦
          end_nowhere c.args.book.now c.args.ask.now c.args.region c.args.one.now c.in-Trip.trip c.args.labels.now.items c.match-place_of.labels.items c.is_well.ensures
          (subst (λ (o : Option ℕ). MatchOption o (NoPairAt c.args.book.now c.args.ask.now.target c.args.region) (λ place. IsPairAt c.args.book.now place c.args.ask.now.target c.args.region)) w.in_default-place_of.is c.place_of.ensures)
          c.in-Trip.is within (ap (λ v. v.items) w.labels-is)
    ]

pub returns-clause-best : goal.returns-clause-best
returns-clause-best c =
    let within : nat_le c.in-Trip.trip.end (c.args.ask.now.start + day_long) ≡ true = sym c.is_within_day.ensures ∙ c.if-not-is_within_day.false in
    c.better.ensures ∙ end_best c.args.ask.now c.args.region c.args.one.now c.in-Trip.trip c.args.best c.in-Trip.is within
