use Rattle.std.proofs.Common.{◌≡◌, length, sym, ap, ◌∙◌}
use Rattle.ojp_labels.specs.Labels.{lowered_by}
use Rattle.ojp_labels.proofs.LabelFacts.{lowered_length}
use Rattle.ojp_labels.proofs.HearFacts.{edges_within, arrive_follows, follow_by}
use Rattle.ojp_labels.proofs.hearing.take_result.Goals as goal

pub arrive-requires-clause-within : goal.arrive-requires-clause-within
arrive-requires-clause-within c = edges_within c.args.book.now c.args.way c.edges.result.now _ c.edges.ensures c.requires.count

pub returns-then-is_within_day-clause-count : goal.returns-then-is_within_day-clause-count
returns-then-is_within_day-clause-count c = ap length c.arrive.ensures ∙ (lowered_length c.edges.result.now c.seconds.result c.args.labels.now.items ∙ c.requires.count)

pub returns-then-is_within_day-clause-follow : goal.returns-then-is_within_day-clause-follow
returns-then-is_within_day-clause-follow c spot at =
    follow_by c.args.book.now c.args.ask.now spot c.args.one.now c.in-Trip.trip c.args.labels.now.items _ c.arrive.new.labels.items c.in-Trip.is
    (c.arrive.ensures ∙ ap (λ n. lowered_by c.edges.result.now n c.args.labels.now.items) c.seconds.ensures.value)
    (arrive_follows c.args.book.now c.args.ask.now c.args.way spot c.edges.result.now c.in-Trip.trip c.args.labels.now.items c.is_well.ensures c.edges.ensures at (sym c.is_within_day.ensures ∙ c.if-is_within_day.true))
