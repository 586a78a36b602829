use Rattle.std.proofs.Common.{◌≡◌, ◌≤◌}
use Rattle.ojp_traces.specs.Lines.{Gains}
use Rattle.ojp_turns.specs.Searches.{asks_of}
use Rattle.ojp_gateway.specs.Passing.{work_left}
use Rattle.ojp_gateway.proofs.SeekFacts.{SeeksOn}
use Rattle.ojp_gateway.proofs.OrderRunFacts.{RunTo}
use Rattle.ojp_gateway.proofs.seeking.seek_paced.Given as goal

abbrev pub invariant-searching : goal.invariant-searching
invariant-searching g l = record {
  seeks : SeeksOn l.book (g.L.Links.seen l.fn.links) (g.L.Links.seen l.links) l.fn.search l.search;
  counted : l.counter ≤ asks_of l.search;
  gains : Gains l.fn.trace l.trace;
  ordered : RunTo l.book (g.L.Links.seen l.fn.links) (g.L.Links.seen l.links) l.fn.search l.search l.fn.trace l.trace;
}

abbrev pub invariant-hearing : goal.invariant-hearing
invariant-hearing g l = record {
  seeks : SeeksOn l.book (g.L.Links.seen l.fn.links) (g.L.Links.seen l.links) l.fn.search l.search;
  as_before : l.before ≡ asks_of l.search;
  gains : Gains l.fn.trace l.trace;
  ordered : RunTo l.book (g.L.Links.seen l.fn.links) (g.L.Links.seen l.links) l.fn.search l.search l.fn.trace l.trace;
}

abbrev pub decreases-hearing : goal.decreases-hearing
decreases-hearing g l = work_left (g.L.Links.seen l.links) l.search
