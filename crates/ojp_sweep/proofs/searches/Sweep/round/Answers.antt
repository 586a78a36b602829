use Rattle.std.proofs.Common.{◌∙◌, sym, subst, refl}
use Rattle.ojp_sweep.specs.Rounds.{IsReadyBy}
use Rattle.ojp_sweep.proofs.RoundFacts.{round-low, round-arrives, round-next}
use Rattle.ojp_sweep.proofs.searches.Sweep.round.Goals as goal

pub returns-clause-found : goal.returns-clause-found
returns-clause-found c count rounds =
    let s = c.args.self.now in
    let days = c.args.days.now in
    let l = c.settle.new.progress.labels in
    let done = c.settle.ensures in
    let same = done.kept rounds.in_round ∙ c.exchange.ensures.ready in
    let before = subst (λ row. IsReadyBy row s.net days s.asked count) (sym same) rounds.next in
    record {
      rounds = record {
        room = done.room;
        search = rounds.search;
        in_round = rounds.in_round;
        next = round-next l.arrives.items l.ready.items l.next.items l.hops.items s.net days s.asked rounds.search done.labels rounds.in_round done.closed count before;
      };
      asked_is = refl;
      low = round-low l.arrives.items l.ready.items l.next.items l.hops.items s.net days s.asked rounds.search done.labels rounds.in_round done.closed count before;
      arrives = round-arrives l.arrives.items l.ready.items l.next.items l.hops.items s.net days s.asked rounds.search done.labels rounds.in_round done.closed count before;
    }
