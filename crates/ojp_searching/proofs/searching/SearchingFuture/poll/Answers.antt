use Rattle.std.proofs.Common.{◌≡◌, ◌∙◌, Option, Some, refl, sym, subst}
use Rattle.futures.specs.declared.task.Poll.{Poll}
use Rattle.futures.specs.Poll.{OnPending}
use Rattle.ojp_turns.specs.Searches.{CanTurn}
use Rattle.ojp_gateway.specs.Passing.{Sought as IsSought}
use Rattle.ojp_searching.specs.declared.searching.Going.{Going}
use Rattle.ojp_searching.specs.declared.searching.Searching.{Searching}
use Rattle.ojp_searching.specs.declared.searching.Sought.{Sought}
use Rattle.ojp_searching.specs.Futures.{Gives, GivesFrom, MayTurn, PollsFrom, PollsGoing}
use Rattle.ojp_searching.proofs.SearchingFacts.{gives_before, gives_end, goes_on}
use Rattle.ojp_searching.proofs.searching.SearchingFuture.poll.Goals as goal

pub returns-in-Ok-clause-again : goal.returns-in-Ok-clause-again
returns-in-Ok-clause-again g c =
    let was : c.args.self.now.going ≡ Some c.in-Some.going = sym c.take.ensures.value ∙ c.in-Some.is in
    let can = subst (MayTurn g.L.Links.seen c.args.self.now.book) was c.requires in
    let seeks = goes_on g.L.Links.seen c.args.self.now.book c.in-Some.going can c.in-Ok.going.search c.in-Ok.going.links c.in-Ok.ensures.0 c.in-Ok.ensures.1 c.in-Ok.ensures.2 in
    subst (λ (answer : Poll (Sought g.row.L.Denot)). OnPending answer (CanTurn c.args.self.now.book c.in-Ok.going.search (g.L.Links.seen c.in-Ok.going.links))) (sym c.yield_now-in-Ok.ensures.pending) seeks.can_turn

pub returns-in-Ok-clause-same : goal.returns-in-Ok-clause-same
returns-in-Ok-clause-same g c =
    let was : c.args.self.now.going ≡ Some c.in-Some.going = sym c.take.ensures.value ∙ c.in-Some.is in
    let can = subst (MayTurn g.L.Links.seen c.args.self.now.book) was c.requires in
    subst (λ (answer : Poll (Sought g.row.L.Denot)). OnPending answer ((x : Sought g.row.L.Denot) → IsSought c.args.self.now.book (g.L.Links.seen c.in-Ok.going.links) (g.L.Links.seen x.links) c.in-Ok.going.search x.search x.outcome → Gives g.L.Links.seen c.args.self.now x))
    (sym c.yield_now-in-Ok.ensures.pending)
    (λ x sought. subst (λ (o : Option (Going g.row.L.Denot)). GivesFrom g.L.Links.seen c.args.self.now.book o x) (sym was)
    (gives_before g.L.Links.seen c.args.self.now.book c.in-Some.going can c.in-Ok.going c.in-Ok.ensures.0 x c.in-Ok.ensures.1 c.in-Ok.ensures.2 sought))

pub returns-in-Ok-clause-once : goal.returns-in-Ok-clause-once
returns-in-Ok-clause-once g c =
    let was : c.args.self.now.going ≡ Some c.in-Some.going = sym c.take.ensures.value ∙ c.in-Some.is in
    let now : Searching g.row.L.Denot = record { alloc = c.args.self.now.alloc; book = c.args.self.now.book; going = Some c.in-Ok.going } in
    subst (λ (o : Option (Going g.row.L.Denot)). PollsFrom g.L.Links.seen c.args.self.now o now c.yield_now-in-Ok.result) (sym was)
    (subst (λ (answer : Poll (Sought g.row.L.Denot)). PollsGoing g.L.Links.seen c.args.self.now.book c.in-Some.going now answer) (sym c.yield_now-in-Ok.ensures.pending) (c.in-Ok.going, refl, refl, c.in-Ok.ensures))

pub returns-in-Err-clause-value : goal.returns-in-Err-clause-value
returns-in-Err-clause-value g c =
    let was : c.args.self.now.going ≡ Some c.in-Some.going = sym c.take.ensures.value ∙ c.in-Some.is in
    subst (λ (o : Option (Going g.row.L.Denot)). GivesFrom g.L.Links.seen c.args.self.now.book o c.in-Err.sought) (sym was)
    (gives_end g.L.Links.seen c.args.self.now.book c.in-Some.going c.in-Err.sought c.in-Err.ensures)
