use Rattle.std.proofs.Common.{List, subst, refl}
use Rattle.ojp_links.specs.Seen.{View}
use Rattle.ojp_links.specs.Calls.{Keeps}
use Rattle.ojp_regions.specs.declared.line.RegionLine.{RegionLine}
use Rattle.ojp_turns.proofs.PollFacts.{keeps_on}
use Rattle.ojp_online.specs.Added.{HasStations}
use Rattle.ojp_online.proofs.LearnFacts.{fails_to_learn, fails_for_doors, has_learned}
use Rattle.ojp_online.proofs.PassFacts.{regions_on}
use Rattle.ojp_online.proofs.joining.gateway.Goals as goal

pub returns-in-Err-learn_waiting-clause-ends : goal.returns-in-Err-learn_waiting-clause-ends
returns-in-Err-learn_waiting-clause-ends g c =
    let mid : View = g.L.Links.seen c.add_regions.new.links in
    fails_to_learn c.args.file.now c.args.listening.port c.args.listening.count _ _ _ _ mid c.in-Ok.regions c.in-Ok.ensures
    (subst (λ (r : List RegionLine). HasStations r mid) c.as_slice.ensures c.in-Ok-add_regions.ensures.added) c.learn_waiting.ensures.keeps
    c.in-Err-learn_waiting.refused c.failure_of_learning.result c.in-Err-learn_waiting.ensures.learns c.failure_of_learning.ensures refl refl

pub serve_gateway-requires-clause-regions : goal.serve_gateway-requires-clause-regions
serve_gateway-requires-clause-regions g c =
    regions_on c.in-Ok-learn_waiting.book (g.L.Links.seen c.add_regions.new.links) (g.L.Links.seen c.learn_waiting.new.links) c.learn_waiting.ensures.keeps c.in-Ok-learn_waiting.ensures.learns.regions

pub returns-in-Ok-serve_gateway-clause-ends : goal.returns-in-Ok-serve_gateway-clause-ends
returns-in-Ok-serve_gateway-clause-ends g c =
    let mid : View = g.L.Links.seen c.add_regions.new.links in
    let keeps : Keeps mid (g.L.Links.seen c.serve_gateway.new.links) = keeps_on mid (g.L.Links.seen c.learn_waiting.new.links) (g.L.Links.seen c.serve_gateway.new.links) c.learn_waiting.ensures.keeps c.in-Ok-serve_gateway.ensures.passes.keeps in
    record {
      book = c.in-Ok-learn_waiting.book;
      learned = has_learned c.args.file.now _ _ mid c.in-Ok.regions c.in-Ok.ensures
          (subst (λ (r : List RegionLine). HasStations r mid) c.as_slice.ensures c.in-Ok-add_regions.ensures.added) keeps c.in-Ok-learn_waiting.book c.in-Ok-learn_waiting.ensures.learns;
      is_ready = c.in-Ok-serve_gateway.ensures.serves.0;
      serves = c.in-Ok-serve_gateway.ensures.serves.1;
    }

pub returns-in-Err-Output-clause-ends : goal.returns-in-Err-Output-clause-ends
returns-in-Err-Output-clause-ends g c =
    let mid : View = g.L.Links.seen c.add_regions.new.links in
    let keeps : Keeps mid (g.L.Links.seen c.serve_gateway.new.links) = keeps_on mid (g.L.Links.seen c.learn_waiting.new.links) (g.L.Links.seen c.serve_gateway.new.links) c.learn_waiting.ensures.keeps c.serve_gateway.ensures.passes.keeps in
    let serves = rw c.in-Err-Output.field-0-is at c.in-Err-Output.ensures.serves in (
      (
        c.in-Ok-learn_waiting.book,
        has_learned c.args.file.now _ _ mid c.in-Ok.regions c.in-Ok.ensures
            (subst (λ (r : List RegionLine). HasStations r mid) c.as_slice.ensures c.in-Ok-add_regions.ensures.added) keeps c.in-Ok-learn_waiting.book c.in-Ok-learn_waiting.ensures.learns,
      ),
      serves.0,
      serves.1,
    )

pub returns-clause-ends : goal.returns-clause-ends
returns-clause-ends g c =
    let mid : View = g.L.Links.seen c.add_regions.new.links in
    let keeps : Keeps mid (g.L.Links.seen c.serve_gateway.new.links) = keeps_on mid (g.L.Links.seen c.learn_waiting.new.links) (g.L.Links.seen c.serve_gateway.new.links) c.learn_waiting.ensures.keeps c.serve_gateway.ensures.passes.keeps in
    fails_for_doors c.args.file.now c.args.listening.port c.args.listening.count _ _ _ _ c.in-Ok-learn_waiting.book
    (has_learned c.args.file.now _ _ mid c.in-Ok.regions c.in-Ok.ensures
    (subst (λ (r : List RegionLine). HasStations r mid) c.as_slice.ensures c.in-Ok-add_regions.ensures.added) keeps c.in-Ok-learn_waiting.book c.in-Ok-learn_waiting.ensures.learns)
    (rw c.in-Err-Doors.field-0-is at c.in-Err-Doors.ensures.serves)
