use Rattle.std.proofs.Common.{ℕ, List, refl, subst}
use Rattle.ojp_links.specs.Calls.{Begins}
use Rattle.ojp_subrequests.proofs.BeginFacts.{makes_ask}
use Rattle.ojp_subrequests.proofs.subreply.Subreply.begin.Goals as goal

pub returns-in-Ok-ask-clause-made : goal.returns-in-Ok-ask-clause-made
returns-in-Ok-ask-clause-made g c =
    let old = g.L.Links.seen c.args.links.now in
    let new = g.L.Links.seen c.ask.new.self in
    let key = c.in-Ok-ask.sub.key in
    let begins = subst (λ (r : List ℕ). Begins old new c.args.region r key) c.as_slice.ensures c.in-Ok-ask.ensures.ends in
    makes_ask c.a_request_gives_its_body.ensures c.requests_are_short.ensures old new c.args.region key c.args.ask c.into_ask-ask.result c.args.expect_region c.code-code.result c.in-Ok.bytes c.expected.result c.new.result c.code-code.ensures c.in-Ok.ensures c.into_ask-ask.ensures c.in-Ok-ask.ensures.keeps.fixed begins c.expected.ensures c.new.ensures

pub into_ask-ask-requires : goal.into_ask-ask-requires
into_ask-ask-requires g c = (c.args.ask, refl)
