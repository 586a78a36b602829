use Rattle.std.proofs.Common.{sym, subst, ◌∙◌}
use Rattle.ojp_values.specs.Lists.{IsRising}
use Rattle.ojp_links.proofs.RisingFacts.{falls_here, none_left, rest_at, rises_first, rises_next, rises_whole, told_no, told_yes}
use Rattle.ojp_links.proofs.fitting.rising.rises.Goals as goal

pub items-init : goal.items-init
items-init g c = rises_first g.T.Before.before c.in-Some.first.now c.in-Some.rest.now

pub items-preserved : goal.items-preserved
items-preserved g c =
    let rest = c.in-Some.rest.now in
    let i = c.items.item-index in
    let at = rest_at rest i c.item-item.result c.items-test.true c.item-item.is in
    rises_next g.T.Before.before g.met.T.Before.carried c.in-Some.first.now rest c.items.last.now c.item-item.result _ _ at
    (sym c.is_before.ensures ∙ c.if-not-is_before.false)
    c.items.invariant

pub returns-then-not-is_before : goal.returns-then-not-is_before
returns-then-not-is_before g c =
    let rest = c.in-Some.rest.now in
    let i = c.items.item-index in
    let at = rest_at rest i c.item-item.result c.items-test.true c.item-item.is in
    told_no (IsRising g.T.Before.before c.args.items.now) (λ all.
    falls_here g.T.Before.before c.in-Some.first.now rest c.items.last.now c.item-item.result _ _ at
    (sym c.is_before.ensures ∙ c.if-not-is_before.true)
    c.items.invariant
    (subst (IsRising g.T.Before.before) c.in-Some.ensures.cases.0 all))

pub returns : goal.returns
returns g c =
    let rest = c.in-Some.rest.now in
    let left = none_left rest c.items.item-index c.items-test.false in
    told_yes (IsRising g.T.Before.before c.args.items.now)
    (subst (IsRising g.T.Before.before) (sym c.in-Some.ensures.cases.0)
    (rises_whole g.T.Before.before c.in-Some.first.now rest c.items.last.now _ left c.items.invariant))
