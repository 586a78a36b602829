use Rattle.std.proofs.Common.{ℕ, sym, ap, subst}
use Rattle.ojp_links.specs.Calls.{Looks}
use Rattle.ojp_subrequests.specs.Views.{SubView}
use Rattle.ojp_subrequests.proofs.PollFacts.{poll_safe, poll_told}
use Rattle.ojp_subrequests.proofs.subreply.Subreply.poll.Goals as goal

pub returns-clause-told : goal.returns-clause-told
returns-clause-told g c =
    let old = g.L.Links.seen c.args.links.now in
    let seen = g.L.Links.seen c.more-more.new.self in
    let looks = subst (λ (k : ℕ). Looks old seen k c.more-more.result) (ap (λ (s : SubView). s.key) c.self.view_is) c.more-more.ensures in
    poll_told old seen (g.L.Links.seen c.go_on.new.links) c.args.self.now c.go_on.new.self c.more-more.result c.go_on.result c.heard_is_given.ensures c.is_sound.ensures c.requires looks c.go_on.ensures

pub returns-clause-safe : goal.returns-clause-safe
returns-clause-safe g c =
    let old = g.L.Links.seen c.args.links.now in
    let seen = g.L.Links.seen c.more-more.new.self in
    let looks = subst (λ (k : ℕ). Looks old seen k c.more-more.result) (ap (λ (s : SubView). s.key) c.self.view_is) c.more-more.ensures in
    poll_safe old seen (g.L.Links.seen c.go_on.new.links) c.args.self.now c.go_on.new.self c.more-more.result c.go_on.result c.sure_is_never_hopeless.ensures c.kind_is_never_hopeless.ensures c.is_sound.ensures c.requires looks c.go_on.ensures
