use Rattle.std.proofs.Common.{◌≡◌, ℕ, List, inl, refl, sym, ◌∙◌, subst, true≢false}
use Rattle.ojp_links.specs.declared.links.More.TheVariants as mores
use Rattle.ojp_links.specs.Replies.{FitsExpected, IsHopeless, IsReplyOf}
use Rattle.ojp_links.specs.Seen.{ask_at}
use Rattle.ojp_subrequests.specs.Hearing.{CarriesNone}
use Rattle.ojp_subrequests.specs.Views.{SubView}
use Rattle.ojp_subrequests.specs.Subrequests.{AfterLook, IsLookedIn}
use Rattle.ojp_subrequests.proofs.SubFacts.{ends_rejected, may_reject, none_condemned, none_hopeless, sub_of, unfit_condemned, unfit_hopeless}
use Rattle.ojp_subrequests.proofs.subreply.Subreply.hear.Goals as goal

pub reject-requires : goal.reject-requires
reject-requires g c =
    let v = g.L.Links.seen c.args.links.now in
    let key = c.self.inside.key in
    let expect = c.self.inside.expect in
    let s : SubView = sub_of key c.self.inside.region expect c.self.inside.hearing c.self.inside.is_over in
    let l : IsLookedIn s v mores.Got = subst (λ (it : SubView). IsLookedIn it v mores.Got) (sym c.self.view_is) c.requires in
    let reply : IsReplyOf (ask_at v key).taken c.in-Whole.delivery = subst (λ (bytes : List ℕ). IsReplyOf bytes c.in-Whole.delivery) c.bytes.ensures c.in-Whole.ensures in
    let hopeless : IsHopeless expect (ask_at v key).taken (ask_at v key).ended =
    unfit_hopeless c.one_delivery.ensures expect (ask_at v key).taken (ask_at v key).ended c.in-Whole.delivery reply (λ f. true≢false (sym (c.fits.ensures.1 f) ∙ c.if-not-fits.true)) in
    may_reject s v l.own hopeless

pub returns-then-not-fits : goal.returns-then-not-fits
returns-then-not-fits g c =
    let v = g.L.Links.seen c.args.links.now in
    let key = c.self.inside.key in
    let expect = c.self.inside.expect in
    let s : SubView = sub_of key c.self.inside.region expect c.self.inside.hearing c.self.inside.is_over in
    let l : IsLookedIn s v mores.Got = subst (λ (it : SubView). IsLookedIn it v mores.Got) (sym c.self.view_is) c.requires in
    let reply : IsReplyOf (ask_at v key).taken c.in-Whole.delivery = subst (λ (bytes : List ℕ). IsReplyOf bytes c.in-Whole.delivery) c.bytes.ensures c.in-Whole.ensures in
    let unfit : FitsExpected expect c.in-Whole.delivery → ⊥ = λ f. true≢false (sym (c.fits.ensures.1 f) ∙ c.if-not-fits.true) in
    let hopeless : IsHopeless expect (ask_at v key).taken (ask_at v key).ended =
    unfit_hopeless c.one_delivery.ensures expect (ask_at v key).taken (ask_at v key).ended c.in-Whole.delivery reply unfit in
    let new = g.L.Links.seen c.reject.new.links in
    subst (λ (it : SubView). AfterLook c.reject.result mores.Got v new it c.reject.new.self) c.self.view_is
    (ends_rejected s c.reject.new.self v new c.reject.result mores.Got c.reject.ensures.result c.reject.ensures.over (inl refl) c.reject.ensures.rejects hopeless (unfit_condemned expect (ask_at v key).taken c.in-Whole.delivery mores.Got reply unfit))

pub reject-requires-in-Refused : goal.reject-requires-in-Refused
reject-requires-in-Refused g c =
    let v = g.L.Links.seen c.args.links.now in
    let key = c.self.inside.key in
    let expect = c.self.inside.expect in
    let s : SubView = sub_of key c.self.inside.region expect c.self.inside.hearing c.self.inside.is_over in
    let l : IsLookedIn s v mores.Got = subst (λ (it : SubView). IsLookedIn it v mores.Got) (sym c.self.view_is) c.requires in
    let none : CarriesNone (ask_at v key).taken = subst CarriesNone c.bytes.ensures c.in-Refused.ensures in
    let hopeless : IsHopeless expect (ask_at v key).taken (ask_at v key).ended = none_hopeless expect (ask_at v key).taken (ask_at v key).ended none in
    may_reject s v l.own hopeless

pub returns-in-Refused : goal.returns-in-Refused
returns-in-Refused g c =
    let v = g.L.Links.seen c.args.links.now in
    let key = c.self.inside.key in
    let expect = c.self.inside.expect in
    let s : SubView = sub_of key c.self.inside.region expect c.self.inside.hearing c.self.inside.is_over in
    let l : IsLookedIn s v mores.Got = subst (λ (it : SubView). IsLookedIn it v mores.Got) (sym c.self.view_is) c.requires in
    let none : CarriesNone (ask_at v key).taken = subst CarriesNone c.bytes.ensures c.in-Refused.ensures in
    let hopeless : IsHopeless expect (ask_at v key).taken (ask_at v key).ended = none_hopeless expect (ask_at v key).taken (ask_at v key).ended none in
    let new = g.L.Links.seen c.reject-in-Refused.new.links in
    subst (λ (it : SubView). AfterLook c.reject-in-Refused.result mores.Got v new it c.reject-in-Refused.new.self) c.self.view_is
    (ends_rejected s c.reject-in-Refused.new.self v new c.reject-in-Refused.result mores.Got c.reject-in-Refused.ensures.result c.reject-in-Refused.ensures.over (inl refl) c.reject-in-Refused.ensures.rejects hopeless (none_condemned expect (ask_at v key).taken mores.Got none))
