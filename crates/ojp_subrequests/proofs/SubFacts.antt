-- What may be rejected.
use Rattle.std.proofs.Common.{◌≡◌, ℕ, inl, inr, Bool, true, List, [], ◌++◌, sym, ◌∙◌, subst, append-nil}
use Rattle.ojp_values.specs.declared.replies.Delivery.{Delivery}
use Rattle.ojp_http.specs.Asking.{HttpReply}
use Rattle.ojp_http.specs.Continued.{OpenHoldsNone}
use Rattle.ojp_links.specs.declared.expect.Expect.{Expect}
use Rattle.ojp_links.specs.declared.links.More.{More}
use Rattle.ojp_links.specs.declared.links.More.TheVariants as mores
use Rattle.ojp_links.specs.Laws.{OneDelivery}
use Rattle.ojp_links.specs.Replies.{FitsExpected, IsExpectedOf, IsHopeless, IsReplyOf}
use Rattle.ojp_links.specs.Seen.{View, ask_at, code_at, codes_of}
use Rattle.ojp_links.specs.Calls.{MayReject, Rejects}
use Rattle.ojp_subrequests.specs.Hearing.{CarriesNone, HasHeard, HearingView}
use Rattle.ojp_subrequests.specs.Views.{SubView}
use Rattle.ojp_subrequests.specs.Subrequests.{AfterLook, AreCondemned, IsNews, IsOwn}
use Rattle.ojp_subrequests.specs.declared.subreply.SubPoll.{SubPoll}
use Rattle.ojp_subrequests.specs.declared.subreply.SubPoll.TheVariants as polls
use Rattle.ojp_subrequests.specs.declared.subreply.SubEnd.TheVariants as ends

-- ---- what may be rejected

pub may_reject : (s : SubView) (v : View) → IsOwn s (codes_of v.fixed) (v.live s.key) → IsHopeless s.expect (ask_at v s.key).taken (ask_at v s.key).ended → MayReject v s.key s.expect
may_reject s v own hopeless = record {
  live = own.live;
  of_region = subst (λ (r : ℕ). IsExpectedOf (code_at v r) s.expect) (sym own.of_region) own.expected;
  asked = own.asked;
  hopeless = hopeless;
}

pub none_hopeless : (expect : Expect) (taken : List ℕ) (ended : Bool) → CarriesNone taken → IsHopeless expect taken ended
none_hopeless expect taken ended none more delivery whole reply fits = none more delivery reply

pub unfit_hopeless : OneDelivery → (expect : Expect) (taken : List ℕ) (ended : Bool) (delivery : Delivery) → IsReplyOf taken delivery → (FitsExpected expect delivery → ⊥) → IsHopeless expect taken ended
unfit_hopeless one expect taken ended delivery reply unfit more other whole longer fits =
    unfit (subst (FitsExpected expect) (one taken more delivery other reply longer).1 fits)

pub ended_hopeless : OpenHoldsNone → (h : HearingView) (expect : Expect) (taken : List ℕ) (ended : Bool) → ended ≡ true → HasHeard h taken → IsHopeless expect taken ended
ended_hopeless none h expect taken ended e heard more delivery whole reply fits =
    let here : HttpReply (taken ++ []) reply.0 = subst (λ (m : List ℕ). HttpReply (taken ++ m) reply.0) (whole e) reply.1 in
    let all : taken ≡ (taken ++ []) ++ [] = sym (append-nil (taken ++ []) ∙ append-nil taken) in
    none h.reply taken heard.got (taken ++ []) [] reply.0 heard.stage heard.fed all here

-- ---- after a look

-- a subrequest with these parts
abbrev pub sub_of : ℕ → ℕ → Expect → HearingView → Bool → SubView
sub_of key region expect h over = record { key = key; region = region; expect = expect; heard = h; over = over }

pub ends_rejected : (s now : SubView) (seen new : View) (answer : SubPoll) (more : More) → answer ≡ polls.Over ends.Failed → now.over ≡ true → IsNews more → Rejects seen new s.key
    → IsHopeless s.expect (ask_at seen s.key).taken (ask_at seen s.key).ended → (more ≡ mores.Got → AreCondemned s.expect (ask_at seen s.key).taken) → AfterLook answer more seen new s now
ends_rejected s now seen new answer more e over news rejects hopeless condemned =
    subst (λ (a : SubPoll). AfterLook a more seen new s now) (sym e) (over, inr (news, record { rejects = rejects; hopeless = hopeless; condemned = condemned }))

pub none_condemned : (expect : Expect) (taken : List ℕ) (more : More) → CarriesNone taken → more ≡ mores.Got → AreCondemned expect taken
none_condemned expect taken more none e = inl none

pub unfit_condemned : (expect : Expect) (taken : List ℕ) (delivery : Delivery) (more : More) → IsReplyOf taken delivery → (FitsExpected expect delivery → ⊥) → more ≡ mores.Got → AreCondemned expect taken
unfit_condemned expect taken delivery more reply unfit e = inr (delivery, reply, unfit)

pub end_is_no_piece : (expect : Expect) (taken : List ℕ) (more : More) → more ≡ mores.End → more ≡ mores.Got → AreCondemned expect taken
end_is_no_piece expect taken more e got = absurd cc
