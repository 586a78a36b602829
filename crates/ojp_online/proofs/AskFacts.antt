-- One ask to one server, and how `ask` ends.
use Rattle.std.proofs.Common.{◌≡◌, ◌<◌, ℕ, false, length, Some, sym, ◌∙◌, ap, subst}
use Rattle.ojp_values.specs.declared.asks.Ask.{Ask}
use Rattle.ojp_links.specs.Seen.{View, Fixed}
use Rattle.ojp_links.specs.Calls.{Keeps}
use Rattle.ojp_subrequests.specs.Subrequests.{IsSafe, MakesAsk}
use Rattle.ojp_subrequests.specs.Views.{SubView}
use Rattle.ojp_online.specs.Added.{HasRejectedNone, HasRejectedNoneServed}
use Rattle.ojp_online.specs.Heard.{RejectsNoneServed}

-- an ask of which any delivery will do is safe where servers are told
pub rejects_none : (old mid new : View) (region : ℕ) (ask : Ask) (s : SubView) → Keeps old mid → MakesAsk old mid region ask false s → mid.rejections ≡ old.rejections
    → (IsSafe mid s s.expect → new.rejections ≡ mid.rejections) → RejectsNoneServed old new
rejects_none old mid new region ask s keeps made same safe tables told =
    safe (subst (IsSafe mid s) (sym made.expects) (tables, ap (λ (f : Fixed). f.servers) keeps.fixed ∙ told)) ∙ same

-- no rejection since the regions were added, where the call behind rejected none
pub still_none : (mid new : View) → Keeps mid new → HasRejectedNone mid → RejectsNoneServed mid new → HasRejectedNoneServed new
still_none mid new keeps none rejects tables told region below =
    let before : mid.fixed.servers ≡ Some tables = ap (λ (f : Fixed). f.servers) (sym keeps.fixed) ∙ told in
    ap (λ (f : ℕ → ℕ). f region) (rejects tables before) ∙ none region (subst (λ (f : Fixed). region < length f.stations) keeps.fixed below)
