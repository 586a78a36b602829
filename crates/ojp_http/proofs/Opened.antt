-- A reply that goes on, as it is seen from outside.
use Rattle.std.proofs.Common.{◌≡◌, ℕ, List, [], ◌++◌, sym, append-nil, subst}
use Rattle.ojp_http.specs.declared.fed.Stage.{Stage}
use Rattle.ojp_http.specs.declared.fed.Stage.TheVariants.{Reading}
use Rattle.ojp_http.specs.Verdicts.{whole, cut}
use Rattle.ojp_http.specs.Bodies.{Replies}
use Rattle.ojp_http.specs.Replying.{ReplyView, HasTaken, HasFed, HasFedAt}
use Rattle.ojp_http.specs.Continued.{OpenHoldsNone, OpenGoesOn}
use Rattle.ojp_http.proofs.Feeding.{cut_at}
use Rattle.ojp_http.proofs.WholeMessages.{replies_only, replies_extend}
use Rattle.ojp_http.proofs.Continuing.{body_goes_on_law, cut_whole}

-- the bytes fed would be cut if they ended here
pub open_cut : (r : ReplyView) (bytes got : List ℕ) → r.stage ≡ Reading → HasFed r bytes got → Replies bytes (cut got)
open_cut r bytes got s h =
    let t : HasTaken r bytes got = subst (λ (q : Stage). HasFedAt q r bytes got) s h in
    subst (λ (l : List ℕ). Replies l (cut got)) (append-nil bytes)
    (subst (λ (l : List ℕ). Replies (bytes ++ []) (cut l)) (append-nil got) (t.reads [] (cut []) (cut_at r.phase r.room r.kept r.count t.ready t.unfinished)))

pub open_holds_none : OpenHoldsNone
open_holds_none r bytes got front rest body s h is x =
    let all : Replies bytes (whole body rest) = subst (λ (l : List ℕ). Replies l (whole body rest)) (sym is) (replies_extend front rest body [] x) in
    cut_whole (replies_only bytes body rest (cut got) all (open_cut r bytes got s h))

pub open_goes_on : OpenGoesOn
open_goes_on r bytes got more body s h x = body_goes_on_law bytes more got body (open_cut r bytes got s h) x
