-- A reply that goes on.
use Rattle.std.specs.Prelude.{◌≡◌, List, ℕ, ◌++◌}
use Rattle.ojp_http.specs.Verdicts.{cut}
use Rattle.ojp_http.specs.Bodies.{Replies}
use Rattle.ojp_http.specs.Asking.{HttpReply}
use Rattle.ojp_http.specs.declared.fed.Stage.TheVariants.{Reading}
use Rattle.ojp_http.specs.Replying.{ReplyView, HasFed}

-- where bytes are cut, the body of each reply that they go on to begins with what they hold of it
abbrev pub BodyGoesOn : Type 0
BodyGoesOn = (bytes more got body : List ℕ) → Replies bytes (cut got) → HttpReply (bytes ++ more) body → (tail : List ℕ) × (body ≡ got ++ tail)

-- while a reply goes on, no front of the bytes fed is a whole reply
abbrev pub OpenHoldsNone : Type 0
OpenHoldsNone = (r : ReplyView) (bytes got front rest body : List ℕ) → r.stage ≡ Reading → HasFed r bytes got → bytes ≡ front ++ rest → ¬ (HttpReply front body)

-- and the body of each reply that the bytes fed begin begins with what was gained
abbrev pub OpenGoesOn : Type 0
OpenGoesOn = (r : ReplyView) (bytes got more body : List ℕ) → r.stage ≡ Reading → HasFed r bytes got → HttpReply (bytes ++ more) body → (tail : List ℕ) × (body ≡ got ++ tail)
