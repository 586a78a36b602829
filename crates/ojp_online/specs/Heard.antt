-- What an ask of which any delivery of its kind will do gives.
use Rattle.std.specs.Prelude.{◌≡◌, ℕ, List, Some}
use Rattle.ojp_values.specs.declared.asks.Ask.{Ask}
use Rattle.ojp_values.specs.declared.replies.Delivery.{Delivery}
use Rattle.ojp_timetable.specs.Tables.{Timetable}
use Rattle.ojp_links.specs.Replies.{IsOfKind, IsReplyOf}
use Rattle.ojp_links.specs.Seen.{View}
use Rattle.ojp_gateway.specs.Learning.{IsServedBy}

-- the delivery was heard in a whole reply, is of the kind of the ask, and where servers are told, its server's answer
pub record IsHeard (v : View) (region : ℕ) (ask : Ask) (delivery : Delivery) : Type 0 where
  pub bytes : List ℕ
  pub reply : IsReplyOf bytes delivery
  pub kind : IsOfKind ask delivery
  pub answers : IsServedBy v region ask delivery

-- where servers are told, no count of rejections rose
abbrev pub RejectsNoneServed : View → View → Type 0
RejectsNoneServed old new = (tables : List Timetable) → old.fixed.servers ≡ Some tables → new.rejections ≡ old.rejections
