-- Laws of asks and their replies: what a region answers fits, what is heard is what was given, and what was given is never
-- hopeless.
use Rattle.std.specs.Prelude.{◌≡◌, ℕ, Bool, true, List, [], ◌++◌}
use Rattle.ojp_values.specs.declared.asks.Ask.{Ask}
use Rattle.ojp_values.specs.declared.replies.Delivery.{Delivery}
use Rattle.ojp_timetable.specs.Tables.{Timetable}
use Rattle.ojp_timetable.specs.Runs.{IsWell}
use Rattle.ojp_timetable.specs.Answers.{RegionAnswers}
use Rattle.ojp_links.specs.declared.expect.Expect.TheVariants as expects
use Rattle.ojp_links.specs.Fits.{Fits}
use Rattle.ojp_links.specs.Replies.{IsFront, IsHopeless, IsOfKind, IsReplyOf, Requests, ServesByTable}
use Rattle.ojp_links.specs.Sure.{IsSure}

-- what a region answers is of the ask's kind
abbrev pub AnswersAreOfKind : Type 0
AnswersAreOfKind = (table : Timetable) (ask : Ask) (delivery : Delivery) → RegionAnswers table ask delivery → IsOfKind ask delivery

-- what a region answers fits, where it is sure of the ask
abbrev pub AnswersFit : Type 0
AnswersFit =
    (table : Timetable) (ask : Ask) (delivery : Delivery) → IsWell table → IsSure table ask → RegionAnswers table ask delivery
    → Fits table.region ask delivery

-- a reply has one delivery, and none begins another
abbrev pub OneDelivery : Type 0
OneDelivery =
    (bytes more : List ℕ) (delivery other : Delivery) → IsReplyOf bytes delivery → IsReplyOf (bytes ++ more) other
    → (more ≡ []) × (other ≡ delivery)

-- what is heard of a server is its timetable's answer
abbrev pub HeardIsGiven : Type 0
HeardIsGiven =
    (table : Timetable) (request taken out : List ℕ) (ask : Ask) (delivery : Delivery) → Requests request ask
    → ServesByTable table request out → IsFront taken out → IsReplyOf taken delivery → RegionAnswers table ask delivery

-- the reply of a server that is sure of the ask is never hopeless
abbrev pub SureIsNeverHopeless : Type 0
SureIsNeverHopeless =
    (table : Timetable) (request taken out : List ℕ) (ask : Ask) (ended : Bool) → IsWell table → IsSure table ask
    → Requests request ask → ServesByTable table request out → IsFront taken out → (ended ≡ true → taken ≡ out)
    → IsHopeless (expects.Region table.region ask) taken ended → ⊥

-- nor is that of any server, where the kind alone is expected
abbrev pub KindIsNeverHopeless : Type 0
KindIsNeverHopeless =
    (table : Timetable) (request taken out : List ℕ) (ask : Ask) (ended : Bool) → Requests request ask
    → ServesByTable table request out → IsFront taken out → (ended ≡ true → taken ≡ out)
    → IsHopeless (expects.Kind ask) taken ended → ⊥
