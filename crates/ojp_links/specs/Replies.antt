-- Replies as bytes: what carries a delivery, what is expected of one, and when bytes can't become such a reply any more.
use Rattle.std.specs.Prelude.{◌≡◌, ℕ, true, Bool, List, [], ◌++◌, Ok}
use Rattle.ojp_values.specs.Texts.{Text}
use Rattle.ojp_values.specs.declared.asks.Ask.{Ask}
use Rattle.ojp_values.specs.declared.asks.Ask.TheVariants as asks
use Rattle.ojp_values.specs.declared.replies.Delivery.{Delivery}
use Rattle.ojp_values.specs.declared.replies.Delivery.TheVariants as deliveries
use Rattle.ojp_grammar.specs.Answering.{SpellsAsk, SpellsDelivery, AnswersBody}
use Rattle.ojp_http.specs.Asking.{HttpAsk, HttpReply}
use Rattle.ojp_http.specs.Serving.{ServedBy}
use Rattle.ojp_timetable.specs.Tables.{Timetable}
use Rattle.ojp_timetable.specs.Answers.{RegionAnswers}
use Rattle.ojp_links.specs.Fits.{Fits}
use Rattle.ojp_links.specs.declared.expect.Expect.{Expect}
use Rattle.ojp_links.specs.declared.expect.Expect.TheVariants.{Region, Kind}

-- the bytes are the front of the whole
abbrev pub IsFront : List ℕ → List ℕ → Type 0
IsFront bytes whole = (more : List ℕ) × (whole ≡ bytes ++ more)

-- the bytes are one whole reply of status 200 with the document of the delivery
abbrev pub IsReplyOf : List ℕ → Delivery → Type 0
IsReplyOf bytes delivery = (body : List ℕ) × HttpReply bytes body × SpellsDelivery delivery body

-- some front of the bytes is such a reply
abbrev pub Carries : List ℕ → Delivery → Type 0
Carries bytes delivery = (front : List ℕ) × IsFront front bytes × IsReplyOf front delivery

-- the delivery is of the kind of the ask
abbrev pub IsOfKind : Ask → Delivery → Type 0
IsOfKind (asks.Trip ask) (deliveries.Trip reply) = Unit {0}
IsOfKind (asks.Multi ask) (deliveries.Multi reply) = Unit {0}
IsOfKind (asks.Events ask) (deliveries.Events reply) = Unit {0}
IsOfKind (asks.Points ask) (deliveries.Points reply) = Unit {0}
IsOfKind ask reply = ⊥

-- the delivery fits what is expected
abbrev pub FitsExpected : Expect → Delivery → Type 0
FitsExpected (Region code ask) delivery = Fits code ask delivery
FitsExpected (Kind ask) delivery = IsOfKind ask delivery

-- the ask whose reply is expected
abbrev pub ask_of : Expect → Ask
ask_of (Region code ask) = ask
ask_of (Kind ask) = ask

-- a code that is expected is that of the region
abbrev pub IsExpectedOf : Text → Expect → Type 0
IsExpectedOf region (Region code ask) = code ≡ region
IsExpectedOf region (Kind ask) = Unit {0}

-- the request is a whole one whose body is the document of the ask
abbrev pub Requests : List ℕ → Ask → Type 0
Requests request ask = (body : List ℕ) × HttpAsk request (Ok body) × SpellsAsk ask body

-- no reply that fits begins with the bytes; where the end was seen, they are no such reply themselves
abbrev pub IsHopeless : Expect → List ℕ → Bool → Type 0
IsHopeless expect bytes ended =
    (more : List ℕ) (delivery : Delivery) → (ended ≡ true → more ≡ []) → IsReplyOf (bytes ++ more) delivery → FitsExpected expect delivery → ⊥

-- a response that a server of the timetable gives for the request
abbrev pub ServesByTable : Timetable → List ℕ → List ℕ → Type 0
ServesByTable table request out = ServedBy (AnswersBody (RegionAnswers table)) request out
