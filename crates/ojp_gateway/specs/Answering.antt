-- One ask that the gateway answers: how it begins, how a search ends it, and what holds in the end.
use Rattle.std.specs.Prelude.{◌≡◌, Result, IfOk}
use Rattle.ojp_values.specs.Limits.{IsWellDelivery}
use Rattle.ojp_values.specs.declared.memory.NoMemory.{NoMemory}
use Rattle.ojp_values.specs.declared.asks.TripAsk.{TripAsk}
use Rattle.ojp_values.specs.declared.asks.Ask.{Ask}
use Rattle.ojp_values.specs.declared.asks.Ask.TheVariants as asks
use Rattle.ojp_values.specs.declared.replies.TripReply.{TripReply}
use Rattle.ojp_values.specs.declared.replies.TripReply.TheVariants as trip_replies
use Rattle.ojp_values.specs.declared.replies.Delivery.TheVariants as deliveries
use Rattle.ojp_exchange.specs.Book.{Book}
use Rattle.ojp_exchange.specs.Kept.{IsWellBook}
use Rattle.ojp_links.specs.Seen.{View, NoneLive}
use Rattle.ojp_links.specs.Calls.{Keeps}
use Rattle.ojp_turns.specs.declared.search.Outcome.{Outcome}
use Rattle.ojp_turns.specs.declared.search.Outcome.TheVariants as outcomes
use Rattle.ojp_turns.specs.declared.search.Search.{Search}
use Rattle.ojp_turns.specs.Searches.{IsNewFor, record_of}
use Rattle.ojp_gateway.specs.declared.answering.Answer.{Answer}
use Rattle.ojp_gateway.specs.declared.answering.Begun.{Begun}
use Rattle.ojp_gateway.specs.declared.answering.Begun.TheVariants as begun
use Rattle.ojp_gateway.specs.Answers.{Answers, NoneRejected}

-- an ask was answered over links, or memory ran out
pub record AnswersAsk (book : Book) (old new : View) (ask : Ask) (result : Result Answer NoMemory) : Type 0 where
  pub keeps : Keeps old new
  pub none_live : NoneLive new
  pub none_rejected : NoneRejected book old new
  pub answers : IfOk result (λ answer. Answers book old new answer.told ask answer.delivery)
  pub well : IfOk result (λ answer. IsWellDelivery answer.delivery)

-- an ask was answered without links, so over any whatever; or a search for its trip was made
abbrev pub Begins : Book → Ask → Begun → Type 0
Begins book ask (begun.Answered answer) = ((v : View) → Answers book v v answer.told ask answer.delivery) × IsWellDelivery answer.delivery
Begins book ask (begun.Search search) = (trip : TripAsk) × (ask ≡ asks.Trip trip) × IsNewFor book trip search × IsWellBook book

-- the answer is this reply, with the record of the search
abbrev pub IsReply : Search → TripReply → Answer → Type 0
IsReply search reply answer = (answer.delivery ≡ deliveries.Trip reply) × (answer.told ≡ record_of search)

-- the answer is the outcome of the search
abbrev pub IsOutcome : Search → Outcome → Answer → Type 0
IsOutcome search (outcomes.Trip trip) answer = IsReply search (trip_replies.Trip trip) answer
IsOutcome search (outcomes.Fault fault) answer = IsReply search (trip_replies.Fault fault) answer
IsOutcome search outcomes.NoMemory answer = ⊥
