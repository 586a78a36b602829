-- An ask that was answered, without links or by a search that came to its end.
use Rattle.std.proofs.Common.{Result, Ok, Err, IfOk, sym, subst}
use Rattle.ojp_values.specs.Limits.{IsWellDelivery}
use Rattle.ojp_values.specs.declared.memory.NoMemory.{NoMemory}
use Rattle.ojp_values.specs.declared.asks.TripAsk.{TripAsk}
use Rattle.ojp_values.specs.declared.asks.Ask.{Ask}
use Rattle.ojp_values.specs.declared.asks.Ask.TheVariants as asks
use Rattle.ojp_values.specs.declared.replies.TripReply.{TripReply}
use Rattle.ojp_values.specs.declared.replies.TripReply.TheVariants as trip_replies
use Rattle.ojp_values.specs.declared.replies.Delivery.{Delivery}
use Rattle.ojp_exchange.specs.Book.{Book}
use Rattle.ojp_exchange.specs.Kept.{IsWellBook}
use Rattle.ojp_links.specs.Seen.{View, NoneLive}
use Rattle.ojp_join.specs.Outcomes.{Ended}
use Rattle.ojp_turns.specs.declared.search.Outcome.{Outcome}
use Rattle.ojp_turns.specs.declared.search.Outcome.TheVariants as outcomes
use Rattle.ojp_turns.specs.declared.search.Search.{Search}
use Rattle.ojp_turns.specs.Searches.{EndsAs, IsNewFor, record_of}
use Rattle.ojp_turns.proofs.PollFacts.{keeps_self}
use Rattle.ojp_gateway.specs.declared.answering.Answer.{Answer}
use Rattle.ojp_gateway.specs.declared.answering.Begun.TheVariants as begun
use Rattle.ojp_gateway.specs.Passing.{Sought}
use Rattle.ojp_gateway.specs.Answers.{Answers}
use Rattle.ojp_gateway.specs.Answering.{AnswersAsk, Begins, IsOutcome, IsReply}
use Rattle.ojp_gateway.proofs.AnswerFacts.{ended_so, none_rejected, search_rejects, searched}
use Rattle.ojp_gateway.proofs.LengthFacts.{well_reply}

-- ---- without links

pub answers_alone : (book : Book) (v : View) (ask : Ask) (answer : Answer) → NoneLive v → Begins book ask (begun.Answered answer) → AnswersAsk book v v ask (Ok answer)
answers_alone book v ask answer none begins = record { keeps = keeps_self v; none_live = none; none_rejected = none_rejected book v; answers = begins.0 v; well = begins.1 }

-- ---- by a search

module _ (book : Book) (old new : View) (trip : TripAsk) (s now : Search) (fresh : IsNewFor book trip s) (well : IsWellBook book) where
  right_as : (outcome : Outcome) (reply : TripReply) (answer : Answer) → Sought book old new s now outcome → Ended book trip (record_of now) reply → IsReply now reply answer
      → Answers book old new answer.told (asks.Trip trip) answer.delivery × IsWellDelivery answer.delivery
  right_as outcome reply answer sought ended (is, told) = (
    subst (λ (d : Delivery). Answers book old new answer.told (asks.Trip trip) d) (sym is) (searched book trip old new s now outcome reply answer.told fresh sought ended told),
    subst IsWellDelivery (sym is) (well_reply book trip (record_of now) well reply ended),
  )

  right_by_outcome : (outcome : Outcome) (answer : Answer) → Sought book old new s now outcome → EndsAs book trip (record_of now) outcome → IsOutcome now outcome answer
      → Answers book old new answer.told (asks.Trip trip) answer.delivery × IsWellDelivery answer.delivery
  right_by_outcome (outcomes.Trip found) answer sought ended is = right_as (outcomes.Trip found) (trip_replies.Trip found) answer sought ended is
  right_by_outcome (outcomes.Fault fault) answer sought ended is = right_as (outcomes.Fault fault) (trip_replies.Fault fault) answer sought ended is
  right_by_outcome outcomes.NoMemory answer sought ended is = absurd is

  right_trip : (outcome : Outcome) (result : Result Answer NoMemory) → Sought book old new s now outcome → IfOk result (IsOutcome now outcome) → AnswersAsk book old new (asks.Trip trip) result
  right_trip outcome (Ok answer) sought is =
      let right = right_by_outcome outcome answer sought (ended_so book trip old new s now outcome fresh sought) is in
      record { keeps = sought.grows.keeps; none_live = sought.none_live; none_rejected = search_rejects book trip old new s now outcome fresh sought; answers = right.0; well = right.1 }
  right_trip outcome (Err e) sought is =
      record { keeps = sought.grows.keeps; none_live = sought.none_live; none_rejected = search_rejects book trip old new s now outcome fresh sought; answers = tt; well = tt }

pub answers_by_search : (book : Book) (old new : View) (ask : Ask) (s now : Search) (outcome : Outcome) (result : Result Answer NoMemory) → Begins book ask (begun.Search s) → Sought book old new s now outcome → IfOk result (IsOutcome now outcome)
    → AnswersAsk book old new ask result
answers_by_search book old new ask s now outcome result (trip, is, fresh, well) sought outcome_is =
    subst (λ (a : Ask). AnswersAsk book old new a result) (sym is) (right_trip book old new trip s now fresh well outcome result sought outcome_is)
