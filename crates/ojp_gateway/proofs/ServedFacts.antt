-- One connection that was served, by the answer to its ask, or by why it asks nothing.
use Rattle.std.proofs.Common.{◌≡◌, ◌≢◌, ℕ, List, [], Result, Ok, Err, sym, ◌∙◌, subst, inl, inr, arith}
use Rattle.ojp_outside.specs.Causes.{Rests}
use Rattle.ojp_outside.specs.Seen.{SinkView}
use Rattle.ojp_values.specs.Lists.{Each}
use Rattle.ojp_values.specs.Texts.{Text}
use Rattle.ojp_values.specs.declared.memory.NoMemory.{NoMemory as OutOfMemory}
use Rattle.ojp_values.specs.declared.asks.Ask.{Ask}
use Rattle.ojp_values.specs.declared.asks.Ask.TheVariants as asks
use Rattle.ojp_values.specs.declared.replies.Delivery.{Delivery}
use Rattle.ojp_timetable.specs.Tables.{Timetable}
use Rattle.ojp_timetable.specs.GatewayAnswers.{GatewayAnswers}
use Rattle.ojp_exchange.specs.Book.{Book}
use Rattle.ojp_grammar.specs.declared.refusals.Refused.{Refused}
use Rattle.ojp_grammar.specs.Answering.{AnswersBody}
use Rattle.ojp_grammar.specs.Reasons.{refusal_line}
use Rattle.ojp_http.specs.declared.refusal.HttpRefusal.{HttpRefusal}
use Rattle.ojp_http.specs.declared.refusal.HttpRefusal.TheVariants as refusals
use Rattle.ojp_http.specs.Serving.{refusal_response, refusal_status, response}
use Rattle.ojp_http.specs.declared.served.Served.{Served}
use Rattle.ojp_http.specs.declared.served.Served.TheVariants.{Answered, ReadFault, WriteFault, NoMemory}
use Rattle.ojp_http.specs.Connections.{Serves, Wire, WritesAs}
use Rattle.ojp_bodies.specs.declared.requests.Declined.{Declined}
use Rattle.ojp_bodies.specs.declared.requests.Declined.TheVariants as declined
use Rattle.ojp_bodies.specs.Reading.{TakesAsk}
use Rattle.ojp_bodies.specs.Writing.{Declines, GivesUp, Refuses, TellsPlace}
use Rattle.ojp_bodies.proofs.ServedFacts.{asked_by, served_ask, serves_declined, serves_delivered, serves_on, serves_without}
use Rattle.ojp_links.specs.Seen.{View, NoneLive}
use Rattle.ojp_records.specs.declared.queries.Entry.{Entry}
use Rattle.ojp_turns.specs.Faults.{FaultRose, HasCause}
use Rattle.ojp_turns.proofs.PollFacts.{keeps_self}
use Rattle.ojp_gateway.specs.declared.answering.Answer.{Answer}
use Rattle.ojp_gateway.specs.Answers.{Answers, IsRight}
use Rattle.ojp_gateway.specs.Answering.{AnswersAsk}
use Rattle.ojp_gateway.specs.Serving.{Concludes, HandsBack, IsOfAnswer, NoFaultRose, ServesExactly, ServesOne}
use Rattle.ojp_gateway.proofs.AnswerFacts.{none_rejected}

-- ---- where no region failed, the answer is that of the timetables

none_failed : (old new : View) (code : Text) → NoFaultRose old new → FaultRose old new code → ⊥
none_failed old new code rests (region, within, is, rose) =
    let rest : Rests (old.faults region) (new.faults region) = rests region within in
    omega (arith, rest.same, rest.below_end, rose)

exactly : (old new : View) (tables : List Timetable) (ask : Ask) (delivery : Delivery) → NoFaultRose old new → IsRight old new tables ask delivery → GatewayAnswers tables ask delivery
exactly old new tables (asks.Trip ask) delivery rests (inl answers) = answers
exactly old new tables (asks.Trip ask) delivery rests (inr (inl (code, is, rose))) = absurd (none_failed old new code rests rose)
exactly old new tables (asks.Trip ask) delivery rests (inr (inr (is, unknown, (code, home, rose)))) = absurd (none_failed old new code rests rose)
exactly old new tables (asks.Multi ask) delivery rests right = right
exactly old new tables (asks.Events ask) delivery rests right = right
exactly old new tables (asks.Points ask) delivery rests right = right

pub serves_exactly : (book : Book) (old new : View) (before after : Wire) (how : Served) (told : List Entry) → Serves (AnswersBody (Answers book old new told)) before after how → ServesExactly book old new before after how
serves_exactly book old new before after how told serves tables tells rests =
    serves_on (Answers book old new told) (GatewayAnswers tables) (λ ask delivery answers. exactly old new tables ask delivery rests (answers.right tables tells)) before after how serves

-- ---- the record

of_written : (book : Book) (old new : View) (text : List ℕ) (mine yours : SinkView) (how : Served) (told : List Entry) → IsOfAnswer book old new told → WritesAs 200 text mine yours how → HandsBack book old new how told
of_written book old new text mine yours (Answered status) told of writes = (λ e. of, λ other. absurd (other writes.0))
of_written book old new text mine yours ReadFault told of writes = absurd writes
of_written book old new text mine yours WriteFault told of writes = inl of
of_written book old new text mine yours NoMemory told of writes = absurd writes

of_none : (book : Book) (old new : View) (status : ℕ) (text : List ℕ) (mine yours : SinkView) (how : Served) (told : List Entry) → status ≢ 200 → told ≡ [] → WritesAs status text mine yours how → HandsBack book old new how told
of_none book old new status text mine yours (Answered given) told other none writes = (λ e. absurd (other (sym writes.0 ∙ e)), λ apart. none)
of_none book old new status text mine yours ReadFault told other none writes = absurd writes
of_none book old new status text mine yours WriteFault told other none writes = inr none
of_none book old new status text mine yours NoMemory told other none writes = absurd writes

of_nothing : (book : Book) (old new : View) (mine yours : SinkView) (how : Served) (told : List Entry) → told ≡ [] → GivesUp mine yours how → HandsBack book old new how told
of_nothing book old new mine yours how told none gives = subst (λ (s : Served). HandsBack book old new s told) (sym gives.0) none

-- no refusal has the status of a delivery
no_success : (refusal : HttpRefusal) → refusal_status refusal ≢ 200
no_success refusals.Head e = omega (arith, e)
no_success refusals.TooLargeHead e = omega (arith, e)
no_success refusals.Method e = omega (arith, e)
no_success refusals.Target e = omega (arith, e)
no_success refusals.Host e = omega (arith, e)
no_success refusals.Length e = omega (arith, e)
no_success refusals.Conflict e = omega (arith, e)
no_success refusals.Coding e = omega (arith, e)
no_success refusals.TooLong e = omega (arith, e)
no_success refusals.Chunk e = omega (arith, e)
no_success refusals.Cut e = omega (arith, e)
no_success refusals.ReadFault e = omega (arith, e)
no_success refusals.NoMemory e = omega (arith, e)

module _ (book : Book) (old new : View) (mine yours : SinkView) (how : Served) (told : List Entry) (none : told ≡ []) where
  of_refused : (refusal : HttpRefusal) → Refuses refusal mine yours how → HandsBack book old new how told
  of_refused refusal (inl (is, read, same)) = subst (λ (s : Served). HandsBack book old new s told) (sym read) none
  of_refused refusal (inr (inl (is, gives))) = of_nothing book old new mine yours how told none gives
  of_refused refusal (inr (inr (bytes, writes))) = of_none book old new (refusal_status refusal) (refusal_response refusal) mine yours how told (no_success refusal) none writes

  of_place : (refused : Refused) → TellsPlace refused mine yours how → HandsBack book old new how told
  of_place refused (inl writes) = of_none book old new 400 (response 400 (refusal_line refused.at refused.reason)) mine yours how told (λ e. omega (arith, e)) none writes
  of_place refused (inr gives) = of_nothing book old new mine yours how told none gives

  of_declined : (why : Declined) → Declines why mine yours how → HandsBack book old new how told
  of_declined (declined.Http refusal) declines = of_refused refusal declines
  of_declined (declined.Body refused) declines = of_place refused declines

-- ---- the whole

module _ (book : Book) (old new : View) (before after : Wire) (how : Served) (told : List Entry) where
  -- whatever the record is, if what was served is right
  serves_so : (ask : Ask) (result : Result Answer OutOfMemory) → TakesAsk before.input after.input (Ok ask) → AnswersAsk book old new ask result → Serves (AnswersBody (Answers book old new told)) before after how
      → HandsBack book old new how told → Each (HasCause old new) told → ServesOne book old new before after how told
  serves_so ask result takes answered serves hands causes =
      record {
        keeps = answered.keeps;
        none_live = answered.none_live;
        none_rejected = answered.none_rejected;
        serves = serves;
        exact = serves_exactly book old new before after how told serves;
        complete = λ asked reads writes. served_ask (Answers book old new told) before after how serves asked reads writes;
        told = hands;
        unasked = λ bytes is unasked. absurd (unasked (asked_by before.input.left bytes takes.gives.0 ask is takes.gives.1 takes.gives.2));
        causes = causes;
        taken = takes.taken;
      }

  no_causes : told ≡ [] → Each (HasCause old new) told
  no_causes none = subst (Each (HasCause old new)) (sym none) tt

  -- there was no memory for the answer
  serves_none : (ask : Ask) (result : Result Answer OutOfMemory) → TakesAsk before.input after.input (Ok ask) → AnswersAsk book old new ask result → GivesUp before.output after.output how → told ≡ []
      → ServesOne book old new before after how told
  serves_none ask result takes answered gives none =
      serves_so ask result takes answered (serves_without (Answers book old new told) before after ask how takes gives) (of_nothing book old new before.output after.output how told none gives) (no_causes none)

  -- an ask was answered over links
  pub serves_answered : (ask : Ask) (result : Result Answer OutOfMemory) → TakesAsk before.input after.input (Ok ask) → AnswersAsk book old new ask result → Concludes result before.output after.output how told
      → ServesOne book old new before after how told
  serves_answered ask (Ok answer) takes answered (inl (writes, is)) =
      let relates : Answers book old new told ask answer.delivery = subst (λ (entries : List Entry). Answers book old new entries ask answer.delivery) (sym is) answered.answers in
      serves_so ask (Ok answer) takes answered (serves_delivered (Answers book old new told) before after ask answer.delivery how takes relates writes)
      (of_written book old new (response 200 writes.0) before.output after.output how told (ask, answer.delivery, relates) writes.2) relates.causes
  serves_answered ask (Ok answer) takes answered (inr (gives, none)) = serves_none ask (Ok answer) takes answered gives none
  serves_answered ask (Err no_memory) takes answered (gives, none) = serves_none ask (Err no_memory) takes answered gives none

-- a request that asks nothing was declined, and the links were left alone
pub serves_refused : (book : Book) (v : View) (before after : Wire) (how : Served) (told : List Entry) (why : Declined) → NoneLive v → TakesAsk before.input after.input (Err why)
    → Declines why before.output after.output how → told ≡ [] → ServesOne book v v before after how told
serves_refused book v before after how told why none_live takes declines none =
    let serves = serves_declined (Answers book v v told) before after why how takes declines in
    record {
      keeps = keeps_self v;
      none_live = none_live;
      none_rejected = none_rejected book v;
      serves = serves;
      exact = serves_exactly book v v before after how told serves;
      complete = λ asked reads writes. served_ask (Answers book v v told) before after how serves asked reads writes;
      told = of_declined book v v before.output after.output how told none why declines;
      unasked = λ bytes is unasked. none;
      causes = subst (Each (HasCause v v)) (sym none) tt;
      taken = takes.taken;
    }
