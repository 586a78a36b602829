-- How a connection was served, by what was read of it and what was written to it, whatever answers an ask.
use Rattle.std.proofs.Common.{◌≡◌, ℕ, ◌⊎◌, inl, inr, List, [], ◌++◌, Option, Some, None, IfSome, Ok, Err, refl, sym, ap, subst, arith, append-nil}
use Rattle.std.specs.Prelude.{Result}
use Rattle.std.specs.Io.KnownBytes.{Keeps}
use Rattle.ojp_values.specs.Texts.{Text}
use Rattle.ojp_values.specs.declared.asks.Ask.{Ask}
use Rattle.ojp_values.specs.declared.replies.Delivery.{Delivery}
use Rattle.ojp_values.specs.declared.documents.Doc.TheVariants as docs
use Rattle.ojp_outside.specs.Causes.{Rests, Rose}
use Rattle.ojp_outside.specs.Seen.{SinkView}
use Rattle.ojp_grammar.specs.declared.refusals.Want.TheVariants.{Request}
use Rattle.ojp_grammar.specs.declared.refusals.Refused.{Refused}
use Rattle.ojp_grammar.specs.Answering.{AnswersBody, RefusesBody, SpellsAsk}
use Rattle.ojp_grammar.specs.Reasons.{refusal_line}
use Rattle.ojp_grammar.specs.Places.{IsDocumentRefused}
use Rattle.ojp_grammar.proofs.OnePlace.{only_more_refused}
use Rattle.ojp_http.specs.declared.served.Served.{Served}
use Rattle.ojp_http.specs.declared.served.Served.TheVariants.{Answered, ReadFault, WriteFault, NoMemory}
use Rattle.ojp_http.specs.declared.refusal.HttpRefusal.{HttpRefusal}
use Rattle.ojp_http.specs.Asking.{Allows}
use Rattle.ojp_http.specs.Connections.{Serves, Wire, WritesFor, WritesPrefixFor}
use Rattle.ojp_http.specs.Serving.{RespondsWith, ServedAs}
use Rattle.ojp_http.proofs.ServingFacts.{serves_body, serves_none, serves_refusal}
use Rattle.ojp_http.proofs.WrittenRequests.{body_is_only}
use Rattle.ojp_bodies.specs.declared.requests.Declined.{Declined}
use Rattle.ojp_bodies.specs.declared.requests.Declined.TheVariants as declined
use Rattle.ojp_bodies.specs.Reading.{IsAsked, TakesAsk}
use Rattle.ojp_bodies.specs.Writing.{Declines, Delivers, GivesUp, Refuses, TellsPlace, WritesDelivery}

-- ---- what was read asks something, or not

-- a request that gave an ask asks it, where its bytes are told
pub asked_by : (left : Option Text) (bytes body : Text) (ask : Ask) → left ≡ Some bytes → Allows left (Ok body) → SpellsAsk ask body → IsAsked (Some bytes)
asked_by left bytes body ask is allowed spells =
    record {
      bytes = bytes;
      told = refl;
      body = body;
      framed = subst (λ (l : Option Text). Allows l (Ok body)) is allowed (λ q. cc) (λ q. cc);
      ask = ask;
      spells = spells;
    }

kept : (written : Option (List ℕ)) → Keeps written written
kept None = tt
kept (Some bytes) = refl

module _ (Relates : Ask → Delivery → Type 0) (old new : Wire) where
  gives_up : (how : Served) → new.input.faults ≡ old.input.faults → GivesUp old.output new.output how → Serves (AnswersBody Relates) old new how
  gives_up how calm (is, writes) = subst (Serves (AnswersBody Relates) old new) (sym is) (serves_none (AnswersBody Relates) old new calm writes)

  -- an ask that was answered by a delivery that stands in the relation to it
  pub serves_delivered : (ask : Ask) (delivery : Delivery) (how : Served) → TakesAsk old.input new.input (Ok ask) → Relates ask delivery → WritesDelivery delivery old.output new.output how
      → Serves (AnswersBody Relates) old new how
  serves_delivered ask delivery how takes relates (text, spelled, writes) =
      serves_body (AnswersBody Relates) old new (takes.calm (λ q. cc)) takes.gives.0 text 200 takes.gives.1
      (inr (record { ask = ask; asked = takes.gives.2; delivery = delivery; relates = relates; is_status = refl; is_text = spelled })) how writes

  -- an ask for which there was no memory
  pub serves_without : (ask : Ask) (how : Served) → TakesAsk old.input new.input (Ok ask) → GivesUp old.output new.output how → Serves (AnswersBody Relates) old new how
  serves_without ask how takes gives = gives_up how (takes.calm (λ q. cc)) gives

  -- an ask for whose answer there was memory, whether or not there was for its document
  pub serves_delivery : (ask : Ask) (delivery : Delivery) (how : Served) → TakesAsk old.input new.input (Ok ask) → Relates ask delivery → Delivers delivery old.output new.output how
      → Serves (AnswersBody Relates) old new how
  serves_delivery ask delivery how takes relates (inl writes) = serves_delivered ask delivery how takes relates writes
  serves_delivery ask delivery how takes relates (inr gives) = serves_without ask how takes gives

  refused_http : (refusal : HttpRefusal) (how : Served) → TakesAsk old.input new.input (Err (declined.Http refusal)) → Refuses refusal old.output new.output how → Serves (AnswersBody Relates) old new how
  refused_http refusal how takes (inl (is, read, same)) =
      subst (Serves (AnswersBody Relates) old new) (sym read)
      (subst (λ (o : SinkView). Serves (AnswersBody Relates) old (record { input = new.input; output = o }) ReadFault) (sym same) (kept old.output.written, record { reads = takes.fault (ap (λ (r : HttpRefusal). Err (declined.Http r)) is); writes = refl }))
  refused_http refusal how takes (inr (inl (is, gives))) = gives_up how (takes.calm (λ q. cc)) gives
  refused_http refusal how takes (inr (inr ((read, memory), writes))) =
      serves_refusal (AnswersBody Relates) old new (takes.calm (λ q. read (cc))) refusal takes.gives read memory how writes

  refused_body : (refused : Refused) (how : Served) → TakesAsk old.input new.input (Err (declined.Body refused)) → TellsPlace refused old.output new.output how → Serves (AnswersBody Relates) old new how
  refused_body refused how takes (inl writes) =
      serves_body (AnswersBody Relates) old new (takes.calm (λ q. cc)) takes.gives.0 (refusal_line refused.at refused.reason) 400 takes.gives.1
      (inl (record { at = refused.at; reason = refused.reason; refused = takes.gives.2; is_status = refl; is_text = refl })) how writes
  refused_body refused how takes (inr gives) = gives_up how (takes.calm (λ q. cc)) gives

  -- a request that asks nothing
  pub serves_declined : (why : Declined) (how : Served) → TakesAsk old.input new.input (Err why) → Declines why old.output new.output how → Serves (AnswersBody Relates) old new how
  serves_declined (declined.Http refusal) how takes declines = refused_http refusal how takes declines
  serves_declined (declined.Body refused) how takes declines = refused_body refused how takes declines

-- ---- what follows from how it was served

-- a count that rests did not rise
no_rise : (before now : ℕ) → Rests before now → Rose before now → ⊥
no_rise before now rests rose = omega (arith, rests.same, rests.below_end, rose)

-- the document of an ask is not refused
not_refused : (ask : Ask) (body text : Text) (status : ℕ) → SpellsAsk ask body → RefusesBody body status text → ⊥
not_refused ask body text status spells refuses =
    let at_end : body ++ [] ≡ body = append-nil body in
    let refused = subst (λ (bytes : Text). IsDocumentRefused Request bytes refuses.at refuses.reason) (sym at_end) refuses.refused in
    let whole = subst (λ (bytes : Text). IsDocumentRefused Request (bytes ++ []) refuses.at refuses.reason) spells.spells refused in
    (only_more_refused Request (docs.Ask ask) [] refuses.at refuses.reason spells.wanted whole).0 refl

module _ (Relates : Ask → Delivery → Type 0) where
  -- a document of an ask is answered with 200
  delivered : (ask : Ask) (body text : Text) (status : ℕ) → SpellsAsk ask body → AnswersBody Relates body status text → status ≡ 200
  delivered ask body text status spells (inl refuses) = absurd (not_refused ask body text status spells refuses)
  delivered ask body text status spells (inr delivers) = delivers.is_status

  -- and so is a request that asks something
  pub served_ask : (old new : Wire) (served : Served) → Serves (AnswersBody Relates) old new served → IsAsked old.input.left
      → Rests old.input.faults new.input.faults → Rests old.output.faults new.output.faults → (served ≡ Answered 200) ⊎ (served ≡ NoMemory)
  served_ask old new (Answered status) serves asked reads writes =
      let written : IfSome (Some asked.bytes) (WritesFor (AnswersBody Relates) old new status) =
      subst (λ (left : Option Text). IfSome left (WritesFor (AnswersBody Relates) old new status)) asked.told serves.0 in
      let out = written.0 in
      let response = written.1 in
      let only = body_is_only asked.bytes asked.body response.outcome asked.framed response.allowed in
      let responds = subst (λ (outcome : Result Text HttpRefusal). RespondsWith (AnswersBody Relates) outcome status out) only response.responds in
      inl (ap Answered (delivered asked.ask asked.body responds.0 status asked.spells responds.1))
  served_ask old new ReadFault serves asked reads writes = absurd (no_rise old.input.faults new.input.faults reads serves.1.reads)
  served_ask old new WriteFault serves asked reads writes = absurd (no_rise old.output.faults new.output.faults writes serves.1.writes)
  served_ask old new NoMemory serves asked reads writes = inr refl

-- ---- a wider relation

module _ (Narrow Wide : Ask → Delivery → Type 0) (widens : (ask : Ask) (delivery : Delivery) → Narrow ask delivery → Wide ask delivery) where
  body_on : (body : Text) (status : ℕ) (text : Text) → AnswersBody Narrow body status text → AnswersBody Wide body status text
  body_on body status text (inl refuses) = inl refuses
  body_on body status text (inr it) =
      inr (record { ask = it.ask; asked = it.asked; delivery = it.delivery; relates = widens it.ask it.delivery it.relates; is_status = it.is_status; is_text = it.is_text })

  responds_on : (outcome : Result Text HttpRefusal) (status : ℕ) (out : Text) → RespondsWith (AnswersBody Narrow) outcome status out → RespondsWith (AnswersBody Wide) outcome status out
  responds_on (Ok body) status out (text, answers, is) = (text, body_on body status text answers, is)
  responds_on (Err refusal) status out it = it

  served_on : (bytes : Text) (status : ℕ) (out : Text) → ServedAs (AnswersBody Narrow) bytes status out → ServedAs (AnswersBody Wide) bytes status out
  served_on bytes status out it = record { outcome = it.outcome; allowed = it.allowed; responds = responds_on it.outcome status out it.responds }

  module _ (old new : Wire) where
    whole_on : (left : Option Text) (status : ℕ) → IfSome left (WritesFor (AnswersBody Narrow) old new status) → IfSome left (WritesFor (AnswersBody Wide) old new status)
    whole_on None status it = tt
    whole_on (Some bytes) status (out, as_it, appends) = (out, served_on bytes status out as_it, appends)

    prefix_on : (left : Option Text) → IfSome left (WritesPrefixFor (AnswersBody Narrow) old new) → IfSome left (WritesPrefixFor (AnswersBody Wide) old new)
    prefix_on None it = tt
    prefix_on (Some bytes) (status, out, as_it, appends) = (status, out, served_on bytes status out as_it, appends)

    -- what was served by a relation was served by each that is wider
    pub serves_on : (served : Served) → Serves (AnswersBody Narrow) old new served → Serves (AnswersBody Wide) old new served
    serves_on (Answered status) it = (whole_on old.input.left status it.0, it.1)
    serves_on ReadFault it = it
    serves_on WriteFault it = (prefix_on old.input.left it.0, it.1)
    serves_on NoMemory it = it
