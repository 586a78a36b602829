-- A request is put through the gateway, and its response holds the answer.
use Rattle.std.proofs.Common.{◌≡◌, inl, inr, ℕ, ◌<◌, ◌≤◌, ◌^◌, List, [], ◌++◌, length, Some, refl, sym, ◌∙◌, ap, subst, arith}
use Rattle.std.specs.Prelude.{Result, codes}
use Rattle.ojp_outside.specs.Memory.{MemSinkView, MemSourceView}
use Rattle.ojp_outside.specs.MemorySeen.{sink_of, source_of}
use Rattle.ojp_values.specs.Texts.{Text}
use Rattle.ojp_values.specs.declared.asks.Ask.{Ask}
use Rattle.ojp_values.specs.declared.documents.Doc.TheVariants as docs
use Rattle.ojp_values.specs.declared.replies.Delivery.{Delivery}
use Rattle.ojp_timetable.specs.GatewayAnswers.{GatewayAnswers}
use Rattle.ojp_timetable.specs.Tables.{Timetable}
use Rattle.ojp_exchange.specs.Book.{Book}
use Rattle.ojp_grammar.specs.Answering.{AnswersBody, DeliversBody}
use Rattle.ojp_grammar.specs.Documents.{IsWell, items}
use Rattle.ojp_grammar.specs.Items.{spell}
use Rattle.ojp_grammar.specs.Laws.{AreShort, OneSpelling}
use Rattle.ojp_grammar.specs.Short.{RequestsAreShort}
use Rattle.ojp_grammar.specs.declared.refusals.Want.TheVariants as wants
use Rattle.ojp_http.specs.declared.refusal.HttpRefusal.{HttpRefusal}
use Rattle.ojp_http.specs.declared.served.Served.{Served}
use Rattle.ojp_http.specs.declared.served.Served.TheVariants.{Answered, NoMemory}
use Rattle.ojp_http.specs.Asking.{HttpReply}
use Rattle.ojp_http.specs.Connections.{Serves, wire}
use Rattle.ojp_http.specs.Laws.{AnswerIsReply, GivesOnly, RequestIsAsk}
use Rattle.ojp_http.specs.Responses.{request_bytes}
use Rattle.ojp_http.specs.Serving.{RespondsWith, response}
use Rattle.ojp_bodies.specs.Reading.{IsAsked}
use Rattle.ojp_links.specs.Seen.{View}
use Rattle.ojp_records.specs.declared.queries.Entry.{Entry}
use Rattle.ojp_gateway.specs.Serving.{NoFaultRose, ServesOne}
use Rattle.ojp_subrequests.proofs.BeginFacts.{host_text}
use Rattle.ojp_load.specs.Asking.{IsRequestOf}
use Rattle.ojp_load.specs.Ready.{IsReady}
use Rattle.ojp_load.specs.Replies.{IsResponse}

-- ---- the request

abbrev pub host : Text
host = codes "GATEWAY"

pub request_is : (ask : Ask) (written bytes : Text) → RequestsAreShort → RequestIsAsk → IsWell (docs.Ask ask) → written ≡ spell (items (docs.Ask ask)) → bytes ≡ request_bytes host written → IsRequestOf ask bytes
request_is ask written bytes short gives well spells is =
    let small : length written ≤ 1048576 = omega (arith, short (docs.Ask ask) (tt, well), ap (λ (t : Text). length t) spells) in
    record {
      body = written;
      spells = record { wanted = (tt, well); spells = spells };
      gives = subst (λ (b : Text). GivesOnly b written) (sym is) (gives host written (host_text host refl) small);
    }

-- ---- the response

pub reply_is : (bytes : Text) (delivery : Delivery) (r : IsResponse bytes delivery) → AnswerIsReply → AreShort → HttpReply bytes r.text
reply_is bytes delivery r answers short =
    let few : length r.text < 2 ^ 64 = omega (arith, short wants.Delivery (docs.Delivery delivery) r.spells.wanted, ap (λ (t : Text). length t) r.spells.spells) in
    subst (λ (b : Text). HttpReply b r.text) (sym r.is) (answers r.text few)

-- what a response of status 200 holds
pub record IsAnswered (tables : List Timetable) (ask : Ask) (written : Text) : Type 0 where
  pub delivery : Delivery
  pub response_is : IsResponse written delivery
  pub answers : GatewayAnswers tables ask delivery

module _ (v w : View) (tables : List Timetable) (book : Book) (ready : IsReady tables book v) (calm : NoFaultRose v w) (ask : Ask) (input given : MemSourceView) (output taken : MemSinkView) (how : Served) (told : List Entry) where
  module _ (is : IsRequestOf ask input.left) (empty : output.written ≡ []) (one : OneSpelling) where
    delivered : (text : Text) → DeliversBody (GatewayAnswers tables) is.body 200 text → taken.written ≡ response 200 text → IsAnswered tables ask taken.written
    delivered text d written =
        let same : docs.Ask d.ask ≡ docs.Ask ask =
        (one wants.Request (docs.Ask d.ask) (docs.Ask ask) [] [] d.asked.wanted is.spells.wanted (ap (λ (t : Text). t ++ []) (sym d.asked.spells ∙ is.spells.spells))).0 in
        let asked : d.ask ≡ ask = cc in
        record {
          delivery = d.delivery;
          response_is = record { text = text; spells = d.is_text; is = written };
          answers = subst (λ (a : Ask). GatewayAnswers tables a d.delivery) asked d.relates;
        }

    by_text : (text : Text) → AnswersBody (GatewayAnswers tables) is.body 200 text → taken.written ≡ response 200 text → IsAnswered tables ask taken.written
    by_text text (inl refused) written = let status = refused.is_status in absurd (omega (arith, status))
    by_text text (inr d) written = delivered text d written

    pub answered : ServesOne book v w (wire (source_of input) (sink_of output)) (wire (source_of given) (sink_of taken)) how told → how ≡ Answered 200 → IsAnswered tables ask taken.written
    answered s e =
        let serves =
        subst (Serves (AnswersBody (GatewayAnswers tables)) (wire (source_of input) (sink_of output)) (wire (source_of given) (sink_of taken))) e (s.exact tables (ready.is_open.tells, ready.theirs) calm) in
        let by = serves.0.1 in
        let only = is.gives.only by.outcome by.allowed in
        let responds = subst (λ (o : Result Text HttpRefusal). RespondsWith (AnswersBody (GatewayAnswers tables)) o 200 serves.0.0) only by.responds in
        by_text responds.0 responds.1 (serves.0.2 ∙ (ap (λ (t : Text). t ++ serves.0.0) empty ∙ responds.2))

  -- no other status is answered
  module _ (is : IsRequestOf ask input.left) (reads : input.faults ≡ 0) (writes : output.faults ≡ 0) where
    pub only_200 : (status : ℕ) → ServesOne book v w (wire (source_of input) (sink_of output)) (wire (source_of given) (sink_of taken)) how told → how ≡ Answered status → status ≡ 200
    only_200 status s e =
        let serves =
        subst (Serves (AnswersBody (GatewayAnswers tables)) (wire (source_of input) (sink_of output)) (wire (source_of given) (sink_of taken))) e (s.exact tables (ready.is_open.tells, ready.theirs) calm) in
        let no_reads = serves.1.reads in
        let no_writes = serves.1.writes in
        let asked : IsAsked (Some input.left) = record { bytes = input.left; told = refl; body = is.body; framed = is.gives.gives; ask = ask; spells = is.spells } in
        elim (s.complete asked (record { same = no_reads; below_end = omega (arith, no_reads, reads) }) (record { same = no_writes; below_end = omega (arith, no_writes, writes) })) [
          | inl h ↦ let same : Answered status ≡ Answered 200 = sym e ∙ h in cc
          | inr h ↦ let clash : Answered status ≡ NoMemory = sym e ∙ h in absurd (cc clash)
        ]
