-- What a region's server wrote for a request, and what is heard of it.
use Rattle.std.proofs.Common.{◌≡◌, ℕ, ◌<◌, ◌^◌, ◌⊎◌, inl, inr, Bool, true, List, [], ◌++◌, length, sym, ◌∙◌, ap, subst, arith, append-nil, length-append}
use Rattle.std.specs.Prelude.{Result, Ok}
use Rattle.std.proofs.lemmas.List.{nil_from_length}
use Rattle.ojp_values.specs.declared.asks.Ask.{Ask}
use Rattle.ojp_values.specs.declared.replies.Delivery.{Delivery}
use Rattle.ojp_values.specs.declared.documents.Doc.TheVariants as docs
use Rattle.ojp_grammar.specs.declared.refusals.Want.TheVariants as wants
use Rattle.ojp_grammar.specs.Items.{spell}
use Rattle.ojp_grammar.specs.Documents.{items}
use Rattle.ojp_grammar.specs.Answering.{AnswersBody, DeliversBody, RefusesBody, SpellsAsk, SpellsDelivery}
use Rattle.ojp_grammar.specs.Laws.{AreShort, OneSpelling}
use Rattle.ojp_http.specs.declared.refusal.HttpRefusal.{HttpRefusal}
use Rattle.ojp_http.specs.Asking.{HttpReply}
use Rattle.ojp_http.specs.Laws.{AnswerIsReply, BodyIsOnly, NoReplyBeginsAnother, OneBody}
use Rattle.ojp_http.specs.Serving.{RespondsWith, ServedBy, response}
use Rattle.ojp_links.specs.declared.expect.Expect.{Expect}
use Rattle.ojp_links.specs.Replies.{FitsExpected, IsFront, IsHopeless, IsReplyOf, Requests}

-- the response delivers what stands in the relation to the ask
pub record Delivers (R : Ask → Delivery → Type 0) (ask : Ask) (out : List ℕ) : Type 0 where
  pub delivery : Delivery
  pub relates : R ask delivery
  pub text : List ℕ
  pub spells : SpellsDelivery delivery text
  pub is : out ≡ response 200 text

-- behind a whole there is nothing more
nothing_more : (xs ys : List ℕ) → xs ≡ xs ++ ys → ys ≡ []
nothing_more xs ys e = nil_from_length ys (omega (arith, ap length e, length-append xs ys))

module _ (spelling : OneSpelling) where
  one_ask : (x y : Ask) (body : List ℕ) → SpellsAsk x body → SpellsAsk y body → x ≡ y
  one_ask x y body a b =
      let both : spell (items (docs.Ask x)) ++ [] ≡ spell (items (docs.Ask y)) ++ [] = ap (λ (t : List ℕ). t ++ []) (sym a.spells ∙ b.spells) in
      let e : docs.Ask x ≡ docs.Ask y = (spelling wants.Request (docs.Ask x) (docs.Ask y) [] [] a.wanted b.wanted both).0 in
      cc

  one_of_text : (x y : Delivery) (body : List ℕ) → SpellsDelivery x body → SpellsDelivery y body → x ≡ y
  one_of_text x y body a b =
      let both : spell (items (docs.Delivery x)) ++ [] ≡ spell (items (docs.Delivery y)) ++ [] = ap (λ (t : List ℕ). t ++ []) (sym a.spells ∙ b.spells) in
      let e : docs.Delivery x ≡ docs.Delivery y = (spelling wants.Delivery (docs.Delivery x) (docs.Delivery y) [] [] a.wanted b.wanted both).0 in
      cc

  -- a reply has one delivery, and none begins another
  pub one_of_bytes : OneBody → NoReplyBeginsAnother → (bytes more : List ℕ) (delivery other : Delivery) → IsReplyOf bytes delivery → IsReplyOf (bytes ++ more) other → (more ≡ []) × (other ≡ delivery)
  one_of_bytes body begins bytes more delivery other a b =
      let none = begins bytes more a.0 b.0 a.1 b.1 in
      let whole : bytes ++ more ≡ bytes = ap (λ (m : List ℕ). bytes ++ m) none ∙ append-nil bytes in
      let same : b.0 ≡ a.0 = body bytes b.0 a.0 (subst (λ (xs : List ℕ). HttpReply xs b.0) whole b.1) a.1 in
      (none, one_of_text other delivery a.0 (subst (λ (text : List ℕ). SpellsDelivery other text) same b.2) a.2)

  answered : (R : Ask → Delivery → Type 0) (ask : Ask) (body : List ℕ) (status : ℕ) (text out : List ℕ) → SpellsAsk ask body → RefusesBody body status text ⊎ DeliversBody R body status text
      → out ≡ response status text → Delivers R ask out
  answered R ask body status text out asked (inl refuses) is = absurd (refuses.refused.none (docs.Ask ask) asked.wanted asked.spells)
  answered R ask body status text out asked (inr d) is = record {
    delivery = d.delivery;
    relates = subst (λ (a : Ask). R a d.delivery) (one_ask d.ask ask body d.asked asked) d.relates;
    text = text;
    spells = d.is_text;
    is = is ∙ ap (λ (s : ℕ). response s text) d.is_status;
  }

  -- the response to the request of an ask
  pub delivered : BodyIsOnly → (R : Ask → Delivery → Type 0) (ask : Ask) (request out : List ℕ) → Requests request ask → ServedBy (AnswersBody R) request out → Delivers R ask out
  delivered only R ask request out asked served =
      let e : served.1.outcome ≡ Ok asked.0 = only request asked.0 served.1.outcome asked.1 served.1.allowed in
      let r : RespondsWith (AnswersBody R) (Ok asked.0) served.0 out =
      subst (λ (outcome : Result (List ℕ) HttpRefusal). RespondsWith (AnswersBody R) outcome served.0 out) e served.1.responds in
      answered R ask asked.0 served.0 r.0 out asked.2 r.1 r.2

short : AreShort → (delivery : Delivery) (text : List ℕ) → SpellsDelivery delivery text → length text < 2 ^ 64
short are_short delivery text spells =
    let all : length (spell (items (docs.Delivery delivery))) < 2 ^ 41 = are_short wants.Delivery (docs.Delivery delivery) spells.wanted in
    let is : length text ≡ length (spell (items (docs.Delivery delivery))) = ap length spells.spells in
    omega arith

-- it is a reply of the delivery
pub is_reply : AnswerIsReply → AreShort → (R : Ask → Delivery → Type 0) (ask : Ask) (out : List ℕ) (d : Delivers R ask out) → IsReplyOf out d.delivery
is_reply answer are_short R ask out d =
    (d.text, subst (λ (bytes : List ℕ). HttpReply bytes d.text) (sym d.is) (answer d.text (short are_short d.delivery d.text d.spells)), d.spells)

-- bytes drawn from it are not hopeless, where what it delivers fits
pub not_hopeless : (expect : Expect) (taken out : List ℕ) (ended : Bool) (delivery : Delivery) → IsReplyOf out delivery → FitsExpected expect delivery → IsFront taken out → (ended ≡ true → taken ≡ out)
    → IsHopeless expect taken ended → ⊥
not_hopeless expect taken out ended delivery reply fits front whole hopeless =
    hopeless front.0 delivery (λ e. nothing_more taken front.0 (whole e ∙ front.1)) (subst (λ (bytes : List ℕ). IsReplyOf bytes delivery) front.1 reply) fits
