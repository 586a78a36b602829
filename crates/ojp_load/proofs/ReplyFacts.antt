-- A whole response is read back.
use Rattle.std.proofs.Common.{◌≡◌, ℕ, List, [], ◌++◌, length, take, drop, refl, sym, ◌∙◌, ap, subst, append-nil, take-append-drop}
use Rattle.std.proofs.Math.Seq.{take-length}
use Rattle.std.specs.Prelude.{Result, Ok, Err}
use Rattle.ojp_values.specs.declared.documents.Doc.{Doc}
use Rattle.ojp_values.specs.declared.documents.Doc.TheVariants as docs
use Rattle.ojp_values.specs.declared.replies.Delivery.{Delivery}
use Rattle.ojp_grammar.specs.Answering.{SpellsDelivery}
use Rattle.ojp_grammar.specs.Documents.{items}
use Rattle.ojp_grammar.specs.Items.{spell}
use Rattle.ojp_grammar.specs.Laws.{OneSpelling}
use Rattle.ojp_grammar.specs.declared.refusals.Want.TheVariants as wants
use Rattle.ojp_grammar.specs.declared.refusals.Refused.{Refused}
use Rattle.ojp_decode.specs.declared.fed.Fed.{Fed}
use Rattle.ojp_decode.specs.declared.fed.Fed.TheVariants as reads
use Rattle.ojp_decode.specs.declared.fed.ReadRefused.{ReadRefused}
use Rattle.ojp_decode.specs.declared.fed.ReadRefused.TheVariants.{At}
use Rattle.ojp_decode.specs.Feeding.{FeedsOn, IsRead}
use Rattle.ojp_decode.specs.Progress.{reading, whole}
use Rattle.ojp_decode.specs.Standing.{Feeds, HasRead, ReaderView}
use Rattle.ojp_http.specs.Asking.{HttpReply}
use Rattle.ojp_http.specs.Continued.{OpenHoldsNone}
use Rattle.ojp_http.specs.Laws.{NoReplyBeginsAnother, OneBody}
use Rattle.ojp_http.specs.Replying.{Answers, AnswersAt, HasFed, HasFedAt, ReadsOn, ReplyView}
use Rattle.ojp_http.specs.declared.fed.ReplyFed.{ReplyFed}
use Rattle.ojp_http.specs.declared.fed.ReplyFed.TheVariants as feds
use Rattle.ojp_http.specs.declared.fed.ReplyRefused.{ReplyRefused}
use Rattle.ojp_http.specs.declared.fed.ReplyRefused.TheVariants as refused_as
use Rattle.ojp_http.specs.declared.fed.Stage.{Stage}
use Rattle.ojp_http.specs.declared.fed.Stage.TheVariants.{Reading}

-- ---- the framing

module _ (old new : ReplyView) (piece was after : List ℕ) (stage : old.stage ≡ Reading) (empty : HasFed old [] []) (none_was : was ≡ []) where
  -- what the first piece of a reply leads to
  first : (result : Result ReplyFed ReplyRefused) → ((bytes got : List ℕ) → HasFed old bytes got → Answers old new bytes got piece was after result) → ReadsOn new [] [] piece was after result
  first result f = subst (λ (s : Stage). AnswersAt s new [] [] piece was after result) stage (f [] [] empty)

  pub whole_body : (result : Result ReplyFed ReplyRefused) → ((bytes got : List ℕ) → HasFed old bytes got → Answers old new bytes got piece was after result) → (used : ℕ)
      → result ≡ Ok (feds.Whole used) → (body : List ℕ) → OneBody → NoReplyBeginsAnother → HttpReply piece body → after ≡ body
  whole_body result f used is body one begins h =
      let ended = subst (ReadsOn new [] [] piece was after) is (first result f) in
      let grows = ended.0 in
      let front : HttpReply (take used piece) grows.gained = subst (λ (s : Stage). HasFedAt s new (take used piece) grows.gained) ended.1 grows.fed in
      let none : drop used piece ≡ [] = begins (take used piece) (drop used piece) grows.gained body front (subst (λ (b : List ℕ). HttpReply b body) (sym (take-append-drop used piece)) h) in
      let all : take used piece ≡ piece = sym (append-nil (take used piece)) ∙ (ap (λ (b : List ℕ). take used piece ++ b) (sym none) ∙ take-append-drop used piece) in
      grows.grows ∙ (ap (λ (b : List ℕ). b ++ grows.gained) none_was ∙ one piece grows.gained body (subst (λ (b : List ℕ). HttpReply b grows.gained) all front) h)

  pub not_open : (result : Result ReplyFed ReplyRefused) → ((bytes got : List ℕ) → HasFed old bytes got → Answers old new bytes got piece was after result) → result ≡ Ok feds.More
      → (body : List ℕ) → OpenHoldsNone → HttpReply piece body → ⊥
  not_open result f is body none h =
      let goes = subst (ReadsOn new [] [] piece was after) is (first result f) in
      none new (take (length piece) piece) goes.grows.gained (take (length piece) piece) [] body goes.reads goes.grows.fed (sym (append-nil (take (length piece) piece)))
      (subst (λ (b : List ℕ). HttpReply b body) (sym (take-length piece)) h)

  pub not_bad : (result : Result ReplyFed ReplyRefused) → ((bytes got : List ℕ) → HasFed old bytes got → Answers old new bytes got piece was after result) → result ≡ Err refused_as.Bad
      → (body : List ℕ) → HttpReply piece body → ⊥
  not_bad result f is body h =
      let stops = subst (ReadsOn new [] [] piece was after) is (first result f) in
      (stops.decided refl).none [] body (subst (λ (b : List ℕ). HttpReply b body) (sym (append-nil piece)) h)

-- ---- the document

module _ (delivery : Delivery) (text : List ℕ) (s : SpellsDelivery delivery text) where
  pub not_refused : (new : ReaderView) (result : Result Fed ReadRefused) (refused : Refused) → Feeds (reading wants.Delivery []) text result new → result ≡ Err (At refused) → ⊥
  not_refused new result refused (after, read, follows) is =
      let decided = subst (λ (r : Result Fed ReadRefused). FeedsOn wants.Delivery [] text r after) is follows in
      decided.0.none (docs.Delivery delivery) [] s.wanted (s.spells ∙ sym (append-nil (spell (items (docs.Delivery delivery)))))

  pub whole_text : (new : ReaderView) (result : Result Fed ReadRefused) (used : ℕ) → Feeds (reading wants.Delivery []) text result new → result ≡ Ok (reads.Whole used) → HasRead new (whole wants.Delivery (take used text))
  whole_text new result used (after, read, follows) is =
      let ended = subst (λ (r : Result Fed ReadRefused). FeedsOn wants.Delivery [] text r after) is follows in
      subst (HasRead new) ended.1 read

  pub one_delivery : (doc : Doc) (used : ℕ) → OneSpelling → IsRead wants.Delivery (take used text) (Ok doc) → doc ≡ docs.Delivery delivery
  one_delivery doc used one (wanted, spells) =
      (one wants.Delivery doc (docs.Delivery delivery) (drop used text) [] wanted s.wanted
      (ap (λ (b : List ℕ). b ++ drop used text) (sym spells) ∙ (take-append-drop used text ∙ (s.spells ∙ sym (append-nil (spell (items (docs.Delivery delivery)))))))).0

pub same_delivery : (x y : Delivery) → docs.Delivery x ≡ docs.Delivery y → x ≡ y
same_delivery x y e = cc
