-- A piece of a reply, and a piece of a document.
use Rattle.std.proofs.Common.{◌≡◌, ℕ, ◌+◌, ◌<◌, ◌≤◌, inl, inr, List, [], ◌∷◌, ◌++◌, length, take, drop, refl, sym, ◌∙◌, ap, subst, arith, append-nil, append_assoc, length-append, length-drop, take-append-drop}
use Rattle.std.specs.Prelude.{Ok, Err}
use Rattle.std.proofs.Math.Seq.{take-length}
use Rattle.ojp_values.specs.declared.asks.Ask.{Ask}
use Rattle.ojp_values.specs.declared.replies.Delivery.{Delivery}
use Rattle.ojp_values.specs.declared.documents.Doc.TheVariants as docs
use Rattle.ojp_grammar.specs.declared.refusals.Reason.{Reason}
use Rattle.ojp_grammar.specs.declared.refusals.Reason.TheVariants.{Truncated}
use Rattle.ojp_grammar.specs.declared.refusals.Refused.{Refused}
use Rattle.ojp_grammar.specs.declared.refusals.Want.{Want}
use Rattle.ojp_grammar.specs.declared.refusals.Want.TheVariants as wants
use Rattle.ojp_grammar.specs.Answering.{SpellsDelivery}
use Rattle.ojp_grammar.specs.Documents.{items}
use Rattle.ojp_grammar.specs.Items.{spell}
use Rattle.ojp_grammar.specs.Laws.{OnePlace, OneSpelling}
use Rattle.ojp_grammar.specs.Places.{IsDocumentRefused}
use Rattle.ojp_grammar.specs.Whole.{IsWhole}
use Rattle.ojp_http.specs.declared.fed.Stage.{Stage}
use Rattle.ojp_http.specs.declared.fed.Stage.TheVariants as stages
use Rattle.ojp_http.specs.declared.fed.ReplyFed.{ReplyFed}
use Rattle.ojp_http.specs.declared.fed.ReplyRefused.{ReplyRefused}
use Rattle.ojp_http.specs.Asking.{HttpReply}
use Rattle.ojp_http.specs.Laws.{NoReplyBeginsAnother}
use Rattle.ojp_http.specs.Replying.{Answers, AnswersAt, BeginsNoReply, Grows, HasFed, HasFedAt, ReadsOn, ReplyView}
use Rattle.std.specs.Prelude.{Result}
use Rattle.ojp_decode.specs.declared.fed.Fed.{Fed}
use Rattle.ojp_decode.specs.declared.fed.Fed.TheVariants as feds
use Rattle.ojp_decode.specs.declared.fed.ReadRefused.{ReadRefused}
use Rattle.ojp_decode.specs.declared.fed.ReadRefused.TheVariants.{At}
use Rattle.ojp_decode.specs.Feeding.{FeedsBehind}
use Rattle.ojp_decode.specs.Progress.{Progress, reading, whole}
use Rattle.ojp_decode.specs.Standing.{Feeds, Gives, HasRead, ReaderView}
use Rattle.ojp_subrequests.specs.Pieces.{BeginsNoDelivery, IsReadTo, MayGoOn}

-- ---- framing

-- what a piece leads to while the reply is read, where nothing of the body stands before
pub fed_as : (old new : ReplyView) (bytes got piece before after : List ℕ) (r s : Result ReplyFed ReplyRefused) → before ≡ [] → r ≡ s → old.stage ≡ stages.Reading → Answers old new bytes got piece before after r
    → ReadsOn new bytes got piece [] after s
fed_as old new bytes got piece before after r s none e stage a =
    subst (λ (b : List ℕ). ReadsOn new bytes got piece b after s) none
    (subst (λ (f : Result ReplyFed ReplyRefused). ReadsOn new bytes got piece before after f) e (subst (λ (at : Stage). AnswersAt at new bytes got piece before after r) stage a))

whole_fed : (new : ReplyView) (bytes got : List ℕ) → new.stage ≡ stages.Whole → HasFed new bytes got → HttpReply bytes got
whole_fed new bytes got e fed = subst (λ (s : Stage). HasFedAt s new bytes got) e fed

take_all : (n : ℕ) (piece : List ℕ) → n ≤ length piece → length piece ≤ n → take n piece ≡ piece
take_all n piece h k = ap (λ (m : ℕ). take m piece) (same n (length piece) h k) ∙ take-length piece
  where
    same : (m l : ℕ) → m ≤ l → l ≤ m → m ≡ l
    same m l h k = omega arith

pub is_whole : (new : ReplyView) (bytes got piece after : List ℕ) (used : ℕ) → Grows new bytes got piece [] after used → new.stage ≡ stages.Whole → length piece ≤ used → HttpReply (bytes ++ piece) (got ++ after)
is_whole new bytes got piece after used g e all =
    let reply : HttpReply (bytes ++ take used piece) (got ++ g.gained) = whole_fed new (bytes ++ take used piece) (got ++ g.gained) e g.fed in
    subst (λ (p : List ℕ). HttpReply (bytes ++ p) (got ++ after)) (take_all used piece g.within all) (subst (λ (a : List ℕ). HttpReply (bytes ++ take used piece) (got ++ a)) (sym g.grows) reply)

-- the bytes, cut where so many of the piece end
cut_at : (bytes piece more : List ℕ) (used : ℕ) → (bytes ++ piece) ++ more ≡ (bytes ++ take used piece) ++ (drop used piece ++ more)
cut_at bytes piece more used =
    ap (λ (p : List ℕ). (bytes ++ p) ++ more) (sym (take-append-drop used piece)) ∙ regroup bytes (take used piece) (drop used piece) more
  where
    regroup : (a b c d : List ℕ) → (a ++ (b ++ c)) ++ d ≡ (a ++ b) ++ (c ++ d)
    regroup a b c d = simp append_assoc

some_left : (piece more : List ℕ) (used : ℕ) → used < length piece → drop used piece ++ more ≡ [] → ⊥
some_left piece more used h e = omega (arith, ap length e, length-append (drop used piece) more, length-drop used piece)

pub goes_past : NoReplyBeginsAnother → (new : ReplyView) (bytes got piece after : List ℕ) (used : ℕ) → Grows new bytes got piece [] after used → new.stage ≡ stages.Whole → used < length piece → BeginsNoReply (bytes ++ piece)
goes_past begins new bytes got piece after used g e past more body reply =
    some_left piece more used past
    (begins (bytes ++ take used piece) (drop used piece ++ more) (got ++ g.gained) body (whole_fed new (bytes ++ take used piece) (got ++ g.gained) e g.fed)
    (subst (λ (xs : List ℕ). HttpReply xs body) (cut_at bytes piece more used) reply))

-- ---- the document

whole_goes_on : (got : List ℕ) → IsWhole wants.Delivery got → MayGoOn got
whole_goes_on got w at reason refused = absurd (refused.none w.0 w.1 w.2)

behind_more : (got piece : List ℕ) (after : Progress) → FeedsBehind wants.Delivery got piece (Ok feds.More) after → ⊥
behind_more got [] after b = let e = (b.empty refl).0 in absurd (cc)
behind_more got (x ∷ xs) after b = let e = (b.more (λ n. cc)).0 in absurd (cc)

pub reads_on : OnePlace → (old new : ReaderView) (got piece : List ℕ) → ((before : Progress) → HasRead old before → Feeds before piece (Ok feds.More) new) → IsReadTo old got → IsReadTo new (got ++ piece) × MayGoOn (got ++ piece)
reads_on place old new got piece feeds (inl h) =
    let f = feeds (reading wants.Delivery got) h in (
      inl (subst (HasRead new) f.2.1 f.1),
      λ at reason refused. (place wants.Delivery (got ++ piece) at f.2.0.at reason Truncated refused f.2.0.refused).1,
    )
reads_on place old new got piece feeds (inr h) = let f = feeds (whole wants.Delivery got) h.0 in absurd (behind_more got piece f.0 f.2)

behind_whole : (new : ReaderView) (got piece : List ℕ) (used : ℕ) (after : Progress) → FeedsBehind wants.Delivery got piece (Ok (feds.Whole used)) after → HasRead new after → IsWhole wants.Delivery got
    → IsReadTo new (got ++ piece) × MayGoOn (got ++ piece)
behind_whole new got [] used after b read w =
    let same : got ≡ got ++ [] = sym (append-nil got) in
    subst (λ (xs : List ℕ). IsReadTo new xs × MayGoOn xs) same (inr (subst (HasRead new) (b.empty refl).1 read, w), whole_goes_on got w)
behind_whole new got (x ∷ xs) used after b read w = let e = (b.more (λ n. cc)).0 in absurd (cc)

pub reads_whole : (old new : ReaderView) (got piece : List ℕ) (used : ℕ) → ((before : Progress) → HasRead old before → Feeds before piece (Ok (feds.Whole used)) new) → length piece ≤ used → IsReadTo old got
    → IsReadTo new (got ++ piece) × MayGoOn (got ++ piece)
reads_whole old new got piece used feeds all (inl h) =
    let f = feeds (reading wants.Delivery got) h in
    let same : got ++ take used piece ≡ got ++ piece = ap (λ (p : List ℕ). got ++ p) (take_all used piece f.2.0.within all) in
    let w : IsWhole wants.Delivery (got ++ piece) = subst (IsWhole wants.Delivery) same f.2.0.whole in
    (inr (subst (λ (xs : List ℕ). HasRead new (whole wants.Delivery xs)) same (subst (HasRead new) f.2.1 f.1), w), whole_goes_on (got ++ piece) w)
reads_whole old new got piece used feeds all (inr h) =
    let f = feeds (whole wants.Delivery got) h.0 in behind_whole new got piece used f.0 f.2 f.1 h.1

behind_past : (got piece : List ℕ) (used : ℕ) (after : Progress) → FeedsBehind wants.Delivery got piece (Ok (feds.Whole used)) after → used < length piece → ⊥
behind_past got [] used after b past = omega arith
behind_past got (x ∷ xs) used after b past = let e = (b.more (λ n. cc)).0 in absurd (cc)

pub reads_past : OneSpelling → (old new : ReaderView) (got piece : List ℕ) (used : ℕ) → ((before : Progress) → HasRead old before → Feeds before piece (Ok (feds.Whole used)) new) → used < length piece → IsReadTo old got
    → BeginsNoDelivery (got ++ piece)
reads_past spelling old new got piece used feeds past (inl h) more delivery s =
    let f = feeds (reading wants.Delivery got) h in
    let w = f.2.0.whole in
    let same : spell (items w.0) ++ (drop used piece ++ more) ≡ spell (items (docs.Delivery delivery)) ++ [] =
    ap (λ (xs : List ℕ). xs ++ (drop used piece ++ more)) (sym w.2) ∙ (sym (cut_at got piece more used) ∙ (s.spells ∙ sym (append-nil (spell (items (docs.Delivery delivery)))))) in
    some_left piece more used past (spelling wants.Delivery w.0 (docs.Delivery delivery) (drop used piece ++ more) [] w.1 s.wanted same).1
reads_past spelling old new got piece used feeds past (inr h) more delivery s = let f = feeds (whole wants.Delivery got) h.0 in behind_past got piece used f.0 f.2 past

behind_refused : (got piece : List ℕ) (refused : Refused) (after : Progress) → FeedsBehind wants.Delivery got piece (Err (At refused)) after → BeginsNoDelivery (got ++ piece)
behind_refused got [] refused after b more delivery s = let e = (b.empty refl).0 in absurd (cc)
behind_refused got (x ∷ xs) refused after b more delivery s = (b.stays (λ n. cc) more).none (docs.Delivery delivery) s.wanted s.spells

pub reads_none : (old new : ReaderView) (got piece : List ℕ) (refused : Refused) → ((before : Progress) → HasRead old before → Feeds before piece (Err (At refused)) new) → IsReadTo old got → BeginsNoDelivery (got ++ piece)
reads_none old new got piece refused feeds (inl h) more delivery s =
    let f = feeds (reading wants.Delivery got) h in
    (f.2.0.stays more).none (docs.Delivery delivery) s.wanted s.spells
reads_none old new got piece refused feeds (inr h) more delivery s = let f = feeds (whole wants.Delivery got) h.0 in behind_refused got piece refused f.0 f.2 more delivery s

-- a piece by its answer
pub read_as : (old new : ReaderView) (piece : List ℕ) (r s : Result Fed ReadRefused) → r ≡ s → ((before : Progress) → HasRead old before → Feeds before piece r new) → (before : Progress) → HasRead old before → Feeds before piece s new
read_as old new piece r s e feeds before h = subst (λ (f : Result Fed ReadRefused). Feeds before piece f new) e (feeds before h)

-- ---- its end

pub gives_delivery : (reader : ReaderView) (got : List ℕ) (delivery : Delivery) → ((progress : Progress) → HasRead reader progress → Gives progress (Ok (docs.Delivery delivery))) → IsReadTo reader got → SpellsDelivery delivery got
gives_delivery reader got delivery gives (inl h) = absurd (gives (reading wants.Delivery got) h)
gives_delivery reader got delivery gives (inr h) = let g = gives (whole wants.Delivery got) h.0 in record { wanted = g.0; spells = g.1 }

pub gives_no_ask : (reader : ReaderView) (got : List ℕ) (ask : Ask) → ((progress : Progress) → HasRead reader progress → Gives progress (Ok (docs.Ask ask))) → IsReadTo reader got → ⊥
gives_no_ask reader got ask gives (inl h) = gives (reading wants.Delivery got) h
gives_no_ask reader got ask gives (inr h) = (gives (whole wants.Delivery got) h.0).0.0

pub gives_none : (reader : ReaderView) (got : List ℕ) (refused : Refused) → ((progress : Progress) → HasRead reader progress → Gives progress (Err (At refused))) → IsReadTo reader got
    → (delivery : Delivery) → SpellsDelivery delivery got → ⊥
gives_none reader got refused gives (inl h) delivery s = (gives (reading wants.Delivery got) h).1.none (docs.Delivery delivery) s.wanted s.spells
gives_none reader got refused gives (inr h) delivery s = gives (whole wants.Delivery got) h.0
