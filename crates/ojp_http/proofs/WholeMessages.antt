-- Whole messages: what their bytes allow beside them, and that bytes behind one are its rest.
use Rattle.std.proofs.Common.{◌≡◌, ℕ, List, [], ◌++◌, refl, sym, ap, ◌∙◌, append_assoc, subst, inl, inr, suc, zero, Option, Some, None, Result, Err}
use Rattle.httparse.specs.Grammar.{Field, print_chunk_line, chunk_size, ResponseHead, ReadsResponse, RequestHead, ReadsRequest}
use Rattle.httparse.proofs.GrammarLemmas.{request_unique, response_unique}
use Rattle.ojp_http.specs.declared.refusal.Refusal.{Refusal}
use Rattle.ojp_http.specs.declared.refusal.Refusal.TheVariants as refusals
use Rattle.ojp_http.specs.declared.refusal.HttpRefusal.{HttpRefusal}
use Rattle.ojp_http.specs.declared.refusal.HttpRefusal.TheVariants as answered
use Rattle.ojp_http.specs.declared.refusal.Frame.{Frame}
use Rattle.ojp_http.specs.declared.refusal.Frame.TheVariants.{Counted, Chunked, Refused}
use Rattle.ojp_http.specs.Verdicts.{Verdict, whole, refused, cut, after}
use Rattle.ojp_http.specs.Heads.{Begins, found as head_found, malformed as head_malformed, full as head_full, begun as head_begun}
use Rattle.ojp_http.specs.Bodies.{EndsHere, Takes, taken as takes_all, short as takes_short, EndsChunk, ended as chunk_ended, begun as chunk_begun, other as chunk_other, Trailer, ReadsTrailer, Sized, last as size_last, chunk as size_chunk, over as size_over, room_after, Frames, Replies, Asks, ReadsLine, line as line_reads, wrong as line_wrong, long as line_long, unended as line_unended, ReadsLines}
use Rattle.ojp_http.specs.Fields.{reply_frame, ask_frame}
use Rattle.ojp_http.specs.Asking.{Tells}
use Rattle.ojp_http.specs.Laws.{AreTwo, AreAllowed, one, head_or_large, head_or_cut, chunk_or_cut, OneOutcome, OneBody, NoReplyBeginsAnother}
use Rattle.ojp_http.proofs.Grammars.{requests, responses}
use Rattle.ojp_http.proofs.MachineFacts.{after-nil}
use Rattle.ojp_http.proofs.Unique.{Differ, lift, frames_agree, Pair, headed, agreed, large_too, cut_too, pairs}

-- ---- verdicts of requests and of replies

asks_pair : (bytes : List ℕ) (v w : Verdict) → Asks bytes v → Asks bytes w
    → Pair ReadsRequest (λ (h : RequestHead). h.fields) 66 refusals.Head refusals.TooLargeHead (λ h. Frames (Some 1048576) (ask_frame h)) bytes v w
asks_pair bytes v w x y =
    pairs ReadsRequest (λ (h : RequestHead). h.fields) 66 refusals.Head refusals.TooLargeHead (λ h. Frames (Some 1048576) (ask_frame h)) 1 requests request_unique bytes v w x y

replies_pair : (bytes : List ℕ) (v w : Verdict) → Replies bytes v → Replies bytes w
    → Pair ReadsResponse (λ (h : ResponseHead). h.fields) 66 refusals.Head refusals.TooLargeHead (λ h. Frames None (reply_frame h)) bytes v w
replies_pair bytes v w x y =
    pairs ReadsResponse (λ (h : ResponseHead). h.fields) 66 refusals.Head refusals.TooLargeHead (λ h. Frames None (reply_frame h)) 1 responses response_unique bytes v w x y

pub not_refused : {body rest : List ℕ} {e : Refusal} → whole body rest ≡ refused e → ⊥
not_refused q = cc

pub not_cut : {body rest got : List ℕ} → whole body rest ≡ cut got → ⊥
not_cut q = cc

not_double : {body rest got : List ℕ} {e : Refusal} {v : Verdict} → AreTwo (refused e) (cut got) (whole body rest) v → ⊥
not_double (inl t) = not_refused t.0
not_double (inr t) = not_cut t.0

not_refusals : {body rest : List ℕ} {d e : Refusal} {v : Verdict} → AreTwo (refused d) (refused e) (whole body rest) v → ⊥
not_refusals (inl t) = not_refused t.0
not_refusals (inr t) = not_refused t.0

only_whole : (K : List ℕ → Verdict → Type 0) (bytes body rest : List ℕ) (v : Verdict) → Differ K bytes (whole body rest) v → v ≡ whole body rest
only_whole K bytes body rest v (inl e) = sym e
only_whole K bytes body rest v (inr d) = absurd (not_double d.2)

reply_only : (bytes body rest : List ℕ) (v : Verdict)
    → Pair ReadsResponse (λ (h : ResponseHead). h.fields) 66 refusals.Head refusals.TooLargeHead (λ h. Frames None (reply_frame h)) bytes (whole body rest) v → v ≡ whole body rest
reply_only bytes body rest v (headed h r x k j) =
    only_whole (Frames None (reply_frame h)) r body rest v (frames_agree None (reply_frame h) r (whole body rest) v k j)
reply_only bytes body rest v (agreed e) = sym e
reply_only bytes body rest v (large_too n m l two) = absurd (not_refusals two)
reply_only bytes body rest v (cut_too n m l two) = absurd (not_double two)

-- a whole reply is the only verdict
pub replies_only : (bytes body rest : List ℕ) (v : Verdict) → Replies bytes (whole body rest) → Replies bytes v → v ≡ whole body rest
replies_only bytes body rest v x y = reply_only bytes body rest v (replies_pair bytes (whole body rest) v x y)

-- ---- one outcome

same_outcome : (x y : Result (List ℕ) HttpRefusal) (v : Verdict) → Tells x v → Tells y v → x ≡ y
same_outcome x y (whole body rest) s t = s ∙ sym t
same_outcome x y (refused e) s t = s ∙ sym t
same_outcome x y (cut got) s t = s ∙ sym t

-- what is told of two verdicts is told of two outcomes
two_outcomes : (a b v w : Verdict) (c d x y : Result (List ℕ) HttpRefusal)
    → ((z : Result (List ℕ) HttpRefusal) → Tells z a → z ≡ c) → ((z : Result (List ℕ) HttpRefusal) → Tells z b → z ≡ d)
    → AreTwo a b v w → Tells x v → Tells y w → AreTwo c d x y
two_outcomes a b v w c d x y one_is other_is (inl t) s u = inl (one_is x (subst (Tells x) t.0 s), other_is y (subst (Tells y) t.1 u))
two_outcomes a b v w c d x y one_is other_is (inr t) s u = inr (other_is x (subst (Tells x) t.0 s), one_is y (subst (Tells y) t.1 u))

framed_outcome : (bytes : List ℕ) (x y : Result (List ℕ) HttpRefusal) (v w : Verdict) → Tells x v → Tells y w → Differ Asks bytes v w → AreAllowed bytes x y
framed_outcome bytes x y v w s t (inl e) = one (same_outcome x y v s (subst (Tells y) (sym e) t))
framed_outcome bytes x y v w s t (inr d) =
    chunk_or_cut d.0 d.1
    (two_outcomes (refused refusals.Chunk) (cut d.0) v w (Err answered.Chunk) (Err answered.Cut) x y (λ z p. p) (λ z p. p) d.2 s t)

asked_outcome : (bytes : List ℕ) (x y : Result (List ℕ) HttpRefusal) (v w : Verdict) → Tells x v → Tells y w
    → Pair ReadsRequest (λ (h : RequestHead). h.fields) 66 refusals.Head refusals.TooLargeHead (λ h. Frames (Some 1048576) (ask_frame h)) bytes v w → AreAllowed bytes x y
asked_outcome bytes x y v w s t (headed h r p k j) =
    let K = Frames (Some 1048576) (ask_frame h) in
    framed_outcome bytes x y v w s t
    (lift K Asks p.front [] (λ behind body z. head_found h behind (record { front = p.front; is = refl; reads = p.reads; few = p.few; within = p.within }) z)
    bytes r v w v w p.is (sym (after-nil v)) (sym (after-nil w)) (frames_agree (Some 1048576) (ask_frame h) r v w k j))
asked_outcome bytes x y v w s t (agreed e) = one (same_outcome x y v s (subst (Tells y) (sym e) t))
asked_outcome bytes x y v w s t (large_too n m l two) =
    head_or_large (n, m) l
    (two_outcomes (refused refusals.Head) (refused refusals.TooLargeHead) v w (Err answered.Head) (Err answered.TooLargeHead) x y (λ z p. p) (λ z p. p) two s t)
asked_outcome bytes x y v w s t (cut_too n m l two) =
    head_or_cut (n, m) l (two_outcomes (refused refusals.Head) (cut []) v w (Err answered.Head) (Err answered.Cut) x y (λ z p. p) (λ z p. p) two s t)

pub outcome_law : OneOutcome
outcome_law bytes x y a b = asked_outcome bytes x y a.verdict b.verdict a.tells b.tells (asks_pair bytes a.verdict b.verdict a.asks b.asks)

-- ---- bytes behind a whole message

-- more bytes behind a whole message are its rest
abbrev pub Extends : (List ℕ → Verdict → Type 0) → Type 0
Extends K = (bytes more body rest : List ℕ) → K bytes (whole body rest) → K (bytes ++ more) (whole body (rest ++ more))

pub behind : (bytes front rest more : List ℕ) → bytes ≡ front ++ rest → bytes ++ more ≡ front ++ (rest ++ more)
behind bytes front rest more is = ap (λ (l : List ℕ). l ++ more) is ∙ append_assoc front rest more

ends_extend : Extends EndsHere
ends_extend bytes more body rest x =
    let b : body ≡ [] = cc in
    let r : rest ≡ bytes = cc in
    λ i. whole (b i) (r i ++ more)

pub after_whole : (front : List ℕ) (w : Verdict) (body rest : List ℕ) → whole body rest ≡ after front w → (b : List ℕ) × (w ≡ whole b rest) × (body ≡ front ++ b)
after_whole front (whole b r) body rest e = let x : rest ≡ r = cc in let y : body ≡ front ++ b = cc in (b, ap (whole b) (sym x), y)
after_whole front (refused q) body rest e = absurd (cc)
after_whole front (cut b) body rest e = absurd (cc)

takes_extend : (n : ℕ) (K : List ℕ → Verdict → Type 0) → Extends K → Extends (Takes n K)
takes_extend n K extend bytes more body rest (takes_all f r w is l k q) =
    let inner = after_whole f w body rest q in
    takes_all f (r ++ more) (whole inner.0 (rest ++ more)) (behind bytes f r more is) l (extend r more inner.0 rest (subst (K r) inner.1 k))
    (ap (λ (b : List ℕ). whole b (rest ++ more)) inner.2)
takes_extend n K extend bytes more body rest (takes_short lt q) = absurd (not_cut q)

chunk_end_extend : (K : List ℕ → Verdict → Type 0) → Extends K → Extends (EndsChunk K)
chunk_end_extend K extend bytes more body rest (chunk_ended r e k) = chunk_ended (r ++ more) (ap (λ (l : List ℕ). l ++ more) e) (extend r more body rest k)
chunk_end_extend K extend bytes more body rest (chunk_begun m f pos q) = absurd (not_cut q)
chunk_end_extend K extend bytes more body rest (chunk_other n q) = absurd (not_refused q)

line_extend : (K : ℕ → List ℕ → Verdict → Type 0) → ((size : ℕ) → Extends (K size)) → Extends (ReadsLine K)
line_extend K extend bytes more body rest (line_reads l r x le k) =
    line_reads l (r ++ more) (x.0, behind bytes (print_chunk_line l) r more x.1) le (extend (chunk_size l) r more body rest k)
line_extend K extend bytes more body rest (line_wrong front t e plain lt never q) = absurd (not_refused q)
line_extend K extend bytes more body rest (line_long front t e plain n q) = absurd (not_refused q)
line_extend K extend bytes more body rest (line_unended plain lt q) = absurd (not_cut q)

module _ {H : Type 0} (R : List ℕ → H → List ℕ → Type 0) (fields : H → List Field) (most : ℕ) (bad large : Refusal) where
  begins_extend : (K : H → List ℕ → Verdict → Type 0) → ((h : H) → Extends (K h)) → Extends (Begins R fields most bad large K)
  begins_extend K extend bytes more body rest (head_found h r x k) =
      head_found h (r ++ more) (record { front = x.front; is = behind bytes x.front r more x.is; reads = x.reads; few = x.few; within = x.within })
      (extend h r more body rest k)
  begins_extend K extend bytes more body rest (head_malformed n m q) = absurd (not_refused q)
  begins_extend K extend bytes more body rest (head_full n m q) = absurd (not_refused q)
  begins_extend K extend bytes more body rest (head_begun n m q) = absurd (not_cut q)

trailer_extend : Extends Trailer
trailer_extend = begins_extend ReadsTrailer (λ t. t.0) 65 refusals.Chunk refusals.Chunk (λ t. EndsHere) (λ t. ends_extend)

sized_extend : (K : Option ℕ → List ℕ → Verdict → Type 0) → ((room : Option ℕ) → Extends (K room)) → (room : Option ℕ) (size : ℕ) → Extends (Sized K room size)
sized_extend K extend room size bytes more body rest (size_last e t) = size_last e (trailer_extend bytes more body rest t)
sized_extend K extend room size bytes more body rest (size_chunk pos a t) =
    let left = room_after room size in
    size_chunk pos a (takes_extend size (EndsChunk (K left)) (chunk_end_extend (K left) (extend left)) bytes more body rest t)
sized_extend K extend room size bytes more body rest (size_over a q) = absurd (not_refused q)

lines_extend : (n : ℕ) (room : Option ℕ) → Extends (ReadsLines n room)
lines_extend zero room bytes more body rest x = absurd x
lines_extend (suc n) room bytes more body rest x =
    line_extend (Sized (ReadsLines n) room) (sized_extend (ReadsLines n) (λ left. lines_extend n left) room) bytes more body rest x

frames_extend : (room : Option ℕ) (frame : Frame) → Extends (Frames room frame)
frames_extend room (Counted n) = takes_extend n EndsHere ends_extend
frames_extend room Chunked = λ bytes more body rest x. record { lines = x.lines; reads = lines_extend x.lines room bytes more body rest x.reads }
frames_extend room (Refused e) = λ bytes more body rest x. absurd (not_refused x)

pub replies_extend : Extends Replies
replies_extend =
    begins_extend ReadsResponse (λ (h : ResponseHead). h.fields) 66 refusals.Head refusals.TooLargeHead (λ h. Frames None (reply_frame h)) (λ h. frames_extend None (reply_frame h))

-- ---- laws of replies

pub body_law : OneBody
body_law bytes x y a b = let same : whole y [] ≡ whole x [] = replies_only bytes x [] (whole y []) a b in cc

pub beginning_law : NoReplyBeginsAnother
beginning_law bytes more x y a b =
    let same : whole y [] ≡ whole x more = replies_only (bytes ++ more) x more (whole y []) (replies_extend bytes more x [] a) b in cc
