-- The body of a message that goes on begins with what came of it.
use Rattle.std.proofs.Common.{◌≡◌, ℕ, List, [], ◌∷◌, ◌++◌, length, refl, sym, ap, ◌∙◌, arith, append_assoc, subst, inl, inr, length-append, suc, zero, Option, None}
use Rattle.httparse.specs.Grammar.{Field, print_chunk_line, chunk_size, ResponseHead, ReadsResponse}
use Rattle.httparse.proofs.GrammarLemmas.{section_unique, response_unique}
use Rattle.httparse.proofs.ChunkLemmas.{chunk_line_unique}
use Rattle.ojp_http.specs.declared.refusal.Refusal.{Refusal}
use Rattle.ojp_http.specs.declared.refusal.Refusal.TheVariants as refusals
use Rattle.ojp_http.specs.declared.refusal.Frame.{Frame}
use Rattle.ojp_http.specs.declared.refusal.Frame.TheVariants.{Counted, Chunked, Refused}
use Rattle.ojp_http.specs.Verdicts.{Verdict, whole, refused, cut, after}
use Rattle.ojp_http.specs.Heads.{Begins, found as head_found, malformed as head_malformed, full as head_full, begun as head_begun}
use Rattle.ojp_http.specs.Bodies.{EndsHere, Takes, taken as takes_all, short as takes_short, EndsChunk, ended as chunk_ended, begun as chunk_begun, other as chunk_other, Trailer, ReadsTrailer, Sized, last as size_last, chunk as size_chunk, over as size_over, room_after, Frames, Replies, ReadsLine, line as line_reads, wrong as line_wrong, long as line_long, unended as line_unended, ReadsLines}
use Rattle.ojp_http.specs.Fields.{reply_frame}
use Rattle.ojp_http.specs.Continued.{BodyGoesOn}
use Rattle.ojp_http.proofs.Headed.{Grammar, two_fronts}
use Rattle.ojp_http.proofs.Grammars.{trailers, responses}
use Rattle.ojp_http.proofs.WholeMessages.{not_refused, not_cut, after_whole, behind}
use Rattle.ojp_http.proofs.Unique.{same_split}

-- the body of each whole message that the bytes go on to begins with what they hold of it
abbrev pub GoesOn : (List ℕ → Verdict → Type 0) → (List ℕ → Verdict → Type 0) → Type 0
GoesOn K L = (bytes more got body rest : List ℕ) → K bytes (cut got) → L (bytes ++ more) (whole body rest) → (tail : List ℕ) × (body ≡ got ++ tail)

pub cut_whole : {got body rest : List ℕ} → cut got ≡ whole body rest → ⊥
cut_whole q = cc

cut_refused : {got : List ℕ} {e : Refusal} → cut got ≡ refused e → ⊥
cut_refused q = cc

-- nothing came of the body yet
from_nothing : (got body : List ℕ) → cut got ≡ cut [] → (tail : List ℕ) × (body ≡ got ++ tail)
from_nothing got body q = let none : got ≡ [] = cc in (body, ap (λ (l : List ℕ). l ++ body) (sym none))

after_cut : (front : List ℕ) (w : Verdict) (got : List ℕ) → cut got ≡ after front w → (g : List ℕ) × (w ≡ cut g) × (got ≡ front ++ g)
after_cut front (whole b r) got e = absurd (cc)
after_cut front (refused q) got e = absurd (cc)
after_cut front (cut g) got e = let x : got ≡ front ++ g = cc in (g, refl, x)

-- a front of the body, and then the rest of it
join : (front g b got body tail : List ℕ) → got ≡ front ++ g → body ≡ front ++ b → b ≡ g ++ tail → body ≡ got ++ tail
join front g b got body tail x y z = y ∙ ap (λ (l : List ℕ). front ++ l) z ∙ sym (append_assoc front g tail) ∙ ap (λ (l : List ℕ). l ++ tail) (sym x)

ends_go_on : GoesOn EndsHere EndsHere
ends_go_on bytes more got body rest x y = absurd (cut_whole x)

takes_go_on : (n : ℕ) (K L : List ℕ → Verdict → Type 0) → GoesOn K L → GoesOn (Takes n K) (Takes n L)
takes_go_on n K L go bytes more got body rest (takes_all f r w is l k q) (takes_all g s z js m j p) =
    let a = after_cut f w got q in
    let b = after_whole g z body rest p in
    let same = same_split f (r ++ more) g s (sym (behind bytes f r more is) ∙ js) (l ∙ sym m) in
    let inner = go r more a.0 b.0 rest (subst (K r) a.1 k) (subst (λ (x : List ℕ). L x (whole b.0 rest)) (sym same.1) (subst (L s) b.1 j)) in
    (inner.0, join f a.0 b.0 got body inner.0 a.2 (b.2 ∙ ap (λ (x : List ℕ). x ++ b.0) (sym same.0)) inner.1)
takes_go_on n K L go bytes more got body rest (takes_all f r w is l k q) (takes_short lt p) = absurd (not_cut p)
takes_go_on n K L go bytes more got body rest (takes_short lt q) (takes_all g s z js m j p) =
    let b = after_whole g z body rest p in
    let here : got ≡ bytes = cc in
    elim (two_fronts bytes more g s js) [
      | inl d ↦ (d.0 ++ b.0, b.2 ∙ ap (λ (x : List ℕ). x ++ b.0) d.1 ∙ append_assoc bytes d.0 b.0 ∙ ap (λ (x : List ℕ). x ++ (d.0 ++ b.0)) (sym here))
      | inr d ↦ absurd (omega (arith, ap length d.2, length-append g d.0, d.1, m, lt))
    ]
takes_go_on n K L go bytes more got body rest (takes_short lt q) (takes_short mt p) = absurd (not_cut p)

chunk_end_goes_on : (K L : List ℕ → Verdict → Type 0) → GoesOn K L → GoesOn (EndsChunk K) (EndsChunk L)
chunk_end_goes_on K L go bytes more got body rest (chunk_ended r e k) (chunk_ended s f j) =
    let all : 13 ∷ 10 ∷ (r ++ more) ≡ 13 ∷ 10 ∷ s = ap (λ (l : List ℕ). l ++ more) (sym e) ∙ f in
    let same : s ≡ r ++ more = cc in
    go r more got body rest k (subst (λ (l : List ℕ). L l (whole body rest)) same j)
chunk_end_goes_on K L go bytes more got body rest (chunk_ended r e k) (chunk_begun m f pos p) = absurd (not_cut p)
chunk_end_goes_on K L go bytes more got body rest (chunk_ended r e k) (chunk_other n p) = absurd (not_refused p)
chunk_end_goes_on K L go bytes more got body rest (chunk_begun m f pos q) y = from_nothing got body q
chunk_end_goes_on K L go bytes more got body rest (chunk_other n q) y = absurd (cut_refused q)

line_goes_on : (K L : ℕ → List ℕ → Verdict → Type 0) → ((size : ℕ) → GoesOn (K size) (L size)) → GoesOn (ReadsLine K) (ReadsLine L)
line_goes_on K L go bytes more got body rest (line_reads l r x le k) (line_reads m s y lf j) =
    let same = chunk_line_unique (bytes ++ more) l m (r ++ more) s (x.0, behind bytes (print_chunk_line l) r more x.1) y in
    go (chunk_size l) r more got body rest k
    (subst (λ (n : ℕ). L n (r ++ more) (whole body rest)) (ap chunk_size (sym same.0)) (subst (λ (z : List ℕ). L (chunk_size m) z (whole body rest)) (sym same.1) j))
line_goes_on K L go bytes more got body rest (line_reads l r x le k) (line_wrong front t e plain lt never p) = absurd (not_refused p)
line_goes_on K L go bytes more got body rest (line_reads l r x le k) (line_long front t e plain n p) = absurd (not_refused p)
line_goes_on K L go bytes more got body rest (line_reads l r x le k) (line_unended plain lt p) = absurd (not_cut p)
line_goes_on K L go bytes more got body rest (line_wrong front t e plain lt never q) y = absurd (cut_refused q)
line_goes_on K L go bytes more got body rest (line_long front t e plain n q) y = absurd (cut_refused q)
line_goes_on K L go bytes more got body rest (line_unended plain lt q) y = from_nothing got body q

module _ {H : Type 0} (R : List ℕ → H → List ℕ → Type 0) (fields : H → List Field) (most : ℕ) (bad large : Refusal) where
  begins_goes_on : (extra : ℕ) → Grammar R fields extra → ((bytes : List ℕ) (h k : H) (r q : List ℕ) → R bytes h r → R bytes k q → (h ≡ k) × (r ≡ q))
      → (K : H → List ℕ → Verdict → Type 0) → ((h : H) → GoesOn (K h) (K h)) → GoesOn (Begins R fields most bad large K) (Begins R fields most bad large K)
  begins_goes_on extra grammar unique K go bytes more got body rest (head_found h r x k) (head_found g s y j) =
      let read : R bytes h r = subst (λ (b : List ℕ). R b h r) (sym x.is) (grammar.more x.front h [] r x.reads) in
      let other : R (bytes ++ more) g s = subst (λ (b : List ℕ). R b g s) (sym y.is) (grammar.more y.front g [] s y.reads) in
      let same = unique (bytes ++ more) h g (r ++ more) s (grammar.more bytes h r more read) other in
      go h r more got body rest k (subst (λ (f : H). K f (r ++ more) (whole body rest)) (sym same.0) (subst (λ (t : List ℕ). K g t (whole body rest)) (sym same.1) j))
  begins_goes_on extra grammar unique K go bytes more got body rest (head_found h r x k) (head_malformed n m p) = absurd (not_refused p)
  begins_goes_on extra grammar unique K go bytes more got body rest (head_found h r x k) (head_full n m p) = absurd (not_refused p)
  begins_goes_on extra grammar unique K go bytes more got body rest (head_found h r x k) (head_begun n m p) = absurd (not_cut p)
  begins_goes_on extra grammar unique K go bytes more got body rest (head_malformed n m q) y = absurd (cut_refused q)
  begins_goes_on extra grammar unique K go bytes more got body rest (head_full n m q) y = absurd (cut_refused q)
  begins_goes_on extra grammar unique K go bytes more got body rest (head_begun n m q) y = from_nothing got body q

trailer_goes_on : GoesOn Trailer Trailer
trailer_goes_on =
    begins_goes_on ReadsTrailer (λ t. t.0) 65 refusals.Chunk refusals.Chunk 0 trailers
    (λ bytes t u r q x y. let same = section_unique bytes t.0 u.0 t.1 u.1 r q x y in ((λ i. (same.0 i, same.1 i)), same.2))
    (λ t. EndsHere) (λ t. ends_go_on)

sized_goes_on : (K L : Option ℕ → List ℕ → Verdict → Type 0) → ((room : Option ℕ) → GoesOn (K room) (L room)) → (room : Option ℕ) (size : ℕ) → GoesOn (Sized K room size) (Sized L room size)
sized_goes_on K L go room size bytes more got body rest (size_last e t) (size_last f u) = trailer_goes_on bytes more got body rest t u
sized_goes_on K L go room size bytes more got body rest (size_last e t) (size_chunk pos a u) = absurd (omega (arith, e, pos))
sized_goes_on K L go room size bytes more got body rest (size_last e t) (size_over a p) = absurd (not_refused p)
sized_goes_on K L go room size bytes more got body rest (size_chunk pos a t) (size_last f u) = absurd (omega (arith, f, pos))
sized_goes_on K L go room size bytes more got body rest (size_chunk pos a t) (size_chunk qos b u) =
    let left = room_after room size in
    takes_go_on size (EndsChunk (K left)) (EndsChunk (L left)) (chunk_end_goes_on (K left) (L left) (go left)) bytes more got body rest t u
sized_goes_on K L go room size bytes more got body rest (size_chunk pos a t) (size_over b p) = absurd (not_refused p)
sized_goes_on K L go room size bytes more got body rest (size_over a q) y = absurd (cut_refused q)

lines_go_on : (n m : ℕ) (room : Option ℕ) → GoesOn (ReadsLines n room) (ReadsLines m room)
lines_go_on zero m room bytes more got body rest x y = absurd x
lines_go_on (suc n) zero room bytes more got body rest x y = absurd y
lines_go_on (suc n) (suc m) room bytes more got body rest x y =
    line_goes_on (Sized (ReadsLines n) room) (Sized (ReadsLines m) room) (sized_goes_on (ReadsLines n) (ReadsLines m) (λ left. lines_go_on n m left) room) bytes more got body rest x y

frames_go_on : (room : Option ℕ) (frame : Frame) → GoesOn (Frames room frame) (Frames room frame)
frames_go_on room (Counted n) = takes_go_on n EndsHere EndsHere ends_go_on
frames_go_on room Chunked = λ bytes more got body rest x y. lines_go_on x.lines y.lines room bytes more got body rest x.reads y.reads
frames_go_on room (Refused e) = λ bytes more got body rest x y. absurd (cut_refused x)

replies_go_on : GoesOn Replies Replies
replies_go_on =
    begins_goes_on ReadsResponse (λ (h : ResponseHead). h.fields) 66 refusals.Head refusals.TooLargeHead 1 responses response_unique
    (λ h. Frames None (reply_frame h)) (λ h. frames_go_on None (reply_frame h))

pub body_goes_on_law : BodyGoesOn
body_goes_on_law bytes more got body x y = replies_go_on bytes more got body [] x y
