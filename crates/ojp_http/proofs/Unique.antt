-- Two verdicts of the same bytes are one, but where a head or a trailer is malformed.
use Rattle.std.proofs.Common.{◌≡◌, ℕ, ◌≤◌, ◌<◌, ◌⊎◌, true, false, not, ◌&&◌, List, [], ◌∷◌, ◌++◌, length, refl, sym, ap, ◌∙◌, arith, append_assoc, append-nil, subst, inl, inr, length-append, suc, zero, Option, Some, None}
use Rattle.std.specs.Prelude.{◌==◌}
use Rattle.std.specs.Char.{is_ascii_hexdigit}
use Rattle.std.proofs.lemmas.List.{nil_from_length}
use Rattle.std.proofs.lemmas.List.Folds.{list_all-append}
use Rattle.httparse.specs.Grammar.{Field, ChunkLine, ReadsChunkLine, IsChunkLine, print_chunk_line, print_extension, IsExtension, chunk_size, is_ows, is_extension_byte, crlf}
use Rattle.httparse.proofs.GrammarLemmas.{section_unique}
use Rattle.httparse.proofs.ChunkLemmas.{chunk_line_unique}
use Rattle.ojp_http.specs.declared.refusal.Refusal.{Refusal}
use Rattle.ojp_http.specs.declared.refusal.Refusal.TheVariants as refusals
use Rattle.ojp_http.specs.declared.refusal.Frame.{Frame}
use Rattle.ojp_http.specs.declared.refusal.Frame.TheVariants.{Counted, Chunked, Refused}
use Rattle.ojp_http.specs.Verdicts.{Verdict, whole, refused, cut, after}
use Rattle.ojp_http.specs.Heads.{HasHead, HasNoHead, IsMalformed, IsFull, IsWithin, counted_lines, Begins, found as head_found, malformed as head_malformed, full as head_full, begun as head_begun}
use Rattle.ojp_http.specs.Bodies.{EndsHere, Takes, taken as takes_all, short as takes_short, EndsChunk, ended as chunk_ended, begun as chunk_begun, other as chunk_other, Chunks, Trailer, ReadsTrailer, Sized, last as size_last, chunk as size_chunk, over as size_over, room_after, IsAbove, Frames, has_no_feed, ReadsLine, line as line_reads, wrong as line_wrong, long as line_long, unended as line_unended, ReadsLines}
use Rattle.ojp_http.proofs.Headed.{Grammar, front_cases, two_fronts}
use Rattle.ojp_http.proofs.Grammars.{trailers, no_feed, no_feed_append}
use Rattle.ojp_http.proofs.ChunkFacts.{line_feeds}
use Rattle.ojp_http.proofs.MachineFacts.{after-nil}
use Rattle.ojp_http.specs.Laws.{HasBadTrailer, AreTwo}
use Rattle.std.proofs.lemmas.Bool.{and_right}

-- two verdicts of the same bytes: one, or the two that a malformed trailer allows
abbrev pub Differ : (List ℕ → Verdict → Type 0) → List ℕ → Verdict → Verdict → Type 0
Differ K bytes v w = (v ≡ w) ⊎ ((body : List ℕ) × HasBadTrailer K bytes body × AreTwo (refused refusals.Chunk) (cut body) v w)

abbrev pub Agree : (List ℕ → Verdict → Type 0) → (List ℕ → Verdict → Type 0) → Type 0
Agree K L = (bytes : List ℕ) (v w : Verdict) → K bytes v → L bytes w → Differ K bytes v w

-- what the verdicts of the bytes behind a front are, those of all bytes are
pub lift : (K M : List ℕ → Verdict → Type 0) (f g : List ℕ) → ((s body : List ℕ) → K s (whole body []) → M (f ++ s) (whole (g ++ body) []))
    → (bytes r : List ℕ) (v w x y : Verdict) → bytes ≡ f ++ r → v ≡ after g x → w ≡ after g y → Differ K r x y → Differ M bytes v w
lift K M f g make bytes r v w x y is vx wy (inl same) = inl (vx ∙ ap (after g) same ∙ sym wy)
lift K M f g make bytes r v w x y is vx wy (inr d) = inr (
  g ++ d.0,
  record {
    front = f ++ d.1.front;
    trailer = d.1.trailer;
    is = is ∙ ap (λ (l : List ℕ). f ++ l) d.1.is ∙ sym (append_assoc f d.1.front d.1.trailer);
    ends = subst (λ (l : List ℕ). M l (whole (g ++ d.0) [])) (sym (append_assoc f d.1.front (13 ∷ 10 ∷ []))) (make (d.1.front ++ 13 ∷ 10 ∷ []) d.0 d.1.ends);
    none = d.1.none;
    malformed = d.1.malformed;
    unfull = d.1.unfull;
  },
  elim d.2 [ inl t ↦ inl (vx ∙ ap (after g) t.0, wy ∙ ap (after g) t.1) | inr t ↦ inr (vx ∙ ap (after g) t.0, wy ∙ ap (after g) t.1) ],
)

-- ---- parts by their length

pub same_split : (a b c d : List ℕ) → a ++ b ≡ c ++ d → length a ≡ length c → (a ≡ c) × (b ≡ d)
same_split a b c d e l =
    elim (two_fronts a b c d e) [
      | inl m ↦
          let none : m.0 ≡ [] = nil_from_length m.0 (omega (arith, ap length m.1, length-append a m.0, l)) in
          (sym (m.1 ∙ ap (λ (x : List ℕ). a ++ x) none ∙ append-nil a), m.2 ∙ ap (λ (x : List ℕ). x ++ d) none)
      | inr m ↦ absurd (omega (arith, ap length m.2, length-append c m.0, l, m.1))
    ]

takes_agree : (n : ℕ) (K L : List ℕ → Verdict → Type 0) → Agree K L → Agree (Takes n K) (Takes n L)
takes_agree n K L agree bytes v w (takes_all f r x is l k q) (takes_all g s y js m j p) =
    let same = same_split f r g s (sym is ∙ js) (l ∙ sym m) in
    lift K (Takes n K) f f (λ t body z. takes_all f t (whole body []) refl l z refl) bytes r v w x y is q (p ∙ ap (λ (z : List ℕ). after z y) (sym same.0))
    (agree r x y k (subst (λ (z : List ℕ). L z y) (sym same.1) j))
takes_agree n K L agree bytes v w (takes_all f r x is l k q) (takes_short lt p) = absurd (omega (arith, lt, ap length is, length-append f r, l))
takes_agree n K L agree bytes v w (takes_short lt q) (takes_all g s y js m j p) = absurd (omega (arith, lt, ap length js, length-append g s, m))
takes_agree n K L agree bytes v w (takes_short lt q) (takes_short mt p) = inl (q ∙ sym p)

ends_agree : Agree EndsHere EndsHere
ends_agree bytes v w x y = inl (x ∙ sym y)

longer : (bytes more rest : List ℕ) → bytes ++ more ≡ 13 ∷ 10 ∷ [] → 0 < length more → bytes ≡ 13 ∷ 10 ∷ rest → ⊥
longer bytes more rest f pos e = omega (arith, ap length f, length-append bytes more, ap length e, pos)

chunk_end_agree : (K L : List ℕ → Verdict → Type 0) → Agree K L → Agree (EndsChunk K) (EndsChunk L)
chunk_end_agree K L agree bytes v w (chunk_ended r e k) (chunk_ended s f j) =
    let same : s ≡ r = cc in
    lift K (EndsChunk K) (13 ∷ 10 ∷ []) [] (λ t body z. chunk_ended t refl z) bytes r v w v w e (sym (after-nil v)) (sym (after-nil w))
    (agree r v w k (subst (λ (y : List ℕ). L y w) same j))
chunk_end_agree K L agree bytes v w (chunk_ended r e k) (chunk_begun more f pos p) = absurd (longer bytes more r f pos e)
chunk_end_agree K L agree bytes v w (chunk_ended r e k) (chunk_other n p) = absurd (n [] r (append-nil bytes ∙ e))
chunk_end_agree K L agree bytes v w (chunk_begun more f pos q) (chunk_ended r e k) = absurd (longer bytes more r f pos e)
chunk_end_agree K L agree bytes v w (chunk_begun more f pos q) (chunk_begun also h qos p) = inl (q ∙ sym p)
chunk_end_agree K L agree bytes v w (chunk_begun more f pos q) (chunk_other n p) = absurd (n more [] f)
chunk_end_agree K L agree bytes v w (chunk_other n q) (chunk_ended r e k) = absurd (n [] r (append-nil bytes ∙ e))
chunk_end_agree K L agree bytes v w (chunk_other n q) (chunk_begun more f pos p) = absurd (n more [] f)
chunk_end_agree K L agree bytes v w (chunk_other n q) (chunk_other m p) = inl (q ∙ sym p)

-- ---- chunk lines

fed : (l : ChunkLine) (more : List ℕ) → has_no_feed (print_chunk_line l ++ more) ≡ true → ⊥
fed l more h =
    let x : has_no_feed (print_chunk_line l ++ more) ≡ false = list_all-append (λ n. not (n == 10)) (print_chunk_line l) more ∙ (λ i. line_feeds l i && has_no_feed more) in
    cc

extension_plain : (e : Option (List ℕ)) → IsExtension e → has_no_feed (print_extension e) ≡ true
extension_plain None h = refl
extension_plain (Some text) h = no_feed is_extension_byte text refl h

-- a chunk line has its line feed at its end alone
line_plain : (l : ChunkLine) → IsChunkLine l → (front : List ℕ) × (print_chunk_line l ≡ front ++ 10 ∷ []) × (has_no_feed front ≡ true)
unfolding print_chunk_line
line_plain l x =
    let parts = l.digits ++ l.pad ++ print_extension l.extension in (
      parts ++ 13 ∷ [],
      sym (append_assoc parts (13 ∷ []) (10 ∷ [])),
      no_feed_append parts (13 ∷ [])
          (no_feed_append (l.digits ++ l.pad) (print_extension l.extension)
          (no_feed_append l.digits l.pad (no_feed is_ascii_hexdigit l.digits refl x.digits.2) (no_feed is_ows l.pad refl x.pad))
          (extension_plain l.extension x.extension))
          refl,
    )

feeds : (front more : List ℕ) → has_no_feed ((front ++ 10 ∷ []) ++ more) ≡ true → ⊥
feeds front more h =
    let x : has_no_feed ((front ++ 10 ∷ []) ++ more) ≡ false =
    list_all-append (λ n. not (n == 10)) (front ++ 10 ∷ []) more ∙ (λ i. (list_all-append (λ n. not (n == 10)) front (10 ∷ []) ∙ and_right (has_no_feed front) false refl) i && has_no_feed more) in
    cc

-- a line that is no chunk line does not begin with one
not_wrong : (bytes : List ℕ) (l : ChunkLine) (rest front behind : List ℕ) → ReadsChunkLine bytes l rest → bytes ≡ front ++ 10 ∷ behind → has_no_feed front ≡ true
    → ((k : ChunkLine) → ¬ (ReadsChunkLine (front ++ 10 ∷ []) k [])) → ⊥
not_wrong bytes l rest front behind x e plain never =
    let p = line_plain l x.0 in
    elim (two_fronts (front ++ 10 ∷ []) behind (print_chunk_line l) rest (append_assoc front (10 ∷ []) behind ∙ sym e ∙ x.1)) [
      | inl m ↦
          elim (front_cases (front ++ 10 ∷ []) m.0 p.0 10 (sym m.1 ∙ p.1)) [
            | inl n ↦ never l (x.0, sym (append-nil (print_chunk_line l) ∙ m.1 ∙ ap (λ (y : List ℕ). (front ++ 10 ∷ []) ++ y) n ∙ append-nil (front ++ 10 ∷ [])))
            | inr q ↦ feeds front q.0 (ap has_no_feed (sym q.1) ∙ p.2)
          ]
      | inr m ↦
          elim (front_cases (print_chunk_line l) m.0 front 10 (sym m.2)) [
            | inl n ↦ absurd (omega (arith, m.1, ap length n))
            | inr q ↦ fed l q.0 (ap has_no_feed (sym q.1) ∙ plain)
          ]
    ]

-- nor with one that is too long
not_long : (bytes : List ℕ) (l : ChunkLine) (rest front behind : List ℕ) → ReadsChunkLine bytes l rest → length (print_chunk_line l) ≤ 256
    → bytes ≡ front ++ behind → has_no_feed front ≡ true → length front ≡ 256 → ⊥
not_long bytes l rest front behind x le e plain n =
    elim (two_fronts (print_chunk_line l) rest front behind (sym x.1 ∙ e)) [
      | inl m ↦ fed l m.0 (ap has_no_feed (sym m.1) ∙ plain)
      | inr m ↦ omega (arith, ap length m.2, length-append front m.0, m.1, n, le)
    ]

-- bytes without a line feed do not begin with a line
not_ended : (bytes front behind : List ℕ) → bytes ≡ front ++ 10 ∷ behind → has_no_feed bytes ≡ true → ⊥
not_ended bytes front behind e plain = feeds front behind (ap has_no_feed (append_assoc front (10 ∷ []) behind ∙ sym e) ∙ plain)

line_agree : (K L : ℕ → List ℕ → Verdict → Type 0) → ((size : ℕ) → Agree (K size) (L size)) → Agree (ReadsLine K) (ReadsLine L)
line_agree K L agree bytes v w (line_reads l r x le k) (line_reads m s y lf j) =
    let same = chunk_line_unique bytes l m r s x y in
    lift (K (chunk_size l)) (ReadsLine K) (print_chunk_line l) [] (λ t body z. line_reads l t (x.0, refl) le z) bytes r v w v w x.1 (sym (after-nil v)) (sym (after-nil w))
    (agree (chunk_size l) r v w k
    (subst (λ (n : ℕ). L n r w) (ap chunk_size (sym same.0)) (subst (λ (z : List ℕ). L (chunk_size m) z w) (sym same.1) j)))
line_agree K L agree bytes v w (line_reads l r x le k) (line_wrong front behind e plain lt never p) = absurd (not_wrong bytes l r front behind x e plain never)
line_agree K L agree bytes v w (line_reads l r x le k) (line_long front behind e plain n p) = absurd (not_long bytes l r front behind x le e plain n)
line_agree K L agree bytes v w (line_reads l r x le k) (line_unended plain lt p) = absurd (fed l r (ap has_no_feed (sym x.1) ∙ plain))
line_agree K L agree bytes v w (line_wrong front behind e plain lt never q) (line_reads l r x le k) = absurd (not_wrong bytes l r front behind x e plain never)
line_agree K L agree bytes v w (line_wrong front behind e plain lt never q) (line_wrong g t f flat mt ever p) = inl (q ∙ sym p)
line_agree K L agree bytes v w (line_wrong front behind e plain lt never q) (line_long g t f flat n p) = inl (q ∙ sym p)
line_agree K L agree bytes v w (line_wrong front behind e plain lt never q) (line_unended flat mt p) = absurd (not_ended bytes front behind e flat)
line_agree K L agree bytes v w (line_long front behind e plain n q) (line_reads l r x le k) = absurd (not_long bytes l r front behind x le e plain n)
line_agree K L agree bytes v w (line_long front behind e plain n q) (line_wrong g t f flat mt ever p) = inl (q ∙ sym p)
line_agree K L agree bytes v w (line_long front behind e plain n q) (line_long g t f flat m p) = inl (q ∙ sym p)
line_agree K L agree bytes v w (line_long front behind e plain n q) (line_unended flat mt p) = absurd (omega (arith, ap length e, length-append front behind, n, mt))
line_agree K L agree bytes v w (line_unended plain lt q) (line_reads l r x le k) = absurd (fed l r (ap has_no_feed (sym x.1) ∙ plain))
line_agree K L agree bytes v w (line_unended plain lt q) (line_wrong g t f flat mt ever p) = absurd (not_ended bytes g t f plain)
line_agree K L agree bytes v w (line_unended plain lt q) (line_long g t f flat m p) = absurd (omega (arith, ap length f, length-append g t, m, lt))
line_agree K L agree bytes v w (line_unended plain lt q) (line_unended flat mt p) = inl (q ∙ sym p)

-- ---- heads and trailers

module _ {H : Type 0} (R : List ℕ → H → List ℕ → Type 0) (fields : H → List Field) (most : ℕ) (bad large : Refusal) (K : H → List ℕ → Verdict → Type 0) where
  -- two verdicts of bytes that may begin with a head
  pub data Pair (bytes : List ℕ) (v w : Verdict) : Type 0 where
    headed : (h : H) (rest : List ℕ) → HasHead R fields most bytes h rest → K h rest v → K h rest w → Pair bytes v w
    agreed : v ≡ w → Pair bytes v w
    large_too : HasNoHead R fields most bytes → IsMalformed R fields most bytes → IsFull most bytes → AreTwo (refused bad) (refused large) v w → Pair bytes v w
    cut_too : HasNoHead R fields most bytes → IsMalformed R fields most bytes → ¬ (IsFull most bytes) → AreTwo (refused bad) (cut []) v w → Pair bytes v w

  pub pairs : (extra : ℕ) → Grammar R fields extra → ((bytes : List ℕ) (h k : H) (r q : List ℕ) → R bytes h r → R bytes k q → (h ≡ k) × (r ≡ q))
      → (bytes : List ℕ) (v w : Verdict) → Begins R fields most bad large K bytes v → Begins R fields most bad large K bytes w → Pair bytes v w
  pairs extra grammar unique bytes v w (head_found h r x k) (head_found g s y j) =
      let read = λ (f : H) (t : List ℕ) (z : HasHead R fields most bytes f t). subst (λ (b : List ℕ). R b f t) (sym z.is) (grammar.more z.front f [] t z.reads) in
      let same = unique bytes h g r s (read h r x) (read g s y) in
      headed h r x k (subst (λ (f : H). K f r w) (sym same.0) (subst (λ (t : List ℕ). K g t w) (sym same.1) j))
  pairs extra grammar unique bytes v w (head_found h r x k) (head_malformed n m p) = absurd (n h r x)
  pairs extra grammar unique bytes v w (head_found h r x k) (head_full n m p) = absurd (n h r x)
  pairs extra grammar unique bytes v w (head_found h r x k) (head_begun n m p) = absurd (n h r x)
  pairs extra grammar unique bytes v w (head_malformed n m q) (head_found h r x k) = absurd (n h r x)
  pairs extra grammar unique bytes v w (head_malformed n m q) (head_malformed o l p) = agreed (q ∙ sym p)
  pairs extra grammar unique bytes v w (head_malformed n m q) (head_full o l p) = large_too n m l (inl (q, p))
  pairs extra grammar unique bytes v w (head_malformed n m q) (head_begun o l p) = cut_too n m l (inl (q, p))
  pairs extra grammar unique bytes v w (head_full n m q) (head_found h r x k) = absurd (n h r x)
  pairs extra grammar unique bytes v w (head_full n m q) (head_malformed o l p) = large_too n l m (inr (q, p))
  pairs extra grammar unique bytes v w (head_full n m q) (head_full o l p) = agreed (q ∙ sym p)
  pairs extra grammar unique bytes v w (head_full n m q) (head_begun o l p) = absurd (l m)
  pairs extra grammar unique bytes v w (head_begun n m q) (head_found h r x k) = absurd (n h r x)
  pairs extra grammar unique bytes v w (head_begun n m q) (head_malformed o l p) = cut_too n l m (inr (q, p))
  pairs extra grammar unique bytes v w (head_begun n m q) (head_full o l p) = absurd (m l)
  pairs extra grammar unique bytes v w (head_begun n m q) (head_begun o l p) = agreed (q ∙ sym p)

-- ---- trailers

short_lines : (front more : List ℕ) → 13 ∷ 10 ∷ [] ≡ front ++ more → 0 < length more → counted_lines front ≡ []
short_lines [] more e pos = refl
short_lines (x ∷ []) more e pos = let h : x ≡ 13 = cc in subst (λ (n : ℕ). counted_lines (n ∷ []) ≡ []) (sym h) refl
short_lines (x ∷ y ∷ front) more e pos = absurd (omega (arith, ap length e, length-append front more, pos))

short_within : IsWithin 65 (13 ∷ 10 ∷ [])
short_within front more e pos (inl long) = omega (arith, long, ap length e, length-append front more)
short_within front more e pos (inr lined) = omega (arith, lined.0, ap length (short_lines front more e pos))

empty_trailer : Trailer (13 ∷ 10 ∷ []) (whole [] [])
empty_trailer =
    head_found ([], crlf) [] (record { front = 13 ∷ 10 ∷ []; is = refl; reads = (λ k d lt. absurd (omega (arith, lt)), refl); few = omega arith; within = short_within }) refl

trailer_pair : (bytes : List ℕ) (v w : Verdict) → Pair ReadsTrailer (λ t. t.0) 65 refusals.Chunk refusals.Chunk (λ t. EndsHere) bytes v w → Differ Trailer bytes v w
trailer_pair bytes v w (headed h r x k j) = inl (k ∙ sym j)
trailer_pair bytes v w (agreed e) = inl e
trailer_pair bytes v w (large_too n m l two) = inl (elim two [ inl t ↦ t.0 ∙ sym t.1 | inr t ↦ t.0 ∙ sym t.1 ])
trailer_pair bytes v w (cut_too n m l two) = inr ([], record { front = []; trailer = bytes; is = refl; ends = empty_trailer; none = n; malformed = m; unfull = l }, two)

trailer_agree : Agree Trailer Trailer
trailer_agree bytes v w x y =
    trailer_pair bytes v w (pairs ReadsTrailer (λ t. t.0) 65 refusals.Chunk refusals.Chunk (λ t. EndsHere) 0 trailers
    (λ bytes t u r q x y. let same = section_unique bytes t.0 u.0 t.1 u.1 r q x y in ((λ i. (same.0 i, same.1 i)), same.2)) bytes v w x y)

-- ---- chunks

above_some : (room : Option ℕ) (size : ℕ) → IsAbove room size → 0 < size
above_some None size a = absurd a
above_some (Some room) size a = omega (arith, a)

sized_agree : (K L : Option ℕ → List ℕ → Verdict → Type 0) → ((room : Option ℕ) → Agree (K room) (L room)) → (room : Option ℕ) (size : ℕ) → Agree (Sized K room size) (Sized L room size)
sized_agree K L agree room size bytes v w (size_last e t) (size_last f u) =
    lift Trailer (Sized K room size) [] [] (λ s body z. size_last e z) bytes bytes v w v w refl (sym (after-nil v)) (sym (after-nil w)) (trailer_agree bytes v w t u)
sized_agree K L agree room size bytes v w (size_last e t) (size_chunk pos a u) = absurd (omega (arith, e, pos))
sized_agree K L agree room size bytes v w (size_last e t) (size_over a p) = absurd (omega (arith, e, above_some room size a))
sized_agree K L agree room size bytes v w (size_chunk pos a t) (size_last f u) = absurd (omega (arith, f, pos))
sized_agree K L agree room size bytes v w (size_chunk pos a t) (size_chunk qos b u) =
    let left = room_after room size in
    lift (Takes size (EndsChunk (K left))) (Sized K room size) [] [] (λ s body z. size_chunk pos a z) bytes bytes v w v w refl (sym (after-nil v)) (sym (after-nil w))
    (takes_agree size (EndsChunk (K left)) (EndsChunk (L left)) (chunk_end_agree (K left) (L left) (agree left)) bytes v w t u)
sized_agree K L agree room size bytes v w (size_chunk pos a t) (size_over b p) = absurd (a b)
sized_agree K L agree room size bytes v w (size_over a q) (size_last f u) = absurd (omega (arith, f, above_some room size a))
sized_agree K L agree room size bytes v w (size_over a q) (size_chunk pos b u) = absurd (b a)
sized_agree K L agree room size bytes v w (size_over a q) (size_over b p) = inl (q ∙ sym p)

lines_agree : (n m : ℕ) (room : Option ℕ) → Agree (ReadsLines n room) (ReadsLines m room)
lines_agree zero m room bytes v w x y = absurd x
lines_agree (suc n) zero room bytes v w x y = absurd y
lines_agree (suc n) (suc m) room bytes v w x y =
    line_agree (Sized (ReadsLines n) room) (Sized (ReadsLines m) room) (sized_agree (ReadsLines n) (ReadsLines m) (λ left. lines_agree n m left) room) bytes v w x y

chunks_agree : (room : Option ℕ) → Agree (Chunks room) (Chunks room)
chunks_agree room bytes v w x y =
    lift (ReadsLines x.lines room) (Chunks room) [] [] (λ s body z. record { lines = x.lines; reads = z }) bytes bytes v w v w refl (sym (after-nil v)) (sym (after-nil w))
    (lines_agree x.lines y.lines room bytes v w x.reads y.reads)

pub frames_agree : (room : Option ℕ) (frame : Frame) → Agree (Frames room frame) (Frames room frame)
frames_agree room (Counted n) = takes_agree n EndsHere EndsHere ends_agree
frames_agree room Chunked = chunks_agree room
frames_agree room (Refused e) = λ bytes v w x y. inl (x ∙ sym y)
