-- How the machine moves from phase to phase.
use Rattle.std.proofs.Common.{◌≡◌, ℕ, ◌+◌, ◌-◌, ◌*◌, ◌≤◌, ◌<◌, Bool, true, false, List, [], ◌++◌, length, refl, sym, ap, ◌∙◌, arith, subst, inl, inr, suc, zero, Option, Some, None, if◌then◌else◌, nat_le, nat_lt, ◌&&◌, not, map}
use Rattle.std.specs.Prelude.{◌==◌, ◌≢◌}
use Rattle.std.specs.Str.Parse.{digits_value}
use lib.Dec.{eqb-suc-zero}
use Rattle.httparse.specs.Grammar.{Field, RequestHead, ReadsRequest, ResponseHead, ReadsResponse}
use Rattle.ojp_http.specs.declared.refusal.Frame.{Frame}
use Rattle.ojp_http.specs.declared.refusal.Frame.TheVariants.{Counted, Chunked}
use Rattle.ojp_http.specs.declared.refusal.Frame.TheVariants as frames
use Rattle.ojp_http.specs.declared.refusal.Refusal.TheVariants as refusals
use Rattle.ojp_http.specs.declared.machine.Phase.{Phase}
use Rattle.ojp_http.specs.declared.machine.Phase.TheVariants.{Head, ReplyHead, Content, Line, Data, Return, Trailing, Whole}
use Rattle.ojp_http.specs.declared.machine.Framing.{Framing}
use Rattle.ojp_http.specs.Verdicts.{Verdict, whole, refused, cut, after}
use Rattle.ojp_http.specs.Heads.{HasNoHead, IsFull, IsFullAt}
use Rattle.ojp_http.specs.Bodies.{EndsHere, Takes, EndsChunk, Chunks, Trailer, Sized, room_after, IsAbove, has_no_feed, ReadsTrailer, Asks, Replies}
use Rattle.ojp_http.specs.Machine.{content_left, chunk_left, chunk_start, ReadsAt, IsOpenAt, work_at, room_at, SpendsBy, FrameSpends, SizedSpends, IsCountedBy, IsBounded, FollowsFrame, Begins, IsNewRequest, IsNewReply}
use Rattle.ojp_http.specs.LineCounts.{no_lines, count_from}
use Rattle.ojp_http.specs.declared.count.LineCount.{LineCount}
use Rattle.ojp_http.proofs.Headed.{Grammar, both_empty, no_end}
use Rattle.ojp_http.proofs.Grammars.{trailers, requests, responses}
use Rattle.ojp_http.proofs.Lines.{heading_ends_in}
use Rattle.std.specs.Prelude.{codes}
use Rattle.std.specs.Str.{bytes_eq}
use Rattle.httparse.specs.Spans.{name_and_value}
use Rattle.ojp_http.specs.Fields.{frame_by, ask_frame, is_conflict, is_same, is_host_wrong, count_named, value_named, frame_of}
use Rattle.std.proofs.lemmas.Bool.{leb-true}

pub after-nil : (v : Verdict) → after [] v ≡ v
after-nil (whole body rest) = refl
after-nil (refused e) = refl
after-nil (cut body) = refl

-- ---- before the first byte

pub no_head_nil : {H : Type 0} (Reads : List ℕ → H → List ℕ → Type 0) (fields : H → List Field) (most extra : ℕ) → Grammar Reads fields extra → HasNoHead Reads fields most []
no_head_nil Reads fields most extra grammar h rest x =
    let none : x.front ≡ [] = (both_empty x.front rest (sym x.is)).0 in
    let fed = heading_ends_in (length (fields h) + extra) x.front (grammar.heading x.front h x.reads) in
    no_end fed.0 10 (sym none ∙ fed.1)

pub not_full_nil : (most : ℕ) → 0 < most → ¬ (IsFull most [])
not_full_nil most pos full =
    let now : IsFullAt most [] = subst (IsFullAt most) (both_empty full.front full.rest (sym full.is)).0 full.full in
    elim now [ inl long ↦ omega (arith, long) | inr lined ↦ omega (arith, lined.0, pos) ]

-- ---- phases

-- P at zero and above it
by_size : (n : ℕ) (P : Bool → Type 0) → (n ≡ 0 → P true) → (0 < n → P false) → P (n == 0)
by_size zero P z s = z refl
by_size (suc n) P z s = subst P (sym (eqb-suc-zero n)) (s (omega arith))

pub content_reads : (n : ℕ) (room : Option ℕ) (kept rest : List ℕ) (v : Verdict) → ReadsAt (content_left n) room kept rest v → Takes n EndsHere rest v
content_reads n room kept rest v =
    by_size n (λ t. ReadsAt (if t then Whole else Content n) room kept rest v → Takes n EndsHere rest v)
    (λ e r. Takes.taken [] rest (whole [] rest) refl (sym e) refl r)
    (λ pos r. r)

pub chunk_reads : (n : ℕ) (room : Option ℕ) (kept rest : List ℕ) (v : Verdict) → ReadsAt (chunk_left n) room kept rest v → Takes n (EndsChunk (Chunks room)) rest v
chunk_reads n room kept rest v =
    by_size n (λ t. ReadsAt (if t then Return false else Data n) room kept rest v → Takes n (EndsChunk (Chunks room)) rest v)
    (λ e r. Takes.taken [] rest v refl (sym e) r (sym (after-nil v)))
    (λ pos r. r)

pub content_open : (n : ℕ) (kept : List ℕ) (count : LineCount) → IsOpenAt (content_left n) kept count
content_open n kept count = by_size n (λ t. IsOpenAt (if t then Whole else Content n) kept count) (λ e. tt) (λ pos. pos)

pub chunk_open : (n : ℕ) (kept : List ℕ) (count : LineCount) → IsOpenAt (chunk_left n) kept count
chunk_open n kept count = by_size n (λ t. IsOpenAt (if t then Return false else Data n) kept count) (λ e. tt) (λ pos. pos)

pub content_work : (n room kept : ℕ) → (work_at (content_left n) room kept ≤ n) × (room_at (content_left n) room ≤ n)
content_work n room kept =
    by_size n (λ t. (work_at (if t then Whole else Content n) room kept ≤ n) × (room_at (if t then Whole else Content n) room ≤ n))
    (λ e. (omega arith, omega arith)) (λ pos. (omega arith, omega arith))

pub chunk_work : (n room kept : ℕ) → (work_at (chunk_left n) room kept ≤ n + (room * 260 + 16645)) × (room_at (chunk_left n) room ≤ n + room)
chunk_work n room kept =
    by_size n (λ t. (work_at (if t then Return false else Data n) room kept ≤ n + (room * 260 + 16645)) × (room_at (if t then Return false else Data n) room ≤ n + room))
    (λ e. (omega arith, omega arith)) (λ pos. (omega arith, omega arith))

pub not_content : (n : ℕ) → content_left n ≢ ReplyHead
not_content n = by_size n (λ t. (if t then Whole else Content n) ≢ ReplyHead) (λ e q. cc) (λ pos q. cc)

pub not_chunk : (n : ℕ) → chunk_left n ≢ ReplyHead
not_chunk n = by_size n (λ t. (if t then Return false else Data n) ≢ ReplyHead) (λ e q. cc) (λ pos q. cc)

-- ---- frames

counted_spends : (room : Option ℕ) (n kept : ℕ) → IsBounded room (Counted n) → (f : Framing) → f.room ≡ room → f.phase ≡ content_left n → FrameSpends room f
counted_spends None n kept b f r p = tt
counted_spends (Some room) n kept b f r p =
    subst (λ (o : Option ℕ). SpendsBy (Some room) Head 16384 o f.phase (length f.kept.items) 1 0) (sym r)
    (subst (λ (q : Phase). SpendsBy (Some room) Head 16384 (Some room) q (length f.kept.items) 1 0) (sym p)
    (let w = content_work n room (length f.kept.items) in (omega (arith, w.0, b.1), omega (arith, w.1, b.1), not_content n)))

chunked_spends : (room : Option ℕ) → IsBounded room Chunked → (f : Framing) → f.room ≡ room → f.phase ≡ Line → FrameSpends room f
chunked_spends None b f r p = tt
chunked_spends (Some room) b f r p =
    subst (λ (o : Option ℕ). SpendsBy (Some room) Head 16384 o f.phase (length f.kept.items) 1 0) (sym r)
    (subst (λ (q : Phase). SpendsBy (Some room) Head 16384 (Some room) q (length f.kept.items) 1 0) (sym p)
    (omega (arith, b.0), omega (arith, b.0), λ e. cc))

-- the machine goes to a body by its length
pub follows_counted : (room : Option ℕ) (n : ℕ) (f : Framing) → IsBounded room (Counted n) → f.room ≡ room → f.phase ≡ content_left n → FollowsFrame room (Counted n) f
follows_counted room n f b r p = record {
  reads = λ rest v x. content_reads n f.room f.kept.items rest v (subst (λ (q : Phase). ReadsAt q f.room f.kept.items rest v) p x);
  ready = subst (λ (q : Phase). IsOpenAt q f.kept.items f.count) (sym p) (content_open n f.kept.items f.count);
  spends = counted_spends room n 0 b f r p;
}

-- the machine goes to a body in chunks
pub follows_chunked : (room : Option ℕ) (f : Framing) → IsBounded room Chunked → f.room ≡ room → f.phase ≡ Line → f.kept.items ≡ [] → FollowsFrame room Chunked f
follows_chunked room f b r p k = record {
  reads = λ rest v x.
      let here : ReadsAt Line f.room f.kept.items rest v = subst (λ (q : Phase). ReadsAt q f.room f.kept.items rest v) p x in
      subst (λ (o : Option ℕ). Chunks o rest v) r (subst (λ (l : List ℕ). Chunks f.room (l ++ rest) v) k here);
  ready = subst (λ (q : Phase). IsOpenAt q f.kept.items f.count) (sym p)
      (omega (arith, ap length k), ap has_no_feed k);
  spends = chunked_spends room b f r p;
}

-- ---- chunks

sized_spends : (room : Option ℕ) (size : ℕ) (f : Framing) → ¬ (IsAbove room size) → f.room ≡ room_after room size → f.phase ≡ chunk_start size → f.kept.items ≡ [] → SizedSpends room size f
sized_spends None size f a r p k = tt
sized_spends (Some room) size f a r p k =
    let within : size ≤ room = omega (arith, a) in
    let none : length f.kept.items ≡ 0 = ap length k in
    subst (λ (o : Option ℕ). SpendsBy (Some room) Line 255 o f.phase (length f.kept.items) 1 0) (sym r)
    (subst (λ (q : Phase). SpendsBy (Some room) Line 255 (Some (room - size)) q (length f.kept.items) 1 0) (sym p)
    (by_size size (λ t. SpendsBy (Some room) Line 255 (Some (room - size)) (if t then Trailing else Data size) (length f.kept.items) 1 0)
    (λ e. (omega (arith, e), omega (arith, e), λ q. cc)) (λ pos. (omega (arith, within, pos), omega (arith, within, pos), λ q. cc))))

-- the machine goes to what a size asks for
pub begins_sized : (room : Option ℕ) (size : ℕ) (f : Framing) → ¬ (IsAbove room size) → f.room ≡ room_after room size → f.phase ≡ chunk_start size → f.kept.items ≡ [] → f.count ≡ no_lines → Begins room size f
begins_sized room size f a r p k s = record {
  reads = λ rest v x.
      by_size size (λ t. ReadsAt (if t then Trailing else Data size) f.room f.kept.items rest v → Sized Chunks room size rest v)
      (λ e t. Sized.last e (subst (λ (l : List ℕ). Trailer (l ++ rest) v) k t))
      (λ pos t. Sized.chunk pos a (subst (λ (o : Option ℕ). Takes size (EndsChunk (Chunks o)) rest v) r t))
      (subst (λ (q : Phase). ReadsAt q f.room f.kept.items rest v) p x);
  ready = subst (λ (q : Phase). IsOpenAt q f.kept.items f.count) (sym p)
      (by_size size (λ t. IsOpenAt (if t then Trailing else Data size) f.kept.items f.count)
      (λ e. (
        subst (λ (l : List ℕ). HasNoHead ReadsTrailer (λ t. t.0) 65 l) (sym k) (no_head_nil ReadsTrailer (λ t. t.0) 65 0 trailers),
        record {
          lines = s ∙ ap (count_from no_lines) (sym k);
          unfull = subst (λ (l : List ℕ). ¬ (IsFull 65 l)) (sym k) (not_full_nil 65 (omega arith));
        },
      ))
      (λ pos. pos));
  spends = sized_spends room size f a r p k;
}

pub follows_counted_at : (room : Option ℕ) (frame : Frame) (n : ℕ) (f : Framing) → frame ≡ Counted n → IsBounded room frame → f.room ≡ room → f.phase ≡ content_left n → FollowsFrame room frame f
follows_counted_at room frame n f e b r p = subst (λ (q : Frame). FollowsFrame room q f) (sym e) (follows_counted room n f (subst (IsBounded room) e b) r p)

pub follows_chunked_at : (room : Option ℕ) (frame : Frame) (f : Framing) → frame ≡ Chunked → IsBounded room frame → f.room ≡ room → f.phase ≡ Line → f.kept.items ≡ [] → FollowsFrame room frame f
follows_chunked_at room frame f e b r p k = subst (λ (q : Frame). FollowsFrame room q f) (sym e) (follows_chunked room f (subst (IsBounded room) e b) r p k)

-- a new machine
pub new_request : (f : Framing) → f.phase ≡ Head → f.kept.items ≡ [] → f.count ≡ no_lines → IsNewRequest f
new_request f p k s = record {
  reads = λ rest v x. subst (λ (l : List ℕ). Asks (l ++ rest) v) k (subst (λ (q : Phase). ReadsAt q f.room f.kept.items rest v) p x);
  ready = subst (λ (q : Phase). IsOpenAt q f.kept.items f.count) (sym p) (
    subst (λ (l : List ℕ). HasNoHead ReadsRequest (λ (h : RequestHead). h.fields) 66 l) (sym k) (no_head_nil ReadsRequest (λ (h : RequestHead). h.fields) 66 1 requests),
    record { lines = s ∙ ap (count_from no_lines) (sym k); unfull = subst (λ (l : List ℕ). ¬ (IsFull 66 l)) (sym k) (not_full_nil 66 (omega arith)) },
  );
  unfinished = λ w. let e : Head ≡ Whole = sym p ∙ w in cc;
}

pub new_reply : (f : Framing) → f.phase ≡ ReplyHead → f.kept.items ≡ [] → f.count ≡ no_lines → IsNewReply f
new_reply f p k s = record {
  reads = λ rest v x. subst (λ (l : List ℕ). Replies (l ++ rest) v) k (subst (λ (q : Phase). ReadsAt q f.room f.kept.items rest v) p x);
  ready = subst (λ (q : Phase). IsOpenAt q f.kept.items f.count) (sym p) (
    subst (λ (l : List ℕ). HasNoHead ReadsResponse (λ (h : ResponseHead). h.fields) 66 l) (sym k) (no_head_nil ReadsResponse (λ (h : ResponseHead). h.fields) 66 1 responses),
    record { lines = s ∙ ap (count_from no_lines) (sym k); unfull = subst (λ (l : List ℕ). ¬ (IsFull 66 l)) (sym k) (not_full_nil 66 (omega arith)) },
  );
  unfinished = λ w. let e : ReplyHead ≡ Whole = sym p ∙ w in cc;
}

-- ---- the frame of a request is bounded

choose : (P : Frame → Type 0) (b : Bool) (x y : Frame) → P x → P y → P (if b then x else y)
choose P true x y p q = p
choose P false x y p q = q

counted_within : (n most : ℕ) (t : Bool) → nat_le n most ≡ t → IsCountedBy most (if t then Counted n else frames.Refused refusals.TooLong)
counted_within n most true e = leb-true n most e
counted_within n most false e = tt

frame_bounded : (most minor lengths codings : ℕ) (length_text coding : List ℕ) → IsCountedBy most (frame_by most minor lengths codings length_text coding)
frame_bounded most minor lengths codings length_text coding =
    let n = digits_value 10 length_text in
    let counted : Frame = if nat_le n most then Counted n else frames.Refused refusals.TooLong in
    let coded : Frame = if codings == 1 && is_same coding (codes "chunked") then Chunked else frames.Refused refusals.Coding in
    let third : Frame = if nat_lt 0 codings then coded else counted in
    let second : Frame = if is_conflict minor lengths codings length_text then frames.Refused refusals.Conflict else third in
    choose (IsCountedBy most) (lengths == 0 && codings == 0) (frames.Refused refusals.Length) second (tt {0})
    (choose (IsCountedBy most) (is_conflict minor lengths codings length_text) (frames.Refused refusals.Conflict) third (tt {0})
    (choose (IsCountedBy most) (nat_lt 0 codings) coded counted
    (choose (IsCountedBy most) (codings == 1 && is_same coding (codes "chunked")) Chunked (frames.Refused refusals.Coding) (tt {0}) (tt {0}))
    (counted_within n most (nat_le n most) refl)))

pub ask_bounded : (h : RequestHead) (frame : Frame) → frame ≡ ask_frame h → IsBounded (Some 1048576) frame
ask_bounded h frame e =
    let fields = map name_and_value h.fields in
    let framed : Frame = frame_of 1048576 h.minor fields in
    let hosted : Frame = if is_host_wrong h.minor (count_named (codes "host") fields) then frames.Refused refusals.Host else framed in
    let targeted : Frame = if not (bytes_eq h.target (codes "/ojp")) then frames.Refused refusals.Target else hosted in (
      refl,
      subst (IsCountedBy 1048576) (sym e)
          (choose (IsCountedBy 1048576) (not (bytes_eq h.method (codes "POST"))) (frames.Refused refusals.Method) targeted (tt {0})
          (choose (IsCountedBy 1048576) (not (bytes_eq h.target (codes "/ojp"))) (frames.Refused refusals.Target) hosted (tt {0})
          (choose (IsCountedBy 1048576) (is_host_wrong h.minor (count_named (codes "host") fields)) (frames.Refused refusals.Host) framed (tt {0})
          (frame_bounded 1048576 h.minor (count_named (codes "content-length") fields) (count_named (codes "transfer-encoding") fields)
          (value_named (codes "content-length") fields) (value_named (codes "transfer-encoding") fields))))),
    )
