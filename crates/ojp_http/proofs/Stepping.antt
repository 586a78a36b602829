-- One byte more: what each outcome says of all the bytes.
use Rattle.std.proofs.Common.{◌≡◌, ℕ, ◌+◌, ◌-◌, ◌^◌, ◌≤◌, ◌<◌, true, false, List, [], ◌∷◌, ◌++◌, length, take, drop, get_or, refl, sym, ap, ◌∙◌, arith, append_assoc, append-nil, subst, length-append, suc, Option, Some, None, Result, Ok, Err, inl, inr, take-append-drop}
use Rattle.std.specs.Prelude.{◌≢◌}
use Rattle.httparse.specs.Grammar.{Field, RequestHead, ReadsRequest, ResponseHead, ReadsResponse, LineEnd, ChunkLine, ReadsChunkLine, print_chunk_line, chunk_size}
use Rattle.ojp_http.specs.declared.refusal.Refusal.{Refusal}
use Rattle.ojp_http.specs.declared.refusal.Refusal.TheVariants as refusals
use Rattle.ojp_http.specs.declared.refusal.Frame.{Frame}
use Rattle.ojp_http.specs.declared.machine.Phase.{Phase}
use Rattle.ojp_http.specs.declared.machine.Phase.TheVariants.{Head, ReplyHead, Content, Line, Data, Return, Trailing, Whole}
use Rattle.ojp_http.specs.declared.machine.Framing.{Framing}
use Rattle.ojp_http.specs.declared.machine.Stop.{Stop}
use Rattle.ojp_http.specs.declared.machine.Stop.TheVariants.{Refused, NoMemory}
use Rattle.ojp_http.specs.Verdicts.{Verdict, whole, refused, cut, after}
use Rattle.ojp_http.specs.Heads.{HasHead, HasNoHead, IsFullAt, Begins, found, malformed, full}
use Rattle.ojp_http.specs.Bodies.{EndsHere, Takes, taken as takes_all, short as takes_short, EndsChunk, ended as chunk_ended, begun as chunk_begun, other as chunk_other, Chunks, Trailer, ReadsTrailer, Sized, last as size_last, chunk as size_chunk, over as size_over, room_after, Frames, has_no_feed, Asks, Replies, ReadsLine, ReadsLines}
use Rattle.ojp_http.specs.Fields.{ask_frame, reply_frame}
use Rattle.ojp_http.specs.Machine.{ReadsAt, Reads, IsOpenAt, IsOpen, work_at, room_at, SpendsBy, Spends, limit_at, IsCounted, FrameSpends, SizedSpends, Follows, Enters, Moves, StepsBy, Steps, Advances, content_left, chunk_left, taken_of}
use Rattle.ojp_http.specs.ChunkLines.{EndsLine}
use Rattle.ojp_http.specs.Outcomes.{HasGrown, Refuses}
use Rattle.ojp_http.specs.LineCounts.{no_lines, count_from, count_step}
use Rattle.ojp_http.specs.declared.count.LineCount.{LineCount}
use Rattle.ojp_http.proofs.CountFacts.{count_from-append}
use Rattle.ojp_http.proofs.Full.{counted_from}
use Rattle.ojp_http.proofs.Headed.{full_now}
use Rattle.ojp_http.proofs.MachineFacts.{after-nil, content_reads, chunk_reads, content_open, chunk_open, content_work, chunk_work, not_content, not_chunk}

-- ---- phases

pub open_at : (f : Framing) (p : Phase) → f.phase ≡ p → IsOpen f → IsOpenAt p f.kept.items f.count
open_at f p e h = subst (λ (q : Phase). IsOpenAt q f.kept.items f.count) e h

-- a move from one phase to another
pub move_at : (old new : Framing) (p q : Phase) (front gained : List ℕ) → old.phase ≡ p → new.phase ≡ q
    → ((rest : List ℕ) (v : Verdict) → ReadsAt q new.room new.kept.items rest v → ReadsAt p old.room old.kept.items (front ++ rest) (after gained v))
    → IsOpenAt q new.kept.items new.count
    → SpendsBy (limit_at p old.room) p (length old.kept.items) new.room q (length new.kept.items) (length front) (length gained)
    → Moves old new front gained
move_at old new p q front gained a b reads ready spends = record {
  reads = λ rest v x.
      subst (λ (r : Phase). ReadsAt r old.room old.kept.items (front ++ rest) (after gained v)) (sym a)
      (reads rest v (subst (λ (r : Phase). ReadsAt r new.room new.kept.items rest v) b x));
  ready = subst (λ (r : Phase). IsOpenAt r new.kept.items new.count) (sym b) ready;
  spends =
      subst (λ (r : Phase). SpendsBy (limit_at r old.room) r (length old.kept.items) new.room new.phase (length new.kept.items) (length front) (length gained)) (sym a)
      (subst (λ (r : Phase). SpendsBy (limit_at p old.room) p (length old.kept.items) new.room r (length new.kept.items) (length front) (length gained)) (sym b) spends);
}

-- a refusal at a phase
pub refuse_at : (old : Framing) (p : Phase) (front : List ℕ) (e : Refusal) → old.phase ≡ p
    → ((rest : List ℕ) → ReadsAt p old.room old.kept.items (front ++ rest) (refused e)) → (rest : List ℕ) → Reads old (front ++ rest) (refused e)
refuse_at old p front e a reads rest = subst (λ (r : Phase). ReadsAt r old.room old.kept.items (front ++ rest) (refused e)) (sym a) (reads rest)

-- ---- a byte more

-- so with a run of bytes
pub run_rest : (kept new run rest : List ℕ) → new ≡ kept ++ run → new ++ rest ≡ kept ++ (run ++ rest)
run_rest kept new run rest e = ap (λ (l : List ℕ). l ++ rest) e ∙ append_assoc kept run rest

pub kept_rest : (kept new rest : List ℕ) (b : ℕ) → new ≡ kept ++ b ∷ [] → new ++ rest ≡ kept ++ b ∷ rest
kept_rest kept new rest b e = ap (λ (l : List ℕ). l ++ rest) e ∙ append_assoc kept (b ∷ []) rest

pub short_kept : (most : ℕ) (kept : List ℕ) (s : LineCount) → IsCounted most kept s → length kept < 16384
short_kept most kept s c =
    let not : 16384 ≤ length kept → ⊥ = λ le. c.unfull (record { front = kept; rest = []; is = sym (append-nil kept); full = inl le }) in
    omega (arith, not)

pub few_lines : (most : ℕ) (kept : List ℕ) (s : LineCount) → IsCounted most kept s → s.counted < 2 ^ 64 - 1
few_lines most kept s c = omega (arith, short_kept most kept s c, counted_from kept no_lines, ap (λ (v : LineCount). v.counted) c.lines)

pub recounted : (kept new : List ℕ) (b : ℕ) (s t : LineCount) → new ≡ kept ++ b ∷ [] → s ≡ count_from no_lines kept → t ≡ count_step s b → t ≡ count_from no_lines new
recounted kept new b s t e is step =
    step ∙ ap (λ (v : LineCount). count_step v b) is ∙ sym (count_from-append no_lines kept (b ∷ [])) ∙ ap (count_from no_lines) (sym e)

module _ {H : Type 0} (R : List ℕ → H → List ℕ → Type 0) (fields : H → List Field) (most : ℕ) where
  pub grown : (kept new : List ℕ) (b : ℕ) (s : LineCount) → new ≡ kept ++ b ∷ [] → HasNoHead R fields most kept → IsCounted most kept s → HasGrown R fields most new
  grown kept new b s e none c = record { kept = kept; newest = b; is = e; none = none; open_ended = c.unfull }

  -- more bytes are counted
  pub counted_more : (new : List ℕ) (t : LineCount) → HasGrown R fields most new → t ≡ count_from no_lines new → ¬ (IsFullAt most new) → IsCounted most new t
  counted_more new t g is unfull = record {
    lines = is;
    unfull = λ f. unfull (full_now R fields most new g f);
  }

  -- nothing is decided at the newest byte
  pub ready_more : (kept new seen : List ℕ) (b : ℕ) (s t : LineCount) → seen ≡ new → new ≡ kept ++ b ∷ [] → HasNoHead R fields most kept → IsCounted most kept s → t ≡ count_step s b
      → HasNoHead R fields most seen × (¬ (IsFullAt most seen)) → HasNoHead R fields most new × IsCounted most new t
  ready_more kept new seen b s t e k none counted step x = (
    subst (HasNoHead R fields most) e x.0,
    counted_more new t (grown kept new b s k none counted) (recounted kept new b s t k counted.lines step) (subst (λ (l : List ℕ). ¬ (IsFullAt most l)) e x.1),
  )

  module _ (bad large : Refusal) (K : H → List ℕ → Verdict → Type 0) where
    pub begins_found : (bytes : List ℕ) (h : H) (rest : List ℕ) (v : Verdict) → HasHead R fields most bytes h [] → K h rest v → Begins R fields most bad large K (bytes ++ rest) v
    begins_found bytes h rest v x k =
        found h rest (record { front = x.front; is = ap (λ (l : List ℕ). l ++ rest) (x.is ∙ append-nil x.front); reads = x.reads; few = x.few; within = x.within }) k

    -- what is refused whatever follows begins so
    pub begins_refused : (bytes : List ℕ) (e : Refusal) → Refuses R fields most bad large bytes e → (rest : List ℕ) → Begins R fields most bad large K (bytes ++ rest) (refused e)
    begins_refused bytes e (inl x) rest = malformed (x.1 rest).0 (x.1 rest).1 (ap refused x.0)
    begins_refused bytes e (inr x) rest = full (x.1 rest).0 (x.1 rest).1 (ap refused x.0)

-- ---- heads

-- a head that is not all there
more_at : (old new : Framing) (run : List ℕ) (p : Phase) (M : List ℕ → Verdict → Type 0) → old.phase ≡ p → new.phase ≡ p
    → new.kept.items ≡ old.kept.items ++ run
    → ((room : Option ℕ) (kept rest : List ℕ) (v : Verdict) → (ReadsAt p room kept rest v → M (kept ++ rest) v) × (M (kept ++ rest) v → ReadsAt p room kept rest v))
    → IsOpenAt p new.kept.items new.count
    → SpendsBy (limit_at p old.room) p (length old.kept.items) new.room p (length new.kept.items) (length run) 0
    → Moves old new run []
more_at old new run p M a c k is ready spends =
    move_at old new p p run [] a c
    (λ rest v x.
    let y : M (new.kept.items ++ rest) v = (is new.room new.kept.items rest v).0 x in
    let z : M (old.kept.items ++ (run ++ rest)) v = subst (λ (l : List ℕ). M l v) (run_rest old.kept.items new.kept.items run rest k) y in
    (is old.room old.kept.items (run ++ rest) (after [] v)).1 (subst (λ (w : Verdict). M (old.kept.items ++ (run ++ rest)) w) (sym (after-nil v)) z))
    ready spends

by_room : (old new : Framing) (p : Phase) (n : ℕ) → p ≢ ReplyHead → new.room ≡ old.room
    → ((room : ℕ) → (n + work_at p room (length new.kept.items) ≤ work_at p room (length old.kept.items)) × (0 + room_at p room ≤ room_at p room))
    → (o : Option ℕ) → new.room ≡ o → SpendsBy o p (length old.kept.items) new.room p (length new.kept.items) n 0
by_room old new p n np r spends None e = tt
by_room old new p n np r spends (Some room) e =
    subst (λ (q : Option ℕ). SpendsBy (Some room) p (length old.kept.items) q p (length new.kept.items) n 0) (sym e) (let w = spends room in (w.0, w.1, np))

-- the bytes kept are so many more
run_length : (kept new run : List ℕ) → new ≡ kept ++ run → length new ≡ length kept + length run
run_length kept new run e = ap length e ∙ length-append kept run

pub head_more : (old new : Framing) (run : List ℕ) → old.phase ≡ Head → new.phase ≡ Head → new.room ≡ old.room → new.kept.items ≡ old.kept.items ++ run
    → IsOpenAt Head new.kept.items new.count → Moves old new run []
head_more old new run a c r k ready =
    more_at old new run Head Asks a c k (λ room kept rest v. (λ x. x, λ x. x)) ready
    (by_room old new Head (length run) (λ e. cc) r (λ room. (omega (arith, short_kept 66 new.kept.items new.count ready.1, run_length old.kept.items new.kept.items run k), omega arith)) old.room r)

pub reply_more : (old new : Framing) (run : List ℕ) → old.phase ≡ ReplyHead → new.phase ≡ ReplyHead → new.kept.items ≡ old.kept.items ++ run
    → IsOpenAt ReplyHead new.kept.items new.count → Moves old new run []
reply_more old new run a c k ready = more_at old new run ReplyHead Replies a c k (λ room kept rest v. (λ x. x, λ x. x)) ready tt

pub trailer_more : (old new : Framing) (run : List ℕ) → old.phase ≡ Trailing → new.phase ≡ Trailing → new.room ≡ old.room → new.kept.items ≡ old.kept.items ++ run
    → IsOpenAt Trailing new.kept.items new.count → Moves old new run []
trailer_more old new run a c r k ready =
    more_at old new run Trailing Trailer a c k (λ room kept rest v. (λ x. x, λ x. x)) ready
    (by_room old new Trailing (length run) (λ e. cc) r (λ room. (omega (arith, short_kept 65 new.kept.items new.count ready.1, run_length old.kept.items new.kept.items run k), omega arith)) old.room r)

pub line_more : (old new : Framing) (run : List ℕ) → old.phase ≡ Line → new.phase ≡ Line → new.room ≡ old.room → new.kept.items ≡ old.kept.items ++ run
    → IsOpenAt Line new.kept.items new.count → Moves old new run []
line_more old new run a c r k ready =
    move_at old new Line Line run [] a c
    (λ rest v x.
    subst (λ (w : Verdict). Chunks old.room (old.kept.items ++ (run ++ rest)) w) (sym (after-nil v))
    (subst (λ (l : List ℕ). Chunks old.room l v) (run_rest old.kept.items new.kept.items run rest k)
    (subst (λ (o : Option ℕ). Chunks o (new.kept.items ++ rest) v) r x)))
    ready
    (by_room old new Line (length run) (λ e. cc) r (λ room. (omega (arith, ready.0, run_length old.kept.items new.kept.items run k), omega arith)) old.room r)

-- ---- a head is found

-- what a frame spends, from a head
frame_spends : (old new : Framing) (room : Option ℕ) → old.phase ≡ Head → room ≡ Some 1048576 → FrameSpends room new
    → SpendsBy (limit_at old.phase old.room) old.phase (length old.kept.items) new.room new.phase (length new.kept.items) 1 0
frame_spends old new room a is s =
    subst (λ (p : Phase). SpendsBy (limit_at p old.room) p (length old.kept.items) new.room new.phase (length new.kept.items) 1 0) (sym a)
    (from_room old.room (subst (λ (o : Option ℕ). FrameSpends o new) is s))
  where
    weaker : (room : ℕ) (o : Option ℕ) (q : Phase) (k : ℕ) → SpendsBy (Some 1048576) Head 16384 o q k 1 0 → SpendsBy (Some room) Head (length old.kept.items) o q k 1 0
    weaker room None q k s = s
    weaker room (Some left) q k s = (let h = s.0 in omega arith, s.1, s.2)

    from_room : (o : Option ℕ) → FrameSpends (Some 1048576) new → SpendsBy o Head (length old.kept.items) new.room new.phase (length new.kept.items) 1 0
    from_room None s = tt
    from_room (Some room) s = weaker room new.room new.phase (length new.kept.items) s

-- a found head leads to what its frame says
found_at : (old new : Framing) (p : Phase) (b : ℕ) (room : Option ℕ) (frame : Frame) (M : List ℕ → Verdict → Type 0) (bytes : List ℕ) → old.phase ≡ p
    → bytes ≡ old.kept.items ++ b ∷ []
    → ((rest : List ℕ) (v : Verdict) → M (old.kept.items ++ b ∷ rest) v → ReadsAt p old.room old.kept.items (b ∷ rest) v)
    → ((rest : List ℕ) (v : Verdict) → Frames room frame rest v → M (bytes ++ rest) v)
    → (FrameSpends room new → Spends old new 1 0)
    → (r : Result Unit Stop) → Follows room frame r new → StepsBy old (b ∷ []) r new
found_at old new p b room frame M bytes a k is reads spends (Ok u) f = record {
  reads = λ rest v x.
      let m : M (old.kept.items ++ b ∷ rest) v = subst (λ (l : List ℕ). M l v) (kept_rest old.kept.items bytes rest b k) (reads rest v (f.reads rest v x)) in
      subst (λ (q : Phase). ReadsAt q old.room old.kept.items (b ∷ rest) (after [] v)) (sym a)
      (is rest (after [] v) (subst (λ (w : Verdict). M (old.kept.items ++ b ∷ rest) w) (sym (after-nil v)) m));
  ready = f.ready;
  spends = spends f.spends;
}
found_at old new p b room frame M bytes a k is reads spends (Err (Refused e)) f =
    refuse_at old p (b ∷ []) e a
    (λ rest. is rest (refused e) (subst (λ (l : List ℕ). M l (refused e)) (kept_rest old.kept.items bytes rest b k) (reads rest (refused e) (f rest))))
found_at old new p b room frame M bytes a k is reads spends (Err NoMemory) f = tt

pub head_found : (old new : Framing) (b : ℕ) (frame : Frame) (bytes : List ℕ) (h : RequestHead) → old.phase ≡ Head → bytes ≡ old.kept.items ++ b ∷ []
    → HasHead ReadsRequest (λ (h : RequestHead). h.fields) 66 bytes h [] → frame ≡ ask_frame h
    → (r : Result Unit Stop) → Follows (Some 1048576) frame r new → StepsBy old (b ∷ []) r new
head_found old new b frame bytes h a k x e r f =
    found_at old new Head b (Some 1048576) frame Asks bytes a k (λ rest v m. m)
    (λ rest v y. begins_found ReadsRequest (λ (h : RequestHead). h.fields) 66 refusals.Head refusals.TooLargeHead (λ h. Frames (Some 1048576) (ask_frame h)) bytes h rest v x
    (subst (λ (q : Frame). Frames (Some 1048576) q rest v) e y))
    (λ s. frame_spends old new (Some 1048576) a refl s) r f

pub reply_found : (old new : Framing) (b : ℕ) (frame : Frame) (bytes : List ℕ) (h : ResponseHead) → old.phase ≡ ReplyHead → bytes ≡ old.kept.items ++ b ∷ []
    → HasHead ReadsResponse (λ (h : ResponseHead). h.fields) 66 bytes h [] → frame ≡ reply_frame h
    → (r : Result Unit Stop) → Follows None frame r new → StepsBy old (b ∷ []) r new
reply_found old new b frame bytes h a k x e r f =
    found_at old new ReplyHead b None frame Replies bytes a k (λ rest v m. m)
    (λ rest v y. begins_found ReadsResponse (λ (h : ResponseHead). h.fields) 66 refusals.Head refusals.TooLargeHead (λ h. Frames None (reply_frame h)) bytes h rest v x
    (subst (λ (q : Frame). Frames None q rest v) e y))
    (λ s. subst (λ (q : Phase). SpendsBy (limit_at q old.room) q (length old.kept.items) new.room new.phase (length new.kept.items) 1 0) (sym a) tt) r f

pub trailer_found : (old new : Framing) (b : ℕ) (bytes : List ℕ) (t : List Field × LineEnd) → old.phase ≡ Trailing → new.phase ≡ Whole → new.room ≡ old.room
    → bytes ≡ old.kept.items ++ b ∷ [] → IsCounted 65 old.kept.items old.count
    → HasHead ReadsTrailer (λ t. t.0) 65 bytes t [] → Moves old new (b ∷ []) []
trailer_found old new b bytes t a c r k counted x =
    move_at old new Trailing Whole (b ∷ []) [] a c
    (λ rest v y.
    let m : Trailer (bytes ++ rest) v = begins_found ReadsTrailer (λ t. t.0) 65 refusals.Chunk refusals.Chunk (λ t. EndsHere) bytes t rest v x y in
    subst (λ (w : Verdict). Trailer (old.kept.items ++ b ∷ rest) w) (sym (after-nil v)) (subst (λ (l : List ℕ). Trailer l v) (kept_rest old.kept.items bytes rest b k) m))
    tt (whole_spends old.room r)
  where
    whole_spends : (o : Option ℕ) → new.room ≡ o → SpendsBy o Trailing (length old.kept.items) new.room Whole (length new.kept.items) 1 0
    whole_spends None e = tt
    whole_spends (Some room) e =
        subst (λ (q : Option ℕ). SpendsBy (Some room) Trailing (length old.kept.items) q Whole (length new.kept.items) 1 0) (sym e)
        (omega (arith, short_kept 65 old.kept.items old.count counted), omega arith, λ q. cc)

-- ---- refusals of heads

pub head_refused : (old : Framing) (b : ℕ) (bytes : List ℕ) (e : Refusal) → old.phase ≡ Head → bytes ≡ old.kept.items ++ b ∷ []
    → ((rest : List ℕ) → Asks (bytes ++ rest) (refused e)) → (rest : List ℕ) → Reads old (b ∷ rest) (refused e)
head_refused old b bytes e a k x =
    refuse_at old Head (b ∷ []) e a (λ rest. subst (λ (l : List ℕ). Asks l (refused e)) (kept_rest old.kept.items bytes rest b k) (x rest))

pub reply_refused : (old : Framing) (b : ℕ) (bytes : List ℕ) (e : Refusal) → old.phase ≡ ReplyHead → bytes ≡ old.kept.items ++ b ∷ []
    → ((rest : List ℕ) → Replies (bytes ++ rest) (refused e)) → (rest : List ℕ) → Reads old (b ∷ rest) (refused e)
reply_refused old b bytes e a k x =
    refuse_at old ReplyHead (b ∷ []) e a (λ rest. subst (λ (l : List ℕ). Replies l (refused e)) (kept_rest old.kept.items bytes rest b k) (x rest))

pub trailer_refused : (old : Framing) (b : ℕ) (bytes : List ℕ) (e : Refusal) → old.phase ≡ Trailing → bytes ≡ old.kept.items ++ b ∷ []
    → ((rest : List ℕ) → Trailer (bytes ++ rest) (refused e)) → (rest : List ℕ) → Reads old (b ∷ rest) (refused e)
trailer_refused old b bytes e a k x =
    refuse_at old Trailing (b ∷ []) e a (λ rest. subst (λ (l : List ℕ). Trailer l (refused e)) (kept_rest old.kept.items bytes rest b k) (x rest))

-- ---- chunk lines

ends_lines : (room : Option ℕ) (bytes : List ℕ) (v : Verdict) → EndsChunk (Chunks room) bytes v → (n : ℕ) × EndsChunk (ReadsLines n room) bytes v
ends_lines room bytes v (chunk_ended rest e c) = (c.lines, EndsChunk.ended rest e c.reads)
ends_lines room bytes v (chunk_begun more e p q) = (0, EndsChunk.begun more e p q)
ends_lines room bytes v (chunk_other n q) = (0, EndsChunk.other n q)

takes_lines : (size : ℕ) (room : Option ℕ) (bytes : List ℕ) (v : Verdict) → Takes size (EndsChunk (Chunks room)) bytes v → (n : ℕ) × Takes size (EndsChunk (ReadsLines n room)) bytes v
takes_lines size room bytes v (takes_all front rest w e l k q) = let m = ends_lines room rest w k in (m.0, Takes.taken front rest w e l m.1 q)
takes_lines size room bytes v (takes_short lt q) = (0, Takes.short lt q)

sized_lines : (room : Option ℕ) (size : ℕ) (bytes : List ℕ) (v : Verdict) → Sized Chunks room size bytes v → (n : ℕ) × Sized (ReadsLines n) room size bytes v
sized_lines room size bytes v (size_last e t) = (0, Sized.last e t)
sized_lines room size bytes v (size_chunk pos a t) = let m = takes_lines size (room_after room size) bytes v t in (m.0, Sized.chunk pos a m.1)
sized_lines room size bytes v (size_over a q) = (0, Sized.over a q)

-- a chunk line, and what its size asks for
line_reads : (bytes rest : List ℕ) (l : ChunkLine) (size : ℕ) (room : Option ℕ) (v : Verdict) → ReadsChunkLine bytes l [] → size ≡ chunk_size l → length bytes ≤ 256
    → Sized Chunks room size rest v → Chunks room (bytes ++ rest) v
line_reads bytes rest l size room v x e le s =
    let m = sized_lines room size rest v s in
    let whole : bytes ≡ print_chunk_line l = x.1 ∙ append-nil (print_chunk_line l) in
    record {
      lines = suc m.0;
      reads = ReadsLine.line l rest (x.0, ap (λ (b : List ℕ). b ++ rest) whole) (omega (arith, le, ap length whole))
          (subst (λ (n : ℕ). Sized (ReadsLines m.0) room n rest v) e m.1);
    }

line_within : (kept n : ℕ) → kept + n ≤ 256 → (room : ℕ) (o : Option ℕ) (q : Phase) (k : ℕ) → SpendsBy (Some room) Line 255 o q k 1 0 → SpendsBy (Some room) Line kept o q k n 0
line_within kept n le room None q k s = s
line_within kept n le room (Some left) q k s = (let h = s.0 in omega (arith, le), s.1, s.2)

line_weaker : (kept n : ℕ) → kept + n ≤ 256 → (o : Option ℕ) (new : Framing) (size : ℕ) → SizedSpends o size new → SpendsBy o Line kept new.room new.phase (length new.kept.items) n 0
line_weaker kept n le None new size s = tt
line_weaker kept n le (Some room) new size s = line_within kept n le room new.room new.phase (length new.kept.items) s

-- the last bytes of a line lead to what its size asks for
pub line_sized : (old new : Framing) (run bytes : List ℕ) (l : ChunkLine) (size : ℕ) → old.phase ≡ Line → bytes ≡ old.kept.items ++ run → length bytes ≤ 256
    → ReadsChunkLine bytes l [] → size ≡ chunk_size l → (r : Result Unit Stop) → Enters old.room size r new → StepsBy old run r new
line_sized old new run bytes l size a k le x e (Ok u) f = record {
  reads = λ rest v y.
      let m : Chunks old.room (bytes ++ rest) v = line_reads bytes rest l size old.room v x e le (f.reads rest v y) in
      let n : Chunks old.room (old.kept.items ++ (run ++ rest)) v = subst (λ (q : List ℕ). Chunks old.room q v) (run_rest old.kept.items bytes run rest k) m in
      subst (λ (q : Phase). ReadsAt q old.room old.kept.items (run ++ rest) (after [] v)) (sym a)
      (subst (λ (w : Verdict). Chunks old.room (old.kept.items ++ (run ++ rest)) w) (sym (after-nil v)) n);
  ready = f.ready;
  spends = subst (λ (q : Phase). SpendsBy (limit_at q old.room) q (length old.kept.items) new.room new.phase (length new.kept.items) (length run) 0) (sym a)
      (line_weaker (length old.kept.items) (length run) (omega (arith, le, run_length old.kept.items bytes run k)) old.room new size f.spends);
}
line_sized old new run bytes l size a k le x e (Err (Refused q)) f =
    refuse_at old Line run q a
    (λ rest. subst (λ (y : List ℕ). Chunks old.room y (refused q)) (run_rest old.kept.items bytes run rest k) (line_reads bytes rest l size old.room (refused q) x e le (f rest)))
line_sized old new run bytes l size a k le x e (Err NoMemory) f = tt

-- or the line is none
pub line_wrong : (old : Framing) (run bytes : List ℕ) → old.phase ≡ Line → bytes ≡ old.kept.items ++ run → EndsLine bytes → length bytes ≤ 256
    → ((l : ChunkLine) → ¬ (ReadsChunkLine bytes l [])) → (rest : List ℕ) → Reads old (run ++ rest) (refused refusals.Chunk)
line_wrong old run bytes a k ends le never =
    refuse_at old Line run refusals.Chunk a
    (λ rest. record {
      lines = 1;
      reads = ReadsLine.wrong ends.kept rest
          (sym (run_rest old.kept.items bytes run rest k) ∙ ap (λ (l : List ℕ). l ++ rest) ends.is ∙ append_assoc ends.kept (10 ∷ []) rest) ends.plain
          (omega (arith, le, ap length ends.is, length-append ends.kept (10 ∷ [])))
          (λ l. subst (λ (y : List ℕ). ¬ (ReadsChunkLine y l [])) ends.is (never l)) refl;
    })

-- a line that does not end in so many bytes is too long
pub line_long : (old : Framing) (run bytes : List ℕ) → old.phase ≡ Line → bytes ≡ old.kept.items ++ run → has_no_feed bytes ≡ true → length bytes ≡ 256
    → (rest : List ℕ) → Reads old (run ++ rest) (refused refusals.Chunk)
line_long old run bytes a k plain limit =
    refuse_at old Line run refusals.Chunk a
    (λ rest. record {
      lines = 1;
      reads = ReadsLine.long bytes rest (sym (run_rest old.kept.items bytes run rest k)) plain limit refl;
    })

-- ---- the line end behind a chunk

same_room_spends : (old new : Framing) (p q : Phase) → q ≢ ReplyHead → new.room ≡ old.room
    → ((room : ℕ) → (1 + work_at q room (length new.kept.items) ≤ work_at p room (length old.kept.items)) × (0 + room_at q room ≤ room_at p room))
    → (o : Option ℕ) → new.room ≡ o → SpendsBy o p (length old.kept.items) new.room q (length new.kept.items) 1 0
same_room_spends old new p q nq r spends None e = tt
same_room_spends old new p q nq r spends (Some room) e =
    subst (λ (o : Option ℕ). SpendsBy (Some room) p (length old.kept.items) o q (length new.kept.items) 1 0) (sym e) (let w = spends room in (w.0, w.1, nq))

pub return_comes : (old new : Framing) (b : ℕ) → old.phase ≡ Return false → new.phase ≡ Return true → new.room ≡ old.room → b ≡ 13 → Moves old new (b ∷ []) []
return_comes old new b a c r e =
    move_at old new (Return false) (Return true) (b ∷ []) [] a c
    (λ rest v x.
    subst (λ (w : Verdict). EndsChunk (Chunks old.room) (b ∷ rest) w) (sym (after-nil v))
    (subst (λ (n : ℕ). EndsChunk (Chunks old.room) (n ∷ rest) v) (sym e) (subst (λ (o : Option ℕ). EndsChunk (Chunks o) (13 ∷ rest) v) r x)))
    tt (same_room_spends old new (Return false) (Return true) (λ q. cc) r (λ room. (omega arith, omega arith)) old.room r)

pub feed_comes : (old new : Framing) (b : ℕ) → old.phase ≡ Return true → new.phase ≡ Line → new.room ≡ old.room → new.kept.items ≡ [] → b ≡ 10 → Moves old new (b ∷ []) []
feed_comes old new b a c r k e =
    move_at old new (Return true) Line (b ∷ []) [] a c
    (λ rest v x.
    let y : Chunks old.room rest v = subst (λ (o : Option ℕ). Chunks o rest v) r (subst (λ (l : List ℕ). Chunks new.room (l ++ rest) v) k x) in
    subst (λ (w : Verdict). EndsChunk (Chunks old.room) (13 ∷ b ∷ rest) w) (sym (after-nil v))
    (EndsChunk.ended rest (ap (λ (n : ℕ). 13 ∷ n ∷ rest) e) y))
    (omega (arith, ap length k), ap has_no_feed k)
    (same_room_spends old new (Return true) Line (λ q. cc) r (λ room. (omega (arith, ap length k), omega arith)) old.room r)

-- ---- bytes of the body

pub after-append : (a b : List ℕ) (v : Verdict) → after a (after b v) ≡ after (a ++ b) v
after-append a b (whole body rest) = ap (λ (l : List ℕ). whole l rest) (sym (append_assoc a b body))
after-append a b (refused e) = refl
after-append a b (cut body) = ap cut (sym (append_assoc a b body))

takes_more : (left n : ℕ) (K : List ℕ → Verdict → Type 0) (front rest : List ℕ) (v : Verdict) → length front ≡ n → n ≤ left → Takes (left - n) K rest v → Takes left K (front ++ rest) (after front v)
takes_more left n K front rest v e le (takes_all f r w is l k q) =
    Takes.taken (front ++ f) r w (ap (λ (x : List ℕ). front ++ x) is ∙ sym (append_assoc front f r)) (length-append front f ∙ omega (arith, e, l, le)) k
    (ap (after front) q ∙ after-append front f w)
takes_more left n K front rest v e le (takes_short lt q) = Takes.short (omega (arith, length-append front rest, e, lt)) (ap (after front) q)

content_spends : (old new : Framing) (left n : ℕ) → n ≤ left → new.room ≡ old.room → (o : Option ℕ) → new.room ≡ o
    → SpendsBy o (Content left) (length old.kept.items) new.room (content_left (left - n)) (length new.kept.items) n n
content_spends old new left n le r None e = tt
content_spends old new left n le r (Some room) e =
    let w = content_work (left - n) room (length new.kept.items) in
    subst (λ (o : Option ℕ). SpendsBy (Some room) (Content left) (length old.kept.items) o (content_left (left - n)) (length new.kept.items) n n) (sym e)
    (omega (arith, w.0, le), omega (arith, w.1, le), not_content (left - n))

chunk_spends : (old new : Framing) (left n : ℕ) → n ≤ left → new.room ≡ old.room → (o : Option ℕ) → new.room ≡ o
    → SpendsBy o (Data left) (length old.kept.items) new.room (chunk_left (left - n)) (length new.kept.items) n n
chunk_spends old new left n le r None e = tt
chunk_spends old new left n le r (Some room) e =
    let w = chunk_work (left - n) room (length new.kept.items) in
    subst (λ (o : Option ℕ). SpendsBy (Some room) (Data left) (length old.kept.items) o (chunk_left (left - n)) (length new.kept.items) n n) (sym e)
    (omega (arith, w.0, le), omega (arith, w.1, le), not_chunk (left - n))

pub content_taken : (old new : Framing) (left n : ℕ) (front : List ℕ) → old.phase ≡ Content left → new.phase ≡ content_left (left - n) → new.room ≡ old.room
    → length front ≡ n → n ≤ left → Moves old new front front
content_taken old new left n front a c r l le =
    move_at old new (Content left) (content_left (left - n)) front front a c
    (λ rest v x. takes_more left n EndsHere front rest v l le (content_reads (left - n) new.room new.kept.items rest v x))
    (content_open (left - n) new.kept.items new.count)
    (subst (λ (k : ℕ). SpendsBy old.room (Content left) (length old.kept.items) new.room (content_left (left - n)) (length new.kept.items) k k) (sym l)
    (content_spends old new left n le r old.room r))

pub chunk_taken : (old new : Framing) (left n : ℕ) (front : List ℕ) → old.phase ≡ Data left → new.phase ≡ chunk_left (left - n) → new.room ≡ old.room
    → length front ≡ n → n ≤ left → Moves old new front front
chunk_taken old new left n front a c r l le =
    move_at old new (Data left) (chunk_left (left - n)) front front a c
    (λ rest v x.
    takes_more left n (EndsChunk (Chunks old.room)) front rest v l le
    (subst (λ (o : Option ℕ). Takes (left - n) (EndsChunk (Chunks o)) rest v) r (chunk_reads (left - n) new.room new.kept.items rest v x)))
    (chunk_open (left - n) new.kept.items new.count)
    (subst (λ (k : ℕ). SpendsBy old.room (Data left) (length old.kept.items) new.room (chunk_left (left - n)) (length new.kept.items) k k) (sym l)
    (chunk_spends old new left n le r old.room r))

-- ---- steps

pub advances : (old new : Framing) (piece before got : List ℕ) (n : ℕ) → 0 < n → n ≤ length piece → got ≡ before ++ take n piece → Moves old new (take n piece) (take n piece) → Advances old new piece before got n
advances old new piece before got n pos le e m = record { some = pos; within = le; gained = take n piece; grows = e; moves = m }

-- a step by a run in front of the piece is a step
pub run_step : (old new : Framing) (piece before run : List ℕ) (n : ℕ) → run ≡ take n piece → 0 < n → n ≤ length piece → (r : Result Unit Stop) → StepsBy old run r new
    → Steps old piece before (taken_of n r) new before
run_step old new piece before run n e some within (Ok u) m = record {
  some = some;
  within = within;
  gained = [];
  grows = sym (append-nil before);
  moves = subst (λ (l : List ℕ). Moves old new l []) e m;
}
run_step old new piece before run n e some within (Err (Refused q)) m = (
  λ more.
      subst (λ (l : List ℕ). Reads old l (refused q))
      (ap (λ (l : List ℕ). l ++ (drop n piece ++ more)) e ∙ sym (append_assoc (take n piece) (drop n piece) more) ∙ ap (λ (l : List ℕ). l ++ more) (take-append-drop n piece))
      (m (drop n piece ++ more)),
  refl,
)
run_step old new piece before run n e some within (Err NoMemory) m = refl

-- and so is one by a byte
pub one_step : (old new : Framing) (piece before : List ℕ) (b : ℕ) (rest : List ℕ) → piece ≡ b ∷ rest → (r : Result Unit Stop) → StepsBy old (b ∷ []) r new → Steps old piece before (taken_of 1 r) new before
one_step old new piece before b rest e r m = run_step old new piece before (b ∷ []) 1 (sym (ap (take 1) e)) (omega arith) (omega (arith, ap length e)) r m

-- the first byte and the rest
pub first_byte : (piece : List ℕ) → 0 < length piece → piece ≡ get_or piece 0 0 ∷ drop 1 piece
first_byte [] h = absurd (omega arith)
first_byte (b ∷ piece) h = refl
