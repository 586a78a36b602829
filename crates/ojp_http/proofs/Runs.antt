-- Runs of bytes without a line feed, kept at once.
use Rattle.std.proofs.Common.{◌≡◌, ℕ, ◌+◌, ◌≤◌, ◌<◌, Bool, true, false, not, ◌&&◌, ◌||◌, List, [], ◌∷◌, ◌++◌, Some, None, Ok, length, take, get_or, refl, sym, ap, ◌∙◌, arith, append_assoc, append-nil, subst, suc, inl, inr, nat_le, if◌then◌else◌, length-append}
use Rattle.std.specs.Prelude.{◌==◌}
use Rattle.std.proofs.lemmas.Bool.{and_parts, cases_Bool, eqb-true, false_from_ne_true, leb-true, not-true, or_cases, or_right}
use Rattle.std.proofs.lemmas.Bool.Decides.{nat_tests}
use Rattle.std.proofs.lemmas.List.{length-take-le, get_or-take, take_more}
use Rattle.memchr.specs.Find.{IsFirstByte, is_byte}
use Rattle.httparse.specs.Grammar.{Field, RequestHead, ReadsRequest, ResponseHead, ReadsResponse}
use Rattle.ojp_http.specs.declared.refusal.Refusal.TheVariants as refusals
use Rattle.ojp_http.specs.declared.machine.Phase.{Phase}
use Rattle.ojp_http.specs.declared.machine.Phase.TheVariants.{Head, ReplyHead, Content, Line, Data, Return, Trailing, Whole}
use Rattle.ojp_http.specs.declared.machine.Framing.{Framing}
use Rattle.ojp_http.specs.declared.count.Begun.{Begun}
use Rattle.ojp_http.specs.declared.count.Begun.TheVariants.{Nothing, Return as Returned, Other}
use Rattle.ojp_http.specs.declared.count.LineCount.{LineCount}
use Rattle.ojp_http.specs.Bodies.{ReadsTrailer, has_no_feed}
use Rattle.ojp_http.specs.ChunkLines.{EndsLine}
use Rattle.ojp_http.specs.Heads.{HasNoHead}
use Rattle.ojp_http.specs.Machine.{IsCounted, IsOpen, IsOpenAt, IsRun, Moves, Steps, most_kept_at}
use Rattle.ojp_http.specs.LineCounts.{begun_step, begun_run, count_end, count_step, count_from, is_full_by}
use Rattle.ojp_http.proofs.Full.{full_by}
use Rattle.ojp_http.proofs.Grammars.{no_feed_append, requests, responses, trailers}
use Rattle.ojp_http.proofs.Headed.{Grammar, unended}
use Rattle.ojp_http.proofs.Stepping.{counted_more, grown, head_more, reply_more, recounted, trailer_more}

-- ---- the first line feed

-- no byte is a line feed
plain_all : (front : List ℕ) → ((k : ℕ) → k < length front → (get_or front k 0 == 10) ≡ true → ⊥) → has_no_feed front ≡ true
plain_all [] h = refl
plain_all (b ∷ front) h =
    let e = false_from_ne_true (b == 10) (h 0 (omega arith)) in
    let r = plain_all front (λ k low. h (suc k) (omega arith)) in
    (λ i. not (e i) && r i)

-- the bytes before the first line feed are a run
pub run_found : (most kept m at : ℕ) (piece : List ℕ) → m ≤ length piece → kept + m < most → IsFirstByte (is_byte 10) (take m piece) (Some at) → IsRun most kept piece at
run_found most kept m at piece le lt first =
    let size : length (take m piece) ≡ m = length-take-le m piece le in
    let low : at < m = omega (arith, size, first.0.high) in
    let count : length (take at piece) ≡ at = length-take-le at piece (omega arith) in
    record {
      within = omega arith;
      plain = plain_all (take at piece) (λ k less here.
          first.0.before k (omega arith) (omega (arith, count, less))
          (ap (λ (n : ℕ). n == 10) (get_or-take m piece k 0 (omega (arith, count, less, low)) ∙ sym (get_or-take at piece k 0 (omega (arith, count, less)))) ∙ here));
      unfull = λ some. omega arith;
    }

-- or all of them are
pub run_none : (most kept m n : ℕ) (piece : List ℕ) → m ≤ length piece → kept + m < most → n ≡ length (take m piece) → IsFirstByte (is_byte 10) (take m piece) None → IsRun most kept piece n
run_none most kept m n piece le lt is first =
    let size : length (take m piece) ≡ m = length-take-le m piece le in
    let same : n ≡ m = is ∙ size in
    let plain : has_no_feed (take m piece) ≡ true = plain_all (take m piece) (λ k less here. first k (omega arith) less here) in
    record {
      within = omega (arith, same, le);
      plain = subst (λ (l : ℕ). has_no_feed (take l piece) ≡ true) (sym same) plain;
      unfull = λ some. omega (arith, same, lt);
    }

-- the bytes up to the first line feed end a line
pub line_found : (kept piece : List ℕ) (m at : ℕ) → has_no_feed kept ≡ true → m ≤ length piece → IsFirstByte (is_byte 10) (take m piece) (Some at) → EndsLine (kept ++ take (at + 1) piece)
line_found kept piece m at plain le first =
    let size : length (take m piece) ≡ m = length-take-le m piece le in
    let low : at < m = omega (arith, size, first.0.high) in
    let run = run_found (m + 1) 0 m at piece le (omega arith) first in
    let feed : get_or piece at 0 ≡ 10 = sym (get_or-take m piece at 0 low) ∙ eqb-true (get_or (take m piece) at 0) 10 first.1 in
    record {
      kept = kept ++ take at piece;
      is = ap (λ (l : List ℕ). kept ++ l) (take_more piece at 0 (omega arith) ∙ ap (λ (n : ℕ). take at piece ++ n ∷ []) feed) ∙ sym (append_assoc kept (take at piece) (10 ∷ []));
      plain = no_feed_append kept (take at piece) plain run.plain;
    }

-- or all of them are of a line that goes on
pub line_front : (kept piece : List ℕ) (m : ℕ) → has_no_feed kept ≡ true → m ≤ length piece → IsFirstByte (is_byte 10) (take m piece) None → has_no_feed (kept ++ take m piece) ≡ true
line_front kept piece m plain le first =
    let run = run_none (m + 1) 0 m m piece le (omega arith) (sym (length-take-le m piece le)) first in
    no_feed_append kept (take m piece) plain run.plain

-- ---- the count of lines

plain_step : (s : LineCount) (b : ℕ) → (b == 10) ≡ false → count_step s b ≡ record { begun = begun_step s.begun b; counted = s.counted; has_empty = s.has_empty }
plain_step s b e = ap (λ (t : Bool). if t then count_end s else record { begun = begun_step s.begun b; counted = s.counted; has_empty = s.has_empty }) e

-- a second byte makes a line that is not empty
second_step : (begun : Begun) (b c : ℕ) → begun_step (begun_step begun b) c ≡ Other
second_step Nothing b c = elim (b == 13) as (λ t. begun_step (if t then Returned else Other) c ≡ Other) [ true ↦ refl | false ↦ refl ]
second_step Returned b c = refl
second_step Other b c = refl

begun_more : (begun : Begun) (b c : ℕ) (run : List ℕ) → begun_run (begun_step begun b) (c ∷ run) ≡ Other
begun_more begun b c [] = second_step begun b c
begun_more begun b c (d ∷ run) = refl

-- the line that has begun grows
pub run_count : (run : List ℕ) (s : LineCount) → has_no_feed run ≡ true → count_from s run ≡ record { begun = begun_run s.begun run; counted = s.counted; has_empty = s.has_empty }
run_count [] s h = refl
run_count (b ∷ []) s h = plain_step s b (not-true (b == 10) (and_parts (not (b == 10)) true h).0)
run_count (b ∷ c ∷ run) s h =
    let two = and_parts (not (b == 10)) (has_no_feed (c ∷ run)) h in
    ap (λ (t : LineCount). count_from t (c ∷ run)) (plain_step s b (not-true (b == 10) two.0))
    ∙ run_count (c ∷ run) (record { begun = begun_step s.begun b; counted = s.counted; has_empty = s.has_empty }) two.1
    ∙ ap (λ (t : Begun). record { begun = t; counted = s.counted; has_empty = s.has_empty }) (begun_more s.begun b c run)

-- ---- heads and trailers

-- bytes whose lines are as many stay below the limits
shut_more : (most : ℕ) (kept new : List ℕ) (s t : LineCount) → IsCounted most kept s → t.counted ≡ s.counted → t.has_empty ≡ s.has_empty → length new < 16384
    → is_full_by most (length new) t ≡ false
shut_more most kept new s t counted c h lt =
    elim (cases_Bool (is_full_by most (length new) t)) [
      | inr e ↦ e
      | inl e ↦
          elim (or_cases (nat_le 16384 (length new)) (nat_le most t.counted && not t.has_empty) e) [
            | inl long ↦ absurd (omega (arith, leb-true 16384 (length new) long, lt))
            | inr lined ↦
                let same : is_full_by most (length kept) s ≡ true =
                (λ i. nat_le 16384 (length kept) || (nat_le most (sym c i) && not (sym h i))) ∙ ap (λ (v : Bool). nat_le 16384 (length kept) || v) lined ∙ or_right (nat_le 16384 (length kept)) true refl in
                absurd (counted.unfull (record { front = kept; rest = []; is = sym (append-nil kept); full = full_by most kept s counted.lines same }))
          ]
    ]

no_feed_byte : (b : ℕ) → (b == 10) ≡ false → b ≡ 10 → ⊥
no_feed_byte b e is = grind (arith, nat_tests)

module _ {H : Type 0} (R : List ℕ → H → List ℕ → Type 0) (fields : H → List Field) (most extra : ℕ) (grammar : Grammar R fields extra) where
  byte_open : (kept : List ℕ) (b : ℕ) (s : LineCount) → (b == 10) ≡ false → length kept + 1 < 16384 → HasNoHead R fields most kept → IsCounted most kept s
      → HasNoHead R fields most (kept ++ b ∷ []) × IsCounted most (kept ++ b ∷ []) (count_step s b)
  byte_open kept b s e lt none counted =
      let new : List ℕ = kept ++ b ∷ [] in
      let g = grown R fields most kept new b s refl none counted in
      let is = recounted kept new b s (count_step s b) refl counted.lines refl in
      let step = plain_step s b e in
      let shut = shut_more most kept new s (count_step s b) counted (ap (λ (v : LineCount). v.counted) step) (ap (λ (v : LineCount). v.has_empty) step) (omega (arith, length-append kept (b ∷ []), lt)) in
      let d = unended R fields most refusals.Head refusals.TooLargeHead (λ h. tt {0}) extra grammar new kept b (count_step s b) g is refl (no_feed_byte b e) shut in
      (d.0, counted_more R fields most new (count_step s b) g is d.1)

  -- nothing is decided in a run
  run_open : (run kept : List ℕ) (s : LineCount) → has_no_feed run ≡ true → length kept + length run < 16384 → HasNoHead R fields most kept → IsCounted most kept s
      → HasNoHead R fields most (kept ++ run) × IsCounted most (kept ++ run) (count_from s run)
  run_open [] kept s h lt none counted =
      subst (λ (l : List ℕ). HasNoHead R fields most l × IsCounted most l s) (sym (append-nil kept)) (none, counted)
  run_open (b ∷ run) kept s h lt none counted =
      let two = and_parts (not (b == 10)) (has_no_feed run) h in
      let one = byte_open kept b s (not-true (b == 10) two.0) (omega arith) none counted in
      let all = run_open run (kept ++ b ∷ []) (count_step s b) two.1 (omega (arith, lt, length-append kept (b ∷ []))) one.0 one.1 in
      subst (λ (l : List ℕ). HasNoHead R fields most l × IsCounted most l (count_from (count_step s b) run)) (append_assoc kept (b ∷ []) run) all

  -- and so of what was kept with it
  run_ready : (run kept new : List ℕ) (s t : LineCount) → new ≡ kept ++ run → t ≡ count_from s run → has_no_feed run ≡ true → length kept + length run < 16384
      → HasNoHead R fields most kept × IsCounted most kept s → HasNoHead R fields most new × IsCounted most new t
  run_ready run kept new s t k e h lt ready =
      let all = run_open run kept s h lt ready.0 ready.1 in
      let at : HasNoHead R fields most (kept ++ run) × IsCounted most (kept ++ run) t = subst (λ (v : LineCount). HasNoHead R fields most (kept ++ run) × IsCounted most (kept ++ run) v) (sym e) all in
      subst (λ (l : List ℕ). HasNoHead R fields most l × IsCounted most l t) (sym k) at

-- ---- steps

moves_at : (p : Phase) (old new : Framing) (run : List ℕ) → old.phase ≡ p → new.phase ≡ p → new.room ≡ old.room → new.kept.items ≡ old.kept.items ++ run
    → new.count ≡ count_from old.count run → has_no_feed run ≡ true → length old.kept.items + length run < most_kept_at p → IsOpenAt p old.kept.items old.count → Moves old new run []
moves_at Head old new run a c r k s h lt ready =
    head_more old new run a c r k (run_ready ReadsRequest (λ (h : RequestHead). h.fields) 66 1 requests run old.kept.items new.kept.items old.count new.count k s h lt ready)
moves_at ReplyHead old new run a c r k s h lt ready =
    reply_more old new run a c k (run_ready ReadsResponse (λ (h : ResponseHead). h.fields) 66 1 responses run old.kept.items new.kept.items old.count new.count k s h lt ready)
moves_at (Content left) old new run a c r k s h lt ready = absurd (omega arith)
moves_at Line old new run a c r k s h lt ready = absurd (omega arith)
moves_at (Data left) old new run a c r k s h lt ready = absurd (omega arith)
moves_at (Return has_return) old new run a c r k s h lt ready = absurd (omega arith)
moves_at Trailing old new run a c r k s h lt ready =
    trailer_more old new run a c r k (run_ready ReadsTrailer (λ t. t.0) 65 0 trailers run old.kept.items new.kept.items old.count new.count k s h lt ready)
moves_at Whole old new run a c r k s h lt ready = absurd (omega arith)

-- a run in front of the piece is kept
pub run_kept : (old new : Framing) (piece before : List ℕ) (n : ℕ) → IsOpen old → IsRun (most_kept_at old.phase) (length old.kept.items) piece n → 0 < n
    → new.phase ≡ old.phase → new.room ≡ old.room → new.kept.items ≡ old.kept.items ++ take n piece → new.count ≡ count_from old.count (take n piece) → Steps old piece before (Ok n) new before
run_kept old new piece before n ready run some c r k s = record {
  some = some;
  within = run.within;
  gained = [];
  grows = sym (append-nil before);
  moves = moves_at old.phase old new (take n piece) refl c r k s run.plain (omega (arith, run.unfull some, length-take-le n piece run.within)) ready;
}
