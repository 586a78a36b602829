-- A reply in pieces.
use Rattle.std.proofs.Common.{◌≡◌, ℕ, true, false, List, [], ◌++◌, length, take, refl, sym, ap, ◌∙◌, append_assoc, append-nil, subst, Result, Ok, Err, ◌≤◌}
use Rattle.std.specs.Prelude.{◌≢◌, ◌==◌}
use Rattle.ojp_http.specs.declared.fed.ReplyFed.{ReplyFed}
use Rattle.ojp_http.specs.declared.fed.ReplyFed.TheVariants as fed
use Rattle.ojp_http.specs.declared.fed.ReplyRefused.{ReplyRefused}
use Rattle.ojp_http.specs.declared.fed.ReplyRefused.TheVariants as refused_as
use Rattle.ojp_http.specs.declared.fed.Stage.TheVariants.{Whole, Over}
use Rattle.ojp_http.specs.declared.machine.Phase.{Phase}
use Rattle.ojp_http.specs.declared.machine.Phase.TheVariants as phases
use Rattle.ojp_http.specs.declared.machine.Framing.{Framing}
use Rattle.ojp_http.specs.declared.machine.Stop.{Stop}
use Rattle.ojp_http.specs.declared.machine.Stop.TheVariants.{Refused, NoMemory}
use Rattle.ojp_http.specs.Verdicts.{Verdict, whole, refused, after}
use Rattle.ojp_http.specs.Bodies.{Replies}
use Rattle.ojp_http.specs.Asking.{HttpReply}
use Rattle.ojp_http.specs.Machine.{ReadsAt, Reads, IsOpenAt, IsNewReply, Took, Feeds, is_whole_at}
use Rattle.ojp_http.specs.Replying.{ReplyView, HasTaken, HasFed, ReadsOn, Answers, BeginsNoReply, ended, framed, refusal_at}
use Rattle.ojp_http.specs.declared.refusal.Refusal.{Refusal}
use Rattle.ojp_http.proofs.WholeMessages.{replies_only, beginning_law}
use Rattle.ojp_http.proofs.MachineFacts.{after-nil}
use Rattle.ojp_http.proofs.Stepping.{after-append}
use Rattle.ojp_http.proofs.Feeding.{whole_phase}
use Rattle.ojp_http.proofs.Headed.{both_empty}
use Rattle.ojp_http.proofs.Opened.{open_cut, open_goes_on}
use Rattle.ojp_http.proofs.Requesting.{take_length}

not_whole : (p : Phase) → p ≢ phases.Whole → is_whole_at p ≡ false
not_whole phases.Head n = refl
not_whole phases.ReplyHead n = refl
not_whole (phases.Content left) n = refl
not_whole phases.Line n = refl
not_whole (phases.Data left) n = refl
not_whole (phases.Return has_return) n = refl
not_whole phases.Trailing n = refl
not_whole phases.Whole n = absurd (n refl)

pub taken_none : (f : Framing) → IsNewReply f → HasTaken (framed f) [] []
taken_none f n = record {
  reads = λ rest v x. subst (λ (w : Verdict). Replies rest w) (sym (after-nil v)) (n.reads rest v x);
  ready = n.ready;
  unfinished = not_whole f.phase n.unfinished;
}

pub open_new : (f : Framing) → IsNewReply f → IsOpenAt f.phase f.kept.items f.count × (is_whole_at f.phase ≡ false)
open_new f n = (n.ready, not_whole f.phase n.unfinished)

-- where the bytes are refused, no reply begins with them
pub begins_none : (bytes : List ℕ) (e : Refusal) → ((rest : List ℕ) → Replies (bytes ++ rest) (refused e)) → BeginsNoReply bytes
begins_none bytes e decided more body x = let same : refused e ≡ whole body [] = replies_only (bytes ++ more) body [] (refused e) x (decided more) in cc

-- no reply begins with a whole one and more bytes
begins_longer : (bytes got piece : List ℕ) → HttpReply bytes got → piece ≢ [] → BeginsNoReply (bytes ++ piece)
begins_longer bytes got piece x some more body y =
    some (both_empty piece more (beginning_law bytes (piece ++ more) got body x (subst (λ (l : List ℕ). HttpReply l body) (append_assoc bytes piece more) y))).0

not_nil : (piece : List ℕ) → (length piece == 0) ≡ false → piece ≢ []
not_nil piece some e = let x : true ≡ false = ap (λ (l : List ℕ). length l == 0) (sym e) ∙ some in cc

-- a piece behind a whole reply
pub feeds_behind : (bytes got piece before : List ℕ) → (length piece == 0) ≡ false
    → HttpReply bytes got → Answers (ended Whole) (ended (Over refused_as.Bad)) bytes got piece before before (Err refused_as.Bad)
feeds_behind bytes got piece before some x =
    ((refl, not_nil piece some, refl, begins_longer bytes got piece x (not_nil piece some)), refl)

module _ (f g : Framing) (bytes got piece items out : List ℕ) where
  whole_core : (used : ℕ) → HasTaken (framed f) bytes got → Took f g piece items out used → is_whole_at g.phase ≡ true
      → ReadsOn (ended Whole) bytes got piece items out (Ok (fed.Whole used))
  whole_core used h t w =
      let gained = t.goes.gained in
      let here : Reads g [] (whole [] []) = subst (λ (p : Phase). ReadsAt p g.room g.kept.items [] (whole [] [])) (sym (whole_phase g.phase w)) refl in
      let all : Replies (bytes ++ (take used piece ++ [])) (whole (got ++ (gained ++ [])) []) = h.reads (take used piece ++ []) (whole (gained ++ []) []) (t.goes.moves.reads [] (whole [] []) here) in (
        record {
          within = t.goes.within;
          gained = gained;
          grows = t.goes.grows;
          fed = subst (λ (l : List ℕ). Replies (bytes ++ l) (whole (got ++ gained) [])) (append-nil (take used piece))
              (subst (λ (l : List ℕ). Replies (bytes ++ (take used piece ++ [])) (whole (got ++ l) [])) (append-nil gained) all);
        },
        refl,
      )

  more_core : (used : ℕ) → HasTaken (framed f) bytes got → Took f g piece items out used → is_whole_at g.phase ≡ false
      → ReadsOn (framed g) bytes got piece items out (Ok fed.More)
  more_core used h t n =
      let gained = t.goes.gained in
      let all : used ≡ length piece = t.all (λ w. let e : true ≡ false = ap is_whole_at (sym w) ∙ n in cc) in
      let some : HasTaken (framed g) (bytes ++ take used piece) (got ++ gained) = record {
        reads = λ rest v x.
            subst (λ (l : List ℕ). Replies l (after (got ++ gained) v)) (sym (append_assoc bytes (take used piece) rest))
            (subst (λ (w : Verdict). Replies (bytes ++ (take used piece ++ rest)) w) (after-append got gained v)
            (h.reads (take used piece ++ rest) (after gained v) (t.goes.moves.reads rest v x)));
        ready = t.goes.moves.ready;
        unfinished = n;
      } in
      let taken : HasTaken (framed g) (bytes ++ take (length piece) piece) (got ++ gained) =
      subst (λ (k : ℕ). HasTaken (framed g) (bytes ++ take k piece) (got ++ gained)) all some in
      let fed : HasFed (framed g) (bytes ++ piece) (got ++ gained) =
      subst (λ (l : List ℕ). HasTaken (framed g) (bytes ++ l) (got ++ gained)) (take_length piece) taken in
      record {
        grows = record {
          within = subst (λ (k : ℕ). k ≤ length piece) all t.goes.within;
          gained = gained;
          grows = t.goes.grows;
          fed = taken;
        };
        reads = refl;
        stays_open = record {
          is_cut = open_cut (framed g) (bytes ++ piece) (got ++ gained) refl fed;
          begins = λ more body x. open_goes_on (framed g) (bytes ++ piece) (got ++ gained) more body refl fed x;
        };
      }

  stop_core : (stop : Stop) → HasTaken (framed f) bytes got → Feeds f piece items (Err stop) g out
      → ReadsOn (ended (Over (refusal_at stop))) bytes got piece items out (Err (refusal_at stop))
  stop_core (Refused e) h s =
      let decided : (rest : List ℕ) → Replies ((bytes ++ piece) ++ rest) (refused e) =
      λ rest. subst (λ (l : List ℕ). Replies l (refused e)) (sym (append_assoc bytes piece rest)) (h.reads (piece ++ rest) (refused e) (s.0 rest)) in
      record { over = refl; decided = λ bad. record { refusal = e; none = begins_none (bytes ++ piece) e decided; decided = decided }; gains = s.1 }
  stop_core NoMemory h s = record { over = refl; decided = λ bad. absurd (cc); gains = s }

  module _ (before end : List ℕ) (b : before ≡ items) (a : end ≡ out) where
    place_in : (new : ReplyView) (r : Result ReplyFed ReplyRefused) → ReadsOn new bytes got piece items out r → ReadsOn new bytes got piece before end r
    place_in new r reads =
        subst (λ (l : List ℕ). ReadsOn new bytes got piece l end r) (sym b) (subst (λ (l : List ℕ). ReadsOn new bytes got piece items l r) (sym a) reads)

    pub reads_whole : (used : ℕ) → Took f g piece items out used → is_whole_at g.phase ≡ true
        → HasTaken (framed f) bytes got → ReadsOn (ended Whole) bytes got piece before end (Ok (fed.Whole used))
    reads_whole used t w x = place_in (ended Whole) (Ok (fed.Whole used)) (whole_core used x t w)

    pub reads_more : (used : ℕ) → Took f g piece items out used → is_whole_at g.phase ≡ false
        → HasTaken (framed f) bytes got → ReadsOn (framed g) bytes got piece before end (Ok fed.More)
    reads_more used t n x = place_in (framed g) (Ok fed.More) (more_core used x t n)

    pub reads_over : (stop : Stop) (refusal : ReplyRefused) → refusal ≡ refusal_at stop → Feeds f piece items (Err stop) g out
        → HasTaken (framed f) bytes got → ReadsOn (ended (Over refusal)) bytes got piece before end (Err refusal)
    reads_over stop refusal is s x =
        subst (λ (q : ReplyRefused). ReadsOn (ended (Over q)) bytes got piece before end (Err q)) (sym is)
        (place_in (ended (Over (refusal_at stop))) (Err (refusal_at stop)) (stop_core stop x s))
