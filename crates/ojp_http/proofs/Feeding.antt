-- Many steps: what was taken, and what is left of the limits.
use Rattle.std.proofs.Common.{◌≡◌, ℕ, ◌+◌, ◌≤◌, true, false, List, [], ◌∷◌, ◌++◌, length, take, drop, refl, sym, ap, ◌∙◌, arith, append_assoc, append-nil, subst, length-append, Option, Some, None, Err, take-append-drop, inl, inr, ◌⊎◌}
use Rattle.std.specs.Prelude.{◌≢◌}
use Rattle.std.proofs.lemmas.List.{length-drop}
use Rattle.std.proofs.Math.Seq.{take-add}
use Rattle.ojp_http.specs.declared.refusal.Refusal.{Refusal}
use Rattle.ojp_http.specs.declared.machine.Phase.{Phase}
use Rattle.ojp_http.specs.declared.machine.Phase.TheVariants.{Head, ReplyHead, Content, Line, Data, Return, Trailing, Whole}
use Rattle.ojp_http.specs.declared.machine.Framing.{Framing}
use Rattle.ojp_http.specs.declared.machine.Stop.{Stop}
use Rattle.ojp_http.specs.declared.machine.Stop.TheVariants.{Refused, NoMemory}
use Rattle.ojp_http.specs.declared.count.LineCount.{LineCount}
use Rattle.ojp_http.specs.Verdicts.{Verdict, refused, cut, after}
use Rattle.ojp_http.specs.Heads.{Begins}
use Rattle.ojp_http.specs.Bodies.{Takes, EndsChunk, Chunks, Trailer, Asks, Replies, ReadsLine}
use Rattle.ojp_http.specs.Machine.{ReadsAt, Reads, IsOpenAt, IsOpen, limit_at, SpendsBy, Moves, Goes, Took, Advances, Steps, Feeds, is_whole_at}
use Rattle.ojp_http.proofs.MachineFacts.{after-nil}
use Rattle.ojp_http.proofs.Stepping.{after-append}

-- ---- spending

pub limit_is : (p : Phase) (o : Option ℕ) → p ≢ ReplyHead → limit_at p o ≡ o
limit_is Head o n = refl
limit_is ReplyHead o n = absurd (n refl)
limit_is (Content left) o n = refl
limit_is Line o n = refl
limit_is (Data left) o n = refl
limit_is (Return has_return) o n = refl
limit_is Trailing o n = refl
limit_is Whole o n = refl

none_spent : (p : Phase) (o : Option ℕ) (kept : ℕ) → p ≢ ReplyHead → SpendsBy o p kept o p kept 0 0
none_spent p None kept n = tt
none_spent p (Some room) kept n = (omega arith, omega arith, n)

no_phase : (p : Phase) (o : Option ℕ) (kept : ℕ) → SpendsBy (limit_at p o) p kept o p kept 0 0
no_phase Head o kept = none_spent Head o kept (λ e. cc)
no_phase ReplyHead o kept = tt
no_phase (Content left) o kept = none_spent (Content left) o kept (λ e. cc)
no_phase Line o kept = none_spent Line o kept (λ e. cc)
no_phase (Data left) o kept = none_spent (Data left) o kept (λ e. cc)
no_phase (Return has_return) o kept = none_spent (Return has_return) o kept (λ e. cc)
no_phase Trailing o kept = none_spent Trailing o kept (λ e. cc)
no_phase Whole o kept = none_spent Whole o kept (λ e. cc)

spends_then : (a : Option ℕ) (p : Phase) (k : ℕ) (b : Option ℕ) (q : Phase) (l : ℕ) (c : Option ℕ) (r : Phase) (m t g u h : ℕ)
    → SpendsBy a p k b q l t g → SpendsBy (limit_at q b) q l c r m u h → SpendsBy a p k c r m (t + u) (g + h)
spends_then None p k b q l c r m t g u h x y = tt
spends_then (Some room) p k None q l c r m t g u h x y = absurd x
spends_then (Some room) p k (Some left) q l c r m t g u h x y =
    behind c (subst (λ (o : Option ℕ). SpendsBy o q l c r m u h) (limit_is q (Some left) x.2) y)
  where
    behind : (o : Option ℕ) → SpendsBy (Some left) q l o r m u h → SpendsBy (Some room) p k o r m (t + u) (g + h)
    behind None z = z
    behind (Some more) z = (omega (arith, x.0, z.0), omega (arith, x.1, z.1), z.2)

-- ---- moves

pub Moves-none : (f : Framing) → IsOpen f → Moves f f [] []
Moves-none f o = record {
  reads = λ rest v x. subst (λ (w : Verdict). Reads f rest w) (sym (after-nil v)) x;
  ready = o;
  spends = no_phase f.phase f.room (length f.kept.items);
}

pub Moves-then : (a b c : Framing) (s t g h : List ℕ) → Moves a b s g → Moves b c t h → Moves a c (s ++ t) (g ++ h)
Moves-then a b c s t g h x y = record {
  reads = λ rest v z.
      subst (λ (l : List ℕ). Reads a l (after (g ++ h) v)) (sym (append_assoc s t rest))
      (subst (λ (w : Verdict). Reads a (s ++ (t ++ rest)) w) (after-append g h v) (x.reads (t ++ rest) (after h v) (y.reads rest v z)));
  ready = y.ready;
  spends =
      subst (λ (n : ℕ). SpendsBy (limit_at a.phase a.room) a.phase (length a.kept.items) c.room c.phase (length c.kept.items) n (length (g ++ h))) (sym (length-append s t))
      (subst (λ (n : ℕ). SpendsBy (limit_at a.phase a.room) a.phase (length a.kept.items) c.room c.phase (length c.kept.items) (length s + length t) n) (sym (length-append g h))
      (spends_then (limit_at a.phase a.room) a.phase (length a.kept.items) b.room b.phase (length b.kept.items) c.room c.phase (length c.kept.items) (length s) (length g) (length t) (length h) x.spends y.spends));
}

-- ---- a piece

pub Goes-none : (f : Framing) (piece before : List ℕ) → IsOpen f → Goes f f piece before before 0
Goes-none f piece before o = record { within = omega arith; gained = []; grows = sym (append-nil before); moves = Moves-none f o }

pub Goes-more : (a b c : Framing) (piece before mid got left : List ℕ) (used n : ℕ) → Goes a b piece before mid used → left ≡ drop used piece → Advances b c left mid got n → Goes a c piece before got (used + n)
Goes-more a b c piece before mid got left used n x e y =
    let inside : n ≤ length (drop used piece) = omega (arith, y.within, ap length e) in
    record {
      within = omega (arith, x.within, inside, length-drop used piece);
      gained = x.gained ++ y.gained;
      grows = y.grows ∙ ap (λ (l : List ℕ). l ++ y.gained) x.grows ∙ append_assoc before x.gained y.gained;
      moves = subst (λ (l : List ℕ). Moves a c l (x.gained ++ y.gained)) (ap (λ (l : List ℕ). take used piece ++ take n l) e ∙ sym (take-add used n piece))
          (Moves-then a b c (take used piece) (take n left) x.gained y.gained x.moves y.moves);
    }

-- the rest of the piece is refused
pub Goes-refused : (a b : Framing) (piece before mid left : List ℕ) (used : ℕ) (e : Refusal) → Goes a b piece before mid used → left ≡ drop used piece
    → ((rest : List ℕ) → Reads b (left ++ rest) (refused e)) → (rest : List ℕ) → Reads a (piece ++ rest) (refused e)
Goes-refused a b piece before mid left used e x is r rest =
    subst (λ (l : List ℕ). Reads a l (refused e))
    (sym (append_assoc (take used piece) left rest) ∙ ap (λ (l : List ℕ). (take used piece ++ l) ++ rest) is ∙ ap (λ (l : List ℕ). l ++ rest) (take-append-drop used piece))
    (x.moves.reads (left ++ rest) (refused e) (r rest))

pub whole_phase : (p : Phase) → is_whole_at p ≡ true → p ≡ Whole
whole_phase Head e = absurd (cc)
whole_phase ReplyHead e = absurd (cc)
whole_phase (Content left) e = absurd (cc)
whole_phase Line e = absurd (cc)
whole_phase (Data left) e = absurd (cc)
whole_phase (Return has_return) e = absurd (cc)
whole_phase Trailing e = absurd (cc)
whole_phase Whole e = refl

-- a piece is at its end, or the message is
pub Took-all : (a b : Framing) (piece before got : List ℕ) (used : ℕ) → Goes a b piece before got used → (length piece ≤ used) ⊎ (is_whole_at b.phase ≡ true) → Took a b piece before got used
Took-all a b piece before got used x (inl le) = record { goes = x; all = λ n. omega (arith, x.within, le) }
Took-all a b piece before got used x (inr w) = record { goes = x; all = λ n. absurd (n (whole_phase b.phase w)) }

-- ---- the end of the input

-- where the input ends before the message does, it is cut
pub cut_at : (p : Phase) (room : Option ℕ) (kept : List ℕ) (count : LineCount) → IsOpenAt p kept count → is_whole_at p ≡ false → ReadsAt p room kept [] (cut [])
cut_at Head room kept count o n = subst (λ (l : List ℕ). Asks l (cut [])) (sym (append-nil kept)) (Begins.begun o.0 o.1.unfull refl)
cut_at ReplyHead room kept count o n = subst (λ (l : List ℕ). Replies l (cut [])) (sym (append-nil kept)) (Begins.begun o.0 o.1.unfull refl)
cut_at (Content left) room kept count o n = Takes.short o refl
cut_at Line room kept count o n = subst (λ (l : List ℕ). Chunks room l (cut [])) (sym (append-nil kept)) (record { lines = 1; reads = ReadsLine.unended o.1 o.0 refl })
cut_at (Data left) room kept count o n = Takes.short o refl
cut_at (Return false) room kept count o n = EndsChunk.begun (13 ∷ 10 ∷ []) refl (omega arith) refl
cut_at (Return true) room kept count o n = EndsChunk.begun (10 ∷ []) refl (omega arith) refl
cut_at Trailing room kept count o n = subst (λ (l : List ℕ). Trailer l (cut [])) (sym (append-nil kept)) (Begins.begun o.0 o.1.unfull refl)
cut_at Whole room kept count o n = absurd (cc)

pub cut_here : (f : Framing) → IsOpen f → is_whole_at f.phase ≡ false → Reads f [] (cut [])
cut_here f o n = cut_at f.phase f.room f.kept.items f.count o n

-- a stop in a piece
pub feeds_stop : (a b c : Framing) (piece before mid got left : List ℕ) (used : ℕ) (stop : Stop) → Goes a b piece before mid used → left ≡ drop used piece
    → Steps b left mid (Err stop) c got → Feeds a piece before (Err stop) c got
feeds_stop a b c piece before mid got left used (Refused e) x is s = (Goes-refused a b piece before mid left used e x is s.0, (x.gained, s.1 ∙ x.grows))
feeds_stop a b c piece before mid got left used NoMemory x is s = (x.gained, s ∙ x.grows)
