-- How far the reading of a request has come.
use Rattle.std.proofs.Common.{◌≡◌, ℕ, ◌+◌, ◌≤◌, ◌<◌, true, false, List, [], ◌∷◌, ◌++◌, length, take, drop, refl, sym, ap, ◌∙◌, arith, append_assoc, append-nil, subst, Option, Some, None, Ok, Err, take-append-drop, unwrap_or}
use Rattle.std.specs.Prelude.{◌≢◌}
use Rattle.std.specs.Io.KnownBytes.{Consumes, Keeps, IsAtEnd}
use Rattle.std.proofs.KnownBytes.{Consumes-nil, Consumes-trans, Consumes-kept}
use Rattle.std.proofs.lemmas.List.{length-take}
use Rattle.ojp_http.specs.declared.refusal.HttpRefusal.TheVariants as answers
use Rattle.ojp_http.specs.declared.machine.Phase.{Phase}
use Rattle.ojp_http.specs.declared.machine.Phase.TheVariants.{Head, ReplyHead}
use Rattle.ojp_http.specs.declared.machine.Framing.{Framing}
use Rattle.ojp_http.specs.declared.machine.Stop.{Stop}
use Rattle.ojp_http.specs.declared.machine.Stop.TheVariants.{Refused, NoMemory}
use Rattle.ojp_http.specs.Verdicts.{whole, refused, cut}
use Rattle.ojp_http.specs.Asking.{Allows, http_refusal, ReadsNoFurther}
use Rattle.ojp_http.specs.Bodies.{Asks}
use Rattle.ojp_http.specs.Stops.{refusal_by}
use Rattle.ojp_http.specs.Machine.{ReadsAt, Reads, IsNewRequest, work_at, room_at, limit_at, SpendsBy, Moves, Took, Feeds, is_whole_at}
use Rattle.ojp_http.proofs.Feeding.{Moves-none, Moves-then, cut_here, limit_is, whole_phase}

-- these bytes were read, and the message is not whole
pub record HasRead (old now : Option (List ℕ)) (f : Framing) (body : List ℕ) (before count : ℕ) : Type 0 where
  pub start : Framing
  pub new : IsNewRequest start
  pub room : start.room ≡ Some 1048576
  pub phase : start.phase ≡ Head
  pub seen : List ℕ
  pub consumed : Consumes old now seen
  pub moves : Moves start f seen body
  pub unfinished : is_whole_at f.phase ≡ false
  pub at_rest : count ≡ before

pub HasRead-start : (old : Option (List ℕ)) (f : Framing) (body : List ℕ) (count : ℕ) → IsNewRequest f → f.room ≡ Some 1048576 → f.phase ≡ Head → body ≡ [] → HasRead old old f body count count
HasRead-start old f body count n r p b = record {
  start = f;
  new = n;
  room = r;
  phase = p;
  seen = [];
  consumed = Consumes-nil old;
  moves = subst (Moves f f []) (sym b) (Moves-none f n.ready);
  unfinished = ap is_whole_at p;
  at_rest = refl;
}

pub take_length : (l : List ℕ) → take (length l) l ≡ l
take_length [] = refl
take_length (x ∷ l) = ap (λ (r : List ℕ). x ∷ r) (take_length l)

-- one piece more
module _ (old mid now : Option (List ℕ)) (f g : Framing) (piece body got : List ℕ) (before count count' used : ℕ) where
  -- all that was taken
  all_moves : (h : HasRead old mid f body before count) → Took f g piece body got used → Moves h.start g (h.seen ++ take used piece) got
  all_moves h t = subst (Moves h.start g (h.seen ++ take used piece)) (sym t.goes.grows) (Moves-then h.start f g h.seen (take used piece) body t.goes.gained h.moves t.goes.moves)

  pub HasRead-more : HasRead old mid f body before count → Consumes mid now piece → Took f g piece body got used → is_whole_at g.phase ≡ false → count' ≡ count → HasRead old now g got before count'
  HasRead-more h c t n le =
      let all : take used piece ≡ piece = ap (λ (k : ℕ). take k piece) (t.all (λ w. let e : true ≡ false = ap is_whole_at (sym w) ∙ n in cc)) ∙ take_length piece in
      record {
        start = h.start;
        new = h.new;
        room = h.room;
        phase = h.phase;
        seen = h.seen ++ piece;
        consumed = Consumes-trans old mid now h.seen piece h.consumed c;
        moves = subst (λ (l : List ℕ). Moves h.start g (h.seen ++ l) got) all (all_moves h t);
        unfinished = n;
        at_rest = le ∙ h.at_rest;
      }

  -- a whole request
  pub allows_whole : HasRead old mid f body before count → Consumes mid now piece → Took f g piece body got used → is_whole_at g.phase ≡ true → Allows old (Ok got)
  allows_whole h c t w = by_old old mid now h.consumed c
    where
      moves : Moves h.start g (h.seen ++ take used piece) got
      moves = all_moves h t

      asks : (rest : List ℕ) → Asks ((h.seen ++ take used piece) ++ rest) (whole got rest)
      asks rest =
          let here : Reads g rest (whole [] rest) = subst (λ (p : Phase). ReadsAt p g.room g.kept.items rest (whole [] rest)) (sym (whole_phase g.phase w)) refl in
          h.new.reads ((h.seen ++ take used piece) ++ rest) (whole got rest)
          (subst (λ (l : List ℕ). Reads h.start ((h.seen ++ take used piece) ++ rest) (whole l rest)) (append-nil got) (moves.reads rest (whole [] rest) here))

      by_old : (a b c : Option (List ℕ)) → Consumes a b h.seen → Consumes b c piece → Allows a (Ok got)
      by_old None b c x y = tt
      by_old (Some bytes) None c x y = absurd x
      by_old (Some bytes) (Some left) None x y = absurd y
      by_old (Some bytes) (Some left) (Some last) x y = λ _ _.
          let rest = drop used piece ++ last in
          let split : (h.seen ++ take used piece) ++ rest ≡ bytes =
          append_assoc h.seen (take used piece) rest ∙ ap (λ (l : List ℕ). h.seen ++ l) (sym (append_assoc (take used piece) (drop used piece) last) ∙ ap (λ (l : List ℕ). l ++ last) (take-append-drop used piece) ∙ sym y) ∙ sym x in
          record { verdict = whole got rest; asks = subst (λ (l : List ℕ). Asks l (whole got rest)) split (asks rest); tells = refl }

  -- a body is within the limit
  pub body_most : HasRead old mid f body before count → Took f g piece body got used → length got ≤ 1048576
  body_most h t = by_room (limit_at h.start.phase h.start.room) (ap (λ (p : Phase). limit_at p h.start.room) h.phase ∙ h.room) g.room (all_moves h t).spends
    where
      by_room : (o : Option ℕ) → o ≡ Some 1048576 → (r : Option ℕ) → SpendsBy o h.start.phase (length h.start.kept.items) r g.phase (length g.kept.items) (length (h.seen ++ take used piece)) (length got) → length got ≤ 1048576
      by_room None e r s = absurd (cc)
      by_room (Some room) e None s = absurd s
      by_room (Some room) e (Some left) s = let x : room_at h.start.phase room ≡ 1048576 = ap (λ (p : Phase). room_at p room) h.phase in omega (arith, s.1, x)

  -- the input ended
  pub allows_cut : HasRead old mid f body before count → Consumes mid now [] → IsAtEnd now → Allows old (Err answers.Cut)
  allows_cut h c e = by_old old mid now h.consumed c e
    where
      by_old : (a b c : Option (List ℕ)) → Consumes a b h.seen → Consumes b c [] → IsAtEnd c → Allows a (Err answers.Cut)
      by_old None b c x y z = tt
      by_old (Some bytes) None c x y z = absurd x
      by_old (Some bytes) (Some left) None x y z = absurd y
      by_old (Some bytes) (Some left) (Some last) x y z = λ _ _.
          let all : h.seen ++ [] ≡ bytes = ap (λ (l : List ℕ). h.seen ++ l) (sym (y ∙ z)) ∙ sym x in
          record {
            verdict = cut (body ++ []);
            asks = subst (λ (l : List ℕ). Asks l (cut (body ++ []))) all (h.new.reads (h.seen ++ []) (cut (body ++ [])) (h.moves.reads [] (cut []) (cut_here f h.moves.ready h.unfinished)));
            tells = refl;
          }

  -- the machine stopped
  pub allows_stop : HasRead old mid f body before count → Consumes mid now piece → (stop : Stop) → Feeds f piece body (Err stop) g got → Allows old (Err (refusal_by stop))
  allows_stop h c NoMemory s = no_memory old
    where
      no_memory : (a : Option (List ℕ)) → Allows a (Err answers.NoMemory)
      no_memory None = tt
      no_memory (Some bytes) = λ _ n. absurd (n refl)
  allows_stop h c (Refused e) s = by_old old mid now h.consumed c
    where
      by_old : (a b c : Option (List ℕ)) → Consumes a b h.seen → Consumes b c piece → Allows a (Err (http_refusal e))
      by_old None b c x y = tt
      by_old (Some bytes) None c x y = absurd x
      by_old (Some bytes) (Some left) None x y = absurd y
      by_old (Some bytes) (Some left) (Some last) x y = λ _ _.
          let all : h.seen ++ (piece ++ last) ≡ bytes = ap (λ (l : List ℕ). h.seen ++ l) (sym y) ∙ sym x in
          record {
            verdict = refused e;
            asks = subst (λ (l : List ℕ). Asks l (refused e)) all (h.new.reads (h.seen ++ (piece ++ last)) (refused e) (h.moves.reads (piece ++ last) (refused e) (s.0 last)));
            tells = refl;
          }

-- a fault has a cause of its own
pub allows_fault : (old : Option (List ℕ)) → Allows old (Err answers.ReadFault)
allows_fault None = tt
allows_fault (Some bytes) = λ n _. absurd (n refl)

-- the bytes before the last piece are cut
pub stops_behind : (old mid now : Option (List ℕ)) (f : Framing) (body piece : List ℕ) (before count : ℕ) → HasRead old mid f body before count → Consumes mid now piece → length piece ≤ 8192
    → ReadsNoFurther old now
stops_behind old mid now f body piece before count h c le = record {
  front = h.seen;
  last = piece;
  taken = Consumes-trans old mid now h.seen piece h.consumed c;
  undecided = record {
    verdict = cut (body ++ []);
    asks = subst (λ (l : List ℕ). Asks l (cut (body ++ []))) (append-nil h.seen) (h.new.reads (h.seen ++ []) (cut (body ++ [])) (h.moves.reads [] (cut []) (cut_here f h.moves.ready h.unfinished)));
    tells = refl;
  };
  within = le;
}

pub stops_here : (old mid now : Option (List ℕ)) (f : Framing) (body : List ℕ) (before count : ℕ) → HasRead old mid f body before count → Keeps mid now → ReadsNoFurther old now
stops_here old mid now f body before count h k = stops_behind old mid now f body [] before count h (Consumes-kept mid mid now [] (Consumes-nil mid) k) (omega arith)

-- ---- the most bytes that may still be taken

abbrev pub work_left : Framing → ℕ
work_left f = work_at f.phase (unwrap_or f.room 0) (length f.kept.items)

falls : (o : Option ℕ) (p : Phase) (k : ℕ) (r : Option ℕ) (q : Phase) (l t g room : ℕ) → SpendsBy o p k r q l t g → o ≡ Some room → t + work_at q (unwrap_or r 0) l ≤ work_at p (unwrap_or o 0) k
falls None p k r q l t g room s e = absurd (cc)
falls (Some left) p k None q l t g room s e = absurd s
falls (Some left) p k (Some more) q l t g room s e = s.0

limited : (o : Option ℕ) (p : Phase) (k : ℕ) (r : Option ℕ) (q : Phase) (l t g : ℕ) → SpendsBy o p k r q l t g → o ≡ Some 1048576 → ((room : ℕ) × (r ≡ Some room)) × (q ≢ ReplyHead)
limited None p k r q l t g s e = absurd (cc)
limited (Some left) p k None q l t g s e = absurd s
limited (Some left) p k (Some more) q l t g s e = ((more, refl), s.2)

pub work_falls : (old mid : Option (List ℕ)) (f g : Framing) (piece body got : List ℕ) (before count used : ℕ) → HasRead old mid f body before count → Took f g piece body got used
    → is_whole_at g.phase ≡ false → 0 < length piece → work_left g < work_left f
work_falls old mid f g piece body got before count used h t n pos =
    let x = limited (limit_at h.start.phase h.start.room) h.start.phase (length h.start.kept.items) f.room f.phase (length f.kept.items) (length h.seen) (length body) h.moves.spends
    (ap (λ (p : Phase). limit_at p h.start.room) h.phase ∙ h.room) in
    let s : SpendsBy f.room f.phase (length f.kept.items) g.room g.phase (length g.kept.items) (length (take used piece)) (length t.goes.gained) =
    subst (λ (o : Option ℕ). SpendsBy o f.phase (length f.kept.items) g.room g.phase (length g.kept.items) (length (take used piece)) (length t.goes.gained)) (limit_is f.phase f.room x.1) t.goes.moves.spends in
    let all = t.all (λ w. let e : true ≡ false = ap is_whole_at (sym w) ∙ n in cc) in
    omega (arith, falls f.room f.phase (length f.kept.items) g.room g.phase (length g.kept.items) (length (take used piece)) (length t.goes.gained) x.0.0 s x.0.1, length-take used piece, all, pos)
