-- How far the reading of a document has come.
use Rattle.std.proofs.Common.{◌≡◌, ◌≢◌, ℕ, zero, suc, ◌+◌, ◌-◌, ◌<◌, ◌≤◌, ◌^◌, [], ◌∷◌, ◌++◌, length, take, drop, Option, Some, None, Result, Ok, Err, refl, sym, ap, ◌∙◌, subst, inl, inr, arith, append_assoc, append-nil, length-append, take-append-drop}
use Rattle.ojp_grammar.specs.declared.refusals.Reason.{Reason}
use Rattle.std.specs.Prelude.{IfSome, Bool, true, false, ◌||◌, ◌&&◌, ◌==◌, nat_lt, IsTrue}
use Rattle.std.specs.Io.KnownBytes.{Consumes, IsAtEnd, Keeps}
use Rattle.std.proofs.KnownBytes.{Consumes-nil, Consumes-trans, Consumes-kept, Consumes-whole}
use Rattle.ojp_values.specs.Texts.{Text}
use Rattle.ojp_values.specs.declared.documents.Doc.{Doc}
use Rattle.ojp_outside.specs.Causes.{Rose}
use Rattle.ojp_grammar.specs.Documents.{IsWanted, Spells}
use Rattle.ojp_grammar.specs.Places.{IsDocumentRefused}
use Rattle.ojp_grammar.specs.declared.refusals.Want.{Want}
use Rattle.ojp_decode.specs.Progress.{Progress, reading, whole, over, spent}
use Rattle.ojp_grammar.specs.Whole.{IsWhole}
use Rattle.ojp_decode.specs.Feeding.{Awaits, FeedsOn, FeedsBehind, StaysRefused, trailing}
use Rattle.ojp_decode.specs.Standing.{ReaderView, HasRead, Follows, Feeds, Gives}
use Rattle.ojp_decode.proofs.Counts.{Counts, counted}
use Rattle.ojp_decode.specs.declared.fed.Fed.{Fed}
use Rattle.ojp_decode.specs.declared.fed.Fed.TheVariants as feds
use Rattle.ojp_decode.specs.declared.fed.ReadRefused.{ReadRefused}
use Rattle.ojp_decode.specs.declared.fed.ReadRefused.TheVariants.{At, NoMemory}
use Rattle.ojp_outside.specs.Seen.{SourceView}
use Rattle.ojp_steps.specs.Lent.{Lent, before, after}
use Rattle.ojp_steps.specs.Inputs.{FailsToRead, RefusesNone, ReadsAs}
use Rattle.ojp_steps.specs.Pieces.{Took, HasTaken, FeedsAll, Finishes, input_refusal}
use Rattle.ojp_steps.specs.declared.input.InputRefused.{InputRefused}
use Rattle.ojp_steps.specs.declared.input.InputRefused.TheVariants as refusals

-- ---- one call of a reader

-- what a call gives where no document was whole, and where one was
abbrev On : Progress → Text → Result Fed ReadRefused → Progress → Type 0
On old piece result new = (want : Want) (bytes : Text) → old ≡ reading want bytes → FeedsOn want bytes piece result new

abbrev Behind : Progress → Text → Result Fed ReadRefused → Progress → Type 0
Behind old piece result new = (want : Want) (bytes : Text) → old ≡ whole want bytes → FeedsBehind want bytes piece result new

-- behind a whole document more is not taken
behind_more : (want : Want) (bytes piece : Text) (new : Progress) → FeedsBehind want bytes piece (Ok feds.More) new → ⊥
behind_more want bytes [] new b = let e = (b.empty refl).0 in cc
behind_more want bytes (x ∷ piece) new b = let e = (b.more (λ n. cc)).0 in cc

behind_used : (want : Want) (bytes piece : Text) (new : Progress) (used : ℕ) → FeedsBehind want bytes piece (Ok (feds.Whole used)) new
    → (used ≡ 0) × (piece ≡ []) × (new ≡ whole want bytes)
behind_used want bytes [] new used b =
    let e = (b.empty refl).0 in
    let none : used ≡ 0 = cc in (none, refl, (b.empty refl).1)
behind_used want bytes (x ∷ piece) new used b = let e = (b.more (λ n. cc)).0 in absurd (cc)

used_within : (piece : Text) (old new : Progress) (used : ℕ) → On old piece (Ok (feds.Whole used)) new → Behind old piece (Ok (feds.Whole used)) new → (want : Want) (fed : Text) → Took want fed old → used ≤ length piece
used_within piece (reading w b) new used on behind want fed t = (on w b refl).0.within
used_within piece (whole w b) new used on behind want fed t =
    let e : used ≡ 0 = (behind_used w b piece new used (behind w b refl)).0 in omega arith
used_within piece (over r) new used on behind want fed t = absurd t
used_within piece spent new used on behind want fed t = absurd t

feeds_more : (piece : Text) (old new : Progress) → On old piece (Ok feds.More) new → Behind old piece (Ok feds.More) new
    → (want : Want) (fed : Text) → Took want fed old → Took want (fed ++ piece) new
feeds_more piece (reading w b) new on behind want fed t =
    subst (Took want (fed ++ piece)) (sym (on w b refl).1) (t.0, ap (λ (l : Text). l ++ piece) t.1)
feeds_more piece (whole w b) new on behind want fed t = absurd (behind_more w b piece new (behind w b refl))
feeds_more piece (over r) new on behind want fed t = absurd t
feeds_more piece spent new on behind want fed t = absurd t

-- a piece behind which a document goes on refuses nothing
more_refuses_none : (piece : Text) (old new : Progress) → On old piece (Ok feds.More) new → Behind old piece (Ok feds.More) new
    → (want : Want) (fed : Text) → Took want fed old → RefusesNone want (fed ++ piece)
more_refuses_none piece (reading w b) new on behind want fed t =
    inr (subst (λ (x : Want). Awaits x (fed ++ piece)) t.0 (subst (λ (l : Text). Awaits w (l ++ piece)) t.1 (on w b refl).0))
more_refuses_none piece (whole w b) new on behind want fed t = absurd (behind_more w b piece new (behind w b refl))
more_refuses_none piece (over r) new on behind want fed t = absurd t
more_refuses_none piece spent new on behind want fed t = absurd t

-- the bytes up to the end of a document in a piece are whole
used_whole : (piece : Text) (old new : Progress) (used : ℕ) → On old piece (Ok (feds.Whole used)) new → Behind old piece (Ok (feds.Whole used)) new
    → (want : Want) (fed : Text) → Took want fed old → piece ≢ [] → IsWhole want (fed ++ take used piece)
used_whole piece (reading w b) new used on behind want fed t some =
    subst (λ (x : Want). IsWhole x (fed ++ take used piece)) t.0 (subst (λ (l : Text). IsWhole w (l ++ take used piece)) t.1 (on w b refl).0.whole)
used_whole piece (whole w b) new used on behind want fed t some = absurd (some (behind_used w b piece new used (behind w b refl)).1)
used_whole piece (over r) new used on behind want fed t some = absurd t
used_whole piece spent new used on behind want fed t some = absurd t

take_nothing : (n : ℕ) (l : Text) → l ≡ [] → take n l ≡ []
take_nothing zero [] e = refl
take_nothing (suc n) [] e = refl
take_nothing n (x ∷ l) e = absurd (cc)

-- where a document ends in the piece, it is whole with the bytes that are used
whole_then : (piece : Text) (old new : Progress) (used : ℕ) → On old piece (Ok (feds.Whole used)) new → Behind old piece (Ok (feds.Whole used)) new
    → (want : Want) (fed : Text) → Took want fed old → new ≡ whole want (fed ++ take used piece)
whole_then piece (reading w b) new used on behind want fed t =
    (on w b refl).1 ∙ ap (λ (x : Want). whole x (b ++ take used piece)) t.0 ∙ ap (λ (l : Text). whole want (l ++ take used piece)) t.1
whole_then piece (whole w b) new used on behind want fed t =
    let u = behind_used w b piece new used (behind w b refl) in
    let none : take used piece ≡ [] = take_nothing used piece u.1 in
    u.2 ∙ ap (λ (x : Want). whole x b) t.0 ∙ ap (whole want) (t.1 ∙ sym (append-nil fed) ∙ ap (λ (l : Text). fed ++ l) (sym none))
whole_then piece (over r) new used on behind want fed t = absurd t
whole_then piece spent new used on behind want fed t = absurd t

-- all the bytes are refused whatever follows, or memory ran out
abbrev Refuses : Want → Text → Text → ReadRefused → Type 0
Refuses want fed piece (At r) = StaysRefused want (fed ++ piece) r
Refuses want fed piece NoMemory = Unit {0}

behind_ok : (want : Want) (bytes rest : Text) (new : Progress) (f : Fed) → FeedsBehind want bytes rest (Ok f) new → Took want (bytes ++ rest) new
behind_ok want bytes [] new f b = subst (Took want (bytes ++ [])) (sym (b.empty refl).1) (refl, sym (append-nil bytes))
behind_ok want bytes (x ∷ rest) new f b = let e = (b.more (λ n. cc)).0 in absurd (cc)

behind_err : (want : Want) (bytes rest : Text) (new : Progress) (r : ReadRefused) → FeedsBehind want bytes rest (Err r) new → Refuses want bytes rest r
behind_err want bytes rest new NoMemory b = tt
behind_err want bytes [] new (At r) b = let e = (b.empty refl).0 in absurd (cc)
behind_err want bytes (x ∷ rest) new (At r) b =
    let other : x ∷ rest ≢ [] = λ n. cc in
    let e = (b.more other).0 in
    let same : trailing (length bytes) ≡ r = cc in
    subst (StaysRefused want (bytes ++ x ∷ rest)) same (b.stays other)

feeds_err : (piece : Text) (old new : Progress) (r : ReadRefused) → On old piece (Err r) new → Behind old piece (Err r) new
    → (want : Want) (fed : Text) → Took want fed old → Refuses want fed piece r
feeds_err piece old new NoMemory on behind want fed t = tt
feeds_err piece (reading w b) new (At r) on behind want fed t =
    let stays : StaysRefused w (b ++ piece) r = (on w b refl).0.stays in
    subst (λ (x : Want). StaysRefused x (fed ++ piece) r) t.0 (subst (λ (l : Text). StaysRefused w (l ++ piece) r) t.1 stays)
feeds_err piece (whole w b) new (At r) on behind want fed t =
    let stays : StaysRefused w (b ++ piece) r = behind_err w b piece new (At r) (behind w b refl) in
    subst (λ (x : Want). StaysRefused x (fed ++ piece) r) t.0 (subst (λ (l : Text). StaysRefused w (l ++ piece) r) t.1 stays)
feeds_err piece (over x) new (At r) on behind want fed t = absurd t
feeds_err piece spent new (At r) on behind want fed t = absurd t

-- the rest of a piece stands behind the bytes that were used
parts : (fed piece rest : Text) (used : ℕ) → rest ≡ drop used piece → (fed ++ take used piece) ++ rest ≡ fed ++ piece
parts fed piece rest used e =
    ap (λ (l : Text). (fed ++ take used piece) ++ l) e ∙ append_assoc fed (take used piece) (drop used piece) ∙ ap (λ (l : Text). fed ++ l) (take-append-drop used piece)

rest_ok : (want : Want) (fed piece rest : Text) (used : ℕ) (new : Progress) (f : Fed) → rest ≡ drop used piece
    → FeedsBehind want (fed ++ take used piece) rest (Ok f) new → Took want (fed ++ piece) new
rest_ok want fed piece rest used new f e b =
    subst (λ (l : Text). Took want l new) (parts fed piece rest used e) (behind_ok want (fed ++ take used piece) rest new f b)

-- a piece that a document ends is whole with it
behind_nothing : (want : Want) (bytes rest : Text) (new : Progress) (f : Fed) → FeedsBehind want bytes rest (Ok f) new → rest ≡ []
behind_nothing want bytes [] new f b = refl
behind_nothing want bytes (x ∷ rest) new f b = let e = (b.more (λ n. cc)).0 in absurd (cc)

rest_whole : (want : Want) (fed piece rest : Text) (used : ℕ) (new : Progress) (f : Fed) → rest ≡ drop used piece
    → FeedsBehind want (fed ++ take used piece) rest (Ok f) new → IsWhole want (fed ++ take used piece) → RefusesNone want (fed ++ piece)
rest_whole want fed piece rest used new f e b w =
    let none : rest ≡ [] = behind_nothing want (fed ++ take used piece) rest new f b in
    let same : fed ++ take used piece ≡ fed ++ piece =
    sym (append-nil (fed ++ take used piece)) ∙ ap (λ (l : Text). (fed ++ take used piece) ++ l) (sym none) ∙ parts fed piece rest used e in
    inl (subst (IsWhole want) same w)

rest_err : (want : Want) (fed piece rest : Text) (used : ℕ) (new : Progress) (r : ReadRefused) → rest ≡ drop used piece
    → FeedsBehind want (fed ++ take used piece) rest (Err r) new → Refuses want fed piece r
rest_err want fed piece rest used new NoMemory e b = tt
rest_err want fed piece rest used new (At r) e b =
    subst (λ (l : Text). StaysRefused want l r) (parts fed piece rest used e) (behind_err want (fed ++ take used piece) rest new (At r) b)

-- ---- one call, by what the reader has taken

-- what the call does, however far the reader was
abbrev pub Called : ReaderView → Text → Result Fed ReadRefused → ReaderView → Type 0
Called old piece result new = (before : Progress) → HasRead old before → Feeds before piece result new

on_of : (old new : Progress) (piece : Text) (result : Result Fed ReadRefused) → Follows old piece result new → On old piece result new
on_of old new piece result f want bytes e = subst (λ (p : Progress). Follows p piece result new) e f

behind_of : (old new : Progress) (piece : Text) (result : Result Fed ReadRefused) → Follows old piece result new → Behind old piece result new
behind_of old new piece result f want bytes e = subst (λ (p : Progress). Follows p piece result new) e f

pub call_more : (piece : Text) (old new : ReaderView) → Called old piece (Ok feds.More) new → (want : Want) (fed : Text) → HasTaken want fed old → FeedsAll want fed piece (Ok tt) new
call_more piece old new called want fed t =
    let f = called t.0 t.1 in
    let on : On t.0 piece (Ok feds.More) f.0 = on_of t.0 f.0 piece (Ok feds.More) f.2 in
    let behind : Behind t.0 piece (Ok feds.More) f.0 = behind_of t.0 f.0 piece (Ok feds.More) f.2 in
    ((f.0, f.1, feeds_more piece t.0 f.0 on behind want fed t.2), λ some. more_refuses_none piece t.0 f.0 on behind want fed t.2)

pub call_used : (piece : Text) (old new : ReaderView) (used : ℕ) → Called old piece (Ok (feds.Whole used)) new → (want : Want) (fed : Text) → HasTaken want fed old → used ≤ length piece
call_used piece old new used called want fed t =
    let f = called t.0 t.1 in
    used_within piece t.0 f.0 used (on_of t.0 f.0 piece (Ok (feds.Whole used)) f.2) (behind_of t.0 f.0 piece (Ok (feds.Whole used)) f.2) want fed t.2

pub call_whole : (piece : Text) (old new : ReaderView) (used : ℕ) → Called old piece (Ok (feds.Whole used)) new → (want : Want) (fed : Text) → HasTaken want fed old → HasRead new (whole want (fed ++ take used piece))
call_whole piece old new used called want fed t =
    let f = called t.0 t.1 in
    subst (HasRead new)
    (whole_then piece t.0 f.0 used (on_of t.0 f.0 piece (Ok (feds.Whole used)) f.2) (behind_of t.0 f.0 piece (Ok (feds.Whole used)) f.2) want fed t.2) f.1

pub call_used_whole : (piece : Text) (old new : ReaderView) (used : ℕ) → Called old piece (Ok (feds.Whole used)) new → (want : Want) (fed : Text) → HasTaken want fed old → piece ≢ [] → IsWhole want (fed ++ take used piece)
call_used_whole piece old new used called want fed t =
    let f = called t.0 t.1 in
    used_whole piece t.0 f.0 used (on_of t.0 f.0 piece (Ok (feds.Whole used)) f.2) (behind_of t.0 f.0 piece (Ok (feds.Whole used)) f.2) want fed t.2

refuses_all : (want : Want) (fed piece : Text) (new : ReaderView) (r : ReadRefused) → Refuses want fed piece r → FeedsAll want fed piece (Err r) new
refuses_all want fed piece new (At r) h = h
refuses_all want fed piece new NoMemory h = tt

pub call_err : (piece : Text) (old new : ReaderView) (r : ReadRefused) → Called old piece (Err r) new → (want : Want) (fed : Text) → HasTaken want fed old → FeedsAll want fed piece (Err r) new
call_err piece old new r called want fed t =
    let f = called t.0 t.1 in
    refuses_all want fed piece new r
    (feeds_err piece t.0 f.0 r (on_of t.0 f.0 piece (Err r) f.2) (behind_of t.0 f.0 piece (Err r) f.2) want fed t.2)

pub call_rest : (piece rest : Text) (old new : ReaderView) (used : ℕ) (f : Fed) → rest ≡ drop used piece → Called old rest (Ok f) new → (want : Want) (fed : Text) → HasRead old (whole want (fed ++ take used piece)) → (piece ≢ [] → IsWhole want (fed ++ take used piece)) → FeedsAll want fed piece (Ok tt) new
call_rest piece rest old new used f e called want fed h w =
    let went = called (whole want (fed ++ take used piece)) h in
    ((went.0, went.1, rest_ok want fed piece rest used went.0 f e went.2), λ some. rest_whole want fed piece rest used went.0 f e went.2 (w some))

pub call_rest_err : (piece rest : Text) (old new : ReaderView) (used : ℕ) (r : ReadRefused) → rest ≡ drop used piece → Called old rest (Err r) new → (want : Want) (fed : Text) → HasRead old (whole want (fed ++ take used piece)) → FeedsAll want fed piece (Err r) new
call_rest_err piece rest old new used r e called want fed h =
    let went = called (whole want (fed ++ take used piece)) h in
    refuses_all want fed piece new r (rest_err want fed piece rest used went.0 r e went.2)

-- ---- the end

pub end_ok : (want : Want) (fed : Text) (reader : ReaderView) (doc : Doc) → HasTaken want fed reader → ((progress : Progress) → HasRead reader progress → Gives progress (Ok doc)) → Finishes want fed (Ok doc)
end_ok want fed reader doc t gives = go t.0 t.2 (gives t.0 t.1)
  where
    go : (p : Progress) → Took want fed p → Gives p (Ok doc) → Finishes want fed (Ok doc)
    go (reading w b) t g = absurd g
    go (whole w b) t g = (subst (λ (x : Want). IsWanted x doc) t.0 g.0, subst (Spells doc) t.1 g.1)
    go (over r) t g = absurd t
    go spent t g = absurd t

pub end_err : (want : Want) (fed : Text) (reader : ReaderView) (refused : ReadRefused) (refusal : InputRefused) → HasTaken want fed reader → ((progress : Progress) → HasRead reader progress → Gives progress (Err refused)) → refusal ≡ input_refusal refused → Finishes want fed (Err refusal)
end_err want fed reader refused refusal t gives e =
    subst (λ (s : InputRefused). Finishes want fed (Err s)) (sym e) (go t.0 refused t.2 (gives t.0 t.1))
  where
    go : (p : Progress) (r : ReadRefused) → Took want fed p → Gives p (Err r) → Finishes want fed (Err (input_refusal r))
    go (reading w b) (At r) t g =
        let here : IsDocumentRefused w b r.at r.reason = subst (λ reason. IsDocumentRefused w b r.at reason) (sym g.0) g.1 in
        subst (λ (l : Text). IsDocumentRefused want l r.at r.reason) t.1 (subst (λ (x : Want). IsDocumentRefused x b r.at r.reason) t.0 here)
    go (reading w b) NoMemory t g = tt
    go (whole w b) r t g = absurd g
    go (over x) r t g = absurd t
    go spent r t g = absurd t

-- ---- the loop

-- a read of nothing into some room sees the end
pub sees_end : (was ended : Bool) (count room : ℕ) → ended ≡ (was || (count == 0 && nat_lt 0 room)) → count ≡ 0 → room ≡ 8192 → IsTrue ended
sees_end was ended count room e none some =
    e ∙ ap (λ (n : ℕ). was || (n == 0 && nat_lt 0 room)) none ∙ ap (λ (n : ℕ). was || (0 == 0 && nat_lt 0 n)) some ∙ or_true was
  where
    or_true : (b : Bool) → (b || true) ≡ true
    or_true true = refl
    or_true false = refl

-- these bytes were taken from the input and fed, they refuse nothing, and the count of faults stands still
pub record HasFed (want : Want) (old now : SourceView) (s : ReaderView) : Type 0 where
  pub fed : Text
  pub taken : Consumes old.left now.left fed
  pub at_rest : now.faults ≡ old.faults
  pub took : HasTaken want fed s
  pub undecided : fed ≢ [] → RefusesNone want fed

pub HasFed-start : (want : Want) (old : SourceView) (s : ReaderView) → HasRead s (reading want []) → HasFed want old old s
HasFed-start want old s e = record {
  fed = [];
  taken = Consumes-nil old.left;
  at_rest = refl;
  took = (reading want [], e, (refl, refl));
  undecided = λ some. absurd (some refl);
}

pub HasFed-more : (want : Want) (old mid now : SourceView) (s : ReaderView) (h : HasFed want old mid s) (piece : Text) → Consumes mid.left now.left piece
    → 0 < length piece → (new : ReaderView) → FeedsAll want h.fed piece (Ok tt) new → now.faults ≡ mid.faults → HasFed want old now new
HasFed-more want old mid now s h piece c some new f calm = record {
  fed = h.fed ++ piece;
  taken = Consumes-trans old.left mid.left now.left h.fed piece h.taken c;
  at_rest = calm ∙ h.at_rest;
  took = f.0;
  undecided = λ any. f.1 (λ none. absurd (omega (arith, some, ap length none)));
}

module _ {I : Type 0} (want : Want) (input : Lent I SourceView) (mid : SourceView) (s : ReaderView) (h : HasFed want (before input) mid s) where
  -- the bytes that were fed are refused, whatever the input has left
  pub stops_early : (piece : Text) → Consumes mid.left (after input).left piece → length piece ≤ 8192 → (after input).faults ≡ mid.faults
      → (r : ReadRefused) (new : ReaderView) → FeedsAll want h.fed piece (Err r) new → (refusal : InputRefused) → refusal ≡ input_refusal r → ReadsAs want input (Err refusal)
  stops_early piece c short calm r new f refusal e = subst (λ (x : InputRefused). ReadsAs want input (Err x)) (sym e) (go r f)
    where
      gone : Consumes (before input).left (after input).left (h.fed ++ piece)
      gone = Consumes-trans (before input).left mid.left (after input).left h.fed piece h.taken c

      by_left : (a b : Option Text) (at : ℕ) (reason : Reason) → Consumes a b (h.fed ++ piece) → ((more : Text) → IsDocumentRefused want ((h.fed ++ piece) ++ more) at reason) → IfSome a (λ bytes. IsDocumentRefused want bytes at reason)
      by_left None b at reason x g = tt
      by_left (Some bytes) None at reason x g = absurd x
      by_left (Some bytes) (Some left) at reason x g = subst (λ (l : Text). IsDocumentRefused want l at reason) (sym x) (g left)

      go : (r : ReadRefused) → FeedsAll want h.fed piece (Err r) new → ReadsAs want input (Err (input_refusal r))
      go NoMemory g = record { taken = (h.fed ++ piece, gone); calm = calm ∙ h.at_rest }
      go (At refused) g = record {
        refused = by_left (before input).left (after input).left refused.at refused.reason gone g;
        taken = record { front = h.fed; last = piece; taken = gone; undecided = h.undecided; within = short };
        calm = calm ∙ h.at_rest;
      }

  -- the end of the input gives a document, or refuses what was fed
  pub ends_all : Consumes mid.left (after input).left [] → IsAtEnd (after input).left → (after input).faults ≡ mid.faults
      → IsTrue (after input).ended → (result : Result Doc InputRefused) → Finishes want h.fed result → ReadsAs want input result
  ends_all c e calm seen result f = go result f
    where
      gone : Consumes (before input).left (after input).left (h.fed ++ [])
      gone = Consumes-trans (before input).left mid.left (after input).left h.fed [] h.taken c

      all : Consumes (before input).left (after input).left h.fed
      all = subst (Consumes (before input).left (after input).left) (append-nil h.fed) gone

      go : (result : Result Doc InputRefused) → Finishes want h.fed result → ReadsAs want input result
      go (Ok doc) g = record { bytes = h.fed; taken = all; at_end = e; end_seen = seen; spells = g.1; wanted = g.0; calm = calm ∙ h.at_rest }
      go (Err (refusals.At at reason)) g = record {
        refused = Consumes-whole (before input).left (after input).left h.fed (λ bytes. IsDocumentRefused want bytes at reason) all e g;
        taken = record { front = h.fed; last = []; taken = gone; undecided = h.undecided; within = omega arith };
        calm = calm ∙ h.at_rest;
      }
      go (Err refusals.Failed) g = absurd g
      go (Err refusals.NoMemory) g = record { taken = (h.fed, all); calm = calm ∙ h.at_rest }

  -- a read failed behind what was fed
  pub fails_behind : Keeps mid.left (after input).left → Rose mid.faults (after input).faults → FailsToRead input
  fails_behind kept rose = record {
    taken = (h.fed, Consumes-kept (before input).left mid.left (after input).left h.fed h.taken kept);
    rose = omega (arith, rose, h.at_rest);
  }

-- how many bytes a reader has taken
abbrev pub count_of : ReaderView → ℕ
count_of reader = reader.machine.at + length reader.kept

-- what was fed grows with a piece, and no document has 2^41 bytes
pub fed_grows : (want : Want) (fed piece : Text) (old new : ReaderView) → 0 < length piece → HasTaken want fed old → HasTaken want (fed ++ piece) new → 2 ^ 42 - count_of new < 2 ^ 42 - count_of old
fed_grows want fed piece old new some t u =
    let before = counted old.stage old.machine old.kept t.0 t.1 in
    let after = counted new.stage new.machine new.kept u.0 u.1 in
    let e : length fed ≡ count_of old = took_count want fed t.0 (count_of old) t.2 before in
    let f : length (fed ++ piece) ≡ count_of new = took_count want (fed ++ piece) u.0 (count_of new) u.2 after in
    omega (arith, e, f, length-append fed piece, some, took_few want (fed ++ piece) u.0 (count_of new) u.2 after)
  where
    took_count : (want : Want) (fed : Text) (p : Progress) (n : ℕ) → Took want fed p → Counts p n → length fed ≡ n
    took_count want fed (reading w b) n t c = ap length (sym t.1) ∙ c.0
    took_count want fed (whole w b) n t c = ap length (sym t.1) ∙ c.0
    took_count want fed (over r) n t c = absurd t
    took_count want fed spent n t c = absurd t

    took_few : (want : Want) (fed : Text) (p : Progress) (n : ℕ) → Took want fed p → Counts p n → n < 2 ^ 42
    took_few want fed (reading w b) n t c = c.1
    took_few want fed (whole w b) n t c = c.1
    took_few want fed (over r) n t c = absurd t
    took_few want fed spent n t c = absurd t
