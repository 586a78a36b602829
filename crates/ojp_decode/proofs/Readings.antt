-- A run of the machine behind the bytes that are kept.
use Rattle.std.proofs.Common.{◌≡◌, ◌≢◌, refl, ℕ, inl, inr, ◌+◌, ◌-◌, ◌<◌, ◌≤◌, Bool, true, false, List, [], ◌∷◌, ◌++◌, length, take, drop, Option, Some, None, Err, Ok, min, sym, ◌∙◌, ap, subst, arith, append_assoc, length-append, take-append-drop, length-take-le, length-drop}
use Rattle.std.specs.Prelude.{MatchBool, MatchOption}
use Rattle.std.proofs.lemmas.List.{append-nil, drop-append-le, take-append-le, drop-drop, take_all}
use Rattle.std.proofs.Math.Seq.{take-append_seam, drop-append_seam}
use Rattle.std.proofs.lemmas.Bool.{cases_lt}
use Rattle.ojp_grammar.specs.declared.machine.Machine.{Machine}
use Rattle.ojp_grammar.specs.declared.refusals.Reason.{Reason}
use Rattle.ojp_grammar.specs.declared.refusals.Reason.TheVariants.{Truncated}
use Rattle.ojp_grammar.specs.declared.refusals.Want.{Want}
use Rattle.ojp_grammar.specs.Folding.{Waiting}
use Rattle.ojp_grammar.specs.Items.{spell}
use Rattle.ojp_grammar.specs.Machine.{StopsFor, IsCutAt, StaysCut}
use Rattle.ojp_grammar.specs.Running.{IsReading, Stands}
use Rattle.ojp_grammar.specs.Steps.{stack_of}
use Rattle.ojp_grammar.specs.Syntax.{Syntax}
use Rattle.ojp_grammar.specs.declared.machine.Cut.{Cut}
use Rattle.ojp_grammar.specs.Whole.{IsWhole}
use Rattle.ojp_grammar.proofs.Cutting.{cut_stops}
use Rattle.ojp_grammar.proofs.Ended.{ended}
use Rattle.ojp_decode.specs.Feeding.{BeginsNone}
use Rattle.ojp_decode.specs.declared.fed.Fed.TheVariants as feds
use Rattle.ojp_decode.specs.declared.fed.ReadRefused.{ReadRefused}
use Rattle.ojp_decode.specs.declared.fed.ReadRefused.TheVariants.{At as Refusal}
use Rattle.ojp_decode.specs.Standing.{IsWaiting, ReadsOn}
use Rattle.ojp_decode.proofs.Following.{reading_more, passes_cut, cut_short}
use Rattle.ojp_decode.proofs.Standings.{decides, begins_none, front_alone, is_whole}

-- what a run leaves behind, and why it stopped
pub record HasRun (want : Want) (m : Machine) (bytes left : List ℕ) (stop : Option Reason) : Type 0 where
  pub want_is : m.want ≡ want
  pub stands : Stands m bytes left
  pub stop_is : MatchOption stop (m.stack.items ≡ []) (StopsFor (stack_of m.stack.items) left)
  pub cut_is : IsCutAt m.cut (stack_of m.stack.items) left

stops_for : (want : Want) (m : Machine) (bytes left : List ℕ) (stop : Option Reason) (reason : Reason) → HasRun want m bytes left stop → stop ≡ Some reason → StopsFor (stack_of m.stack.items) left reason
stops_for want m bytes left stop reason run is = rw is at run.stop_is

ends_none : (want : Want) (m : Machine) (bytes left : List ℕ) (stop : Option Reason) → HasRun want m bytes left stop → stop ≡ None → m.stack.items ≡ []
ends_none want m bytes left stop run is = rw is at run.stop_is

-- a document that goes on: what is left is short, and is kept
pub ran_short : (want : Want) (m : Machine) (bytes left : List ℕ) (stop : Option Reason) (reason : Reason) → HasRun want m bytes left stop → stop ≡ Some reason → reason ≡ Truncated → length left ≤ 512
ran_short want m bytes left stop reason run is cut =
    cut_short m.want m.at (stack_of m.stack.items) m.draft bytes left run.stands
    (subst (StopsFor (stack_of m.stack.items) left) cut (stops_for want m bytes left stop reason run is))

pub ran_waits : (want : Want) (m : Machine) (bytes left kept piece : List ℕ) (stop : Option Reason) (reason : Reason) → HasRun want m bytes left stop → stop ≡ Some reason → reason ≡ Truncated → left ≡ kept → ReadsOn want bytes piece (Ok feds.More) m kept
ran_waits want m bytes left kept piece stop reason run is cut e =
    let stops = subst (StopsFor (stack_of m.stack.items) left) cut (stops_for want m bytes left stop reason run is) in
    let P : List ℕ → Type 0 = IsWaiting m bytes in
    let waiting : IsWaiting m bytes left = record { stands = run.stands; stops = stops; cut = run.cut_is } in
    (run.want_is, subst P e waiting)

-- a refusal is decided, whatever more of the piece there is
pub ran_refused : (want : Want) (m : Machine) (bytes left more piece kept : List ℕ) (stop : Option Reason) (reason : Reason) (refused : ReadRefused) → HasRun want m bytes left stop → stop ≡ Some reason → reason ≢ Truncated → refused ≡ Refusal (record { at = m.at; reason = reason }) → ReadsOn want (bytes ++ more) piece (Err refused) m kept
ran_refused want m bytes left more piece kept stop reason refused run is other told =
    let P : ReadRefused → Type 0 = λ r. ReadsOn want (bytes ++ more) piece (Err r) m kept in
    subst P (sym told) (decides want m bytes left more reason run.want_is run.stands (stops_for want m bytes left stop reason run is) other)

pub ran_refused_here : (want : Want) (m : Machine) (bytes left piece kept : List ℕ) (stop : Option Reason) (reason : Reason) (refused : ReadRefused) → HasRun want m bytes left stop → stop ≡ Some reason → reason ≢ Truncated → refused ≡ Refusal (record { at = m.at; reason = reason }) → ReadsOn want bytes piece (Err refused) m kept
ran_refused_here want m bytes left piece kept stop reason refused run is other told =
    let P : List ℕ → Type 0 = λ b. ReadsOn want b piece (Err refused) m kept in
    subst P (append-nil bytes) (ran_refused want m bytes left [] piece kept stop reason refused run is other told)

-- a document ends in the piece
pub ran_ended : (want : Want) (m : Machine) (bytes piece kept : List ℕ) (took : ℕ) (stop : Option Reason) → HasRun want m bytes (drop took piece) stop → stop ≡ None → took ≤ length piece → kept ≡ [] → ReadsOn want bytes piece (Ok (feds.Whole took)) m kept
ran_ended want m bytes piece kept took stop run is within none =
    (run.want_is, within, run.stands, ends_none want m bytes (drop took piece) stop run is, none)

-- ---- behind the bytes that are kept

-- the machine before the bytes that are kept and the front of the piece
pub joined_stands : (old : Machine) (bytes kept front joined : List ℕ) → IsWaiting old bytes kept → joined ≡ kept ++ front → Stands old (bytes ++ front) joined
joined_stands old bytes kept front joined w e =
    subst (Stands old (bytes ++ front)) (sym e) (reading_more old.want old.at (stack_of old.stack.items) old.draft bytes kept front w.stands)

empty_of : (xs : List ℕ) → length xs ≡ 0 → xs ≡ []
empty_of [] e = refl
empty_of (x ∷ xs) e = absurd (omega arith)

-- where the kept bytes are empty the machine stands before the piece
pub empty_stands : (old : Machine) (bytes kept piece : List ℕ) → IsWaiting old bytes kept → length kept ≡ 0 → Stands old (bytes ++ piece) piece
empty_stands old bytes kept piece w none = joined_stands old bytes kept piece piece w (sym (ap (λ l. l ++ piece) (empty_of kept none)))

-- what the run leaves of the kept bytes and the piece's front, and then the rest of the piece, is what the piece has behind
behind_piece : (kept piece : List ℕ) (room took : ℕ) → length kept ≤ took → took ≤ length (kept ++ take room piece) → drop took (kept ++ take room piece) ++ drop room piece ≡ drop (took - length kept) piece
behind_piece kept piece room took passed within =
    let n : ℕ = took - length kept in
    let place : took ≡ length kept + n = omega (arith, passed) in
    let all : (kept ++ take room piece) ++ drop room piece ≡ kept ++ piece =
    append_assoc kept (take room piece) (drop room piece) ∙ ap (λ p. kept ++ p) (take-append-drop room piece) in
    sym (drop-append-le took (kept ++ take room piece) (drop room piece) within)
    ∙ (ap (drop took) all
    ∙ (ap (λ m. drop m (kept ++ piece)) place
    ∙ (sym (drop-drop n (length kept) (kept ++ piece)) ∙ ap (drop n) (drop-append_seam kept piece))))

-- the machine behind the kept bytes, in the piece
pub behind_stands : (m : Machine) (bytes kept piece joined : List ℕ) (room took before : ℕ) → Stands m (bytes ++ take room piece) (drop took joined) → joined ≡ kept ++ take room piece → before ≡ length kept → before ≤ took → took ≤ length joined → Stands m (bytes ++ piece) (drop (took - before) piece)
behind_stands m bytes kept piece joined room took before r e size passed within =
    let more = reading_more m.want m.at (stack_of m.stack.items) m.draft (bytes ++ take room piece) (drop took joined) (drop room piece) r in
    let all : (bytes ++ take room piece) ++ drop room piece ≡ bytes ++ piece =
    append_assoc bytes (take room piece) (drop room piece) ∙ ap (λ p. bytes ++ p) (take-append-drop room piece) in
    let left : drop took joined ++ drop room piece ≡ drop (took - before) piece =
    ap (λ l. drop took l ++ drop room piece) e
    ∙ (behind_piece kept piece room took (omega (arith, size, passed)) (omega (arith, within, ap length e)) ∙ ap (λ n. drop (took - n) piece) (sym size)) in
    let P : List ℕ → Type 0 = λ b. Stands m b (drop took joined ++ drop room piece) in
    subst (Stands m (bytes ++ piece)) left (subst P all more)

-- no document ends before the bytes in which none was whole
pub ends_behind : (want : Want) (at : ℕ) (waiting : Waiting) (bytes more left : List ℕ) → BeginsNone want bytes → IsReading want at [] waiting (bytes ++ more) left → at < length bytes → ⊥
ends_behind want at waiting bytes more left none r before =
    let w : IsWhole want (spell r.front) = is_whole want at waiting (spell r.front) (front_alone want at waiting (bytes ++ more) left (spell r.front) r r.reached.parts) in
    let front : take at bytes ≡ spell r.front =
    sym (take-append-le at bytes more (omega (arith, before)))
    ∙ (ap (take at) r.reached.parts
    ∙ (ap (λ n. take n (spell r.front ++ left)) r.place ∙ take-append_seam (spell r.front) left)) in
    none w.0 (drop at bytes) w.1 (sym (take-append-drop at bytes) ∙ ap (λ b. b ++ drop at bytes) (front ∙ w.2))

-- a run that ends a document passes what was kept
pub ends_passed : (old m : Machine) (bytes kept more left : List ℕ) (took : ℕ) (stop : Option Reason) → IsWaiting old bytes kept → HasRun old.want m (bytes ++ more) left stop → stop ≡ None → m.at ≡ old.at + took → took < length kept → ⊥
ends_passed old m bytes kept more left took stop w run is place short =
    let r = ended old.want m (bytes ++ more) left run.want_is run.stands (ends_none old.want m (bytes ++ more) left stop run is) in
    let size : length bytes ≡ old.at + length kept =
    ap length w.stands.reached.parts ∙ (length-append (spell w.stands.front) kept ∙ ap (λ n. n + length kept) (sym w.stands.place)) in
    ends_behind old.want m.at m.draft bytes more left (begins_none old bytes kept w) r (omega (arith, place, size, short))

-- a run that stops within what was kept passed nothing, and the whole piece is kept
pub stays_cut : (old m : Machine) (bytes kept piece joined : List ℕ) (room took before : ℕ) (stop : Option Reason) (reason : Reason) → IsWaiting old bytes kept → joined ≡ kept ++ take room piece → room ≡ min (length piece) (513 - before) → before ≡ length kept → HasRun old.want m (bytes ++ take room piece) (drop took joined) stop → stop ≡ Some reason → reason ≡ Truncated → m.at ≡ old.at + took → took < before → ReadsOn old.want (bytes ++ piece) piece (Ok feds.More) m joined
stays_cut old m bytes kept piece joined room took before stop reason w e fits size run is cut place short =
    let front : List ℕ = take room piece in
    let Q : Want → Type 0 = λ x. IsReading x m.at (stack_of m.stack.items) m.draft (bytes ++ front) (drop took joined) in
    let R : ℕ → Type 0 = λ n. IsReading old.want n (stack_of m.stack.items) m.draft (bytes ++ front) (drop took joined) in
    let nothing : took ≡ 0 =
    passes_cut old.want old.at took (stack_of old.stack.items) (stack_of m.stack.items) old.draft m.draft (bytes ++ front) kept front (drop took joined)
    (reading_more old.want old.at (stack_of old.stack.items) old.draft bytes kept front w.stands) w.stops (subst R place (subst Q run.want_is run.stands)) (omega (arith, short, size)) in
    let here : drop took joined ≡ joined = ap (λ n. drop n joined) nothing in
    let few : length (drop took joined) ≤ 512 = ran_short old.want m (bytes ++ front) (drop took joined) stop reason run is cut in
    let count : length front ≡ room = length-take-le room piece (omega (arith, fits)) in
    let total : length joined ≡ length kept + room = ap length e ∙ (length-append kept front ∙ ap (λ n. length kept + n) count) in
    let same : length (drop took joined) ≡ length joined = ap length here in
    let all : front ≡ piece = take_all room piece (omega (arith, fits, few, total, same, size)) in
    let P : List ℕ → Type 0 = λ f. ReadsOn old.want (bytes ++ f) piece (Ok feds.More) m joined in
    subst P all (ran_waits old.want m (bytes ++ front) (drop took joined) joined piece stop reason run is cut here)

-- of a piece that fits behind what is kept no more is passed than there is
pub all_passed : (kept piece joined : List ℕ) (room took before : ℕ) → joined ≡ kept ++ take room piece → before ≡ length kept → took ≤ length joined → took - before ≤ length piece
all_passed kept piece joined room took before e size within =
    let total : length joined ≡ length kept + length (take room piece) = ap length e ∙ length-append kept (take room piece) in
    let fewer : length piece ≡ length (take room piece) + length (drop room piece) =
    ap length (sym (take-append-drop room piece)) ∙ length-append (take room piece) (drop room piece) in
    omega (arith, total, fewer, size, within)

-- ---- a piece from some place on

-- what a slice to the end holds
pub slice_all : (piece : List ℕ) (passed : ℕ) → take (length piece - passed) (drop passed piece) ≡ drop passed piece
slice_all piece passed = take_all (length piece - passed) (drop passed piece) (omega (arith, length-drop passed piece))

-- what a slice of the piece has left behind so many bytes of it
rest_within : (piece : List ℕ) (passed took : ℕ) → drop took (take (length piece - passed) (drop passed piece)) ≡ drop (passed + took) piece
rest_within piece passed took =
    ap (drop took) (slice_all piece passed) ∙ drop-drop took passed piece

pub slice_stands : (m : Machine) (bytes piece : List ℕ) (passed : ℕ) → Stands m bytes (drop passed piece) → Stands m bytes (take (length piece - passed) (drop passed piece))
slice_stands m bytes piece passed r =
    subst (Stands m bytes) (sym (slice_all piece passed)) r

pub slice_run : (want : Want) (m : Machine) (bytes piece : List ℕ) (passed took : ℕ) (stop : Option Reason) → m.want ≡ want → Stands m bytes (drop took (take (length piece - passed) (drop passed piece))) → MatchOption stop (m.stack.items ≡ []) (StopsFor (stack_of m.stack.items) (drop took (take (length piece - passed) (drop passed piece)))) → IsCutAt m.cut (stack_of m.stack.items) (drop took (take (length piece - passed) (drop passed piece))) → HasRun want m bytes (drop (passed + took) piece) stop
slice_run want m bytes piece passed took stop same r stops cut =
    let P : List ℕ → Type 0 = λ l. MatchOption stop (m.stack.items ≡ []) (StopsFor (stack_of m.stack.items) l) in
    record {
      want_is = same;
      stands = subst (Stands m bytes) (rest_within piece passed took) r;
      stop_is = subst P (rest_within piece passed took) stops;
      cut_is = subst (IsCutAt m.cut (stack_of m.stack.items)) (rest_within piece passed took) cut;
    }

-- ---- the ends of a run behind what is kept

pub none_of : (stop : Option Reason) → ((reason : Reason) → stop ≡ Some reason → ⊥) → stop ≡ None
none_of None not = refl
none_of (Some reason) not = absurd (not reason refl)

pub passed_all : (old m : Machine) (bytes kept more left : List ℕ) (took before : ℕ) (stop : Option Reason) → IsWaiting old bytes kept → HasRun old.want m (bytes ++ more) left stop → stop ≡ None → m.at ≡ old.at + took → before ≡ length kept → before ≤ took
passed_all old m bytes kept more left took before stop w run is place size =
    elim (cases_lt took before) [
      | inr passed ↦ passed
      | inl short ↦ absurd (ends_passed old m bytes kept more left took stop w run is place (omega (arith, short, size)))
    ]

pub run_behind : (want : Want) (m : Machine) (bytes kept piece joined new : List ℕ) (room took before : ℕ) (stop : Option Reason) → HasRun want m (bytes ++ take room piece) (drop took joined) stop → stop ≡ None → joined ≡ kept ++ take room piece → before ≡ length kept → before ≤ took → took ≤ length joined → new ≡ [] → ReadsOn want (bytes ++ piece) piece (Ok (feds.Whole (took - before))) m new
run_behind want m bytes kept piece joined new room took before stop run is e size passed within none = (
  run.want_is,
  all_passed kept piece joined room took before e size within,
  behind_stands m bytes kept piece joined room took before run.stands e size passed within,
  ends_none want m (bytes ++ take room piece) (drop took joined) stop run is,
  none,
)

pub run_decides : (want : Want) (m : Machine) (bytes piece left kept : List ℕ) (room : ℕ) (stop : Option Reason) (reason : Reason) (refused : ReadRefused) → HasRun want m (bytes ++ take room piece) left stop → stop ≡ Some reason → reason ≢ Truncated → refused ≡ Refusal (record { at = m.at; reason = reason }) → ReadsOn want (bytes ++ piece) piece (Err refused) m kept
run_decides want m bytes piece left kept room stop reason refused run is other told =
    let all : (bytes ++ take room piece) ++ drop room piece ≡ bytes ++ piece =
    append_assoc bytes (take room piece) (drop room piece) ∙ ap (λ p. bytes ++ p) (take-append-drop room piece) in
    let P : List ℕ → Type 0 = λ b. ReadsOn want b piece (Err refused) m kept in
    subst P all (ran_refused want m (bytes ++ take room piece) left (drop room piece) piece kept stop reason refused run is other told)

-- where the whole piece was run over, what the run leaves of it waits
pub waits_behind : (want : Want) (m : Machine) (bytes kept piece joined new : List ℕ) (room took before : ℕ) (stop : Option Reason) (reason : Reason) → HasRun want m (bytes ++ take room piece) (drop took joined) stop → stop ≡ Some reason → reason ≡ Truncated → joined ≡ kept ++ take room piece → before ≡ length kept → before ≤ took → took ≤ length joined → length piece ≤ room → new ≡ drop (took - before) piece → ReadsOn want (bytes ++ piece) piece (Ok feds.More) m new
waits_behind want m bytes kept piece joined new room took before stop reason run is cut e size passed within fits left =
    let none : drop room piece ≡ [] = empty_of (drop room piece) (omega (arith, length-drop room piece, fits)) in
    let rest : drop took joined ≡ drop (took - before) piece =
    ap (drop took) e
    ∙ (sym (append-nil (drop took (kept ++ take room piece)))
    ∙ (ap (λ l. drop took (kept ++ take room piece) ++ l) (sym none)
    ∙ (behind_piece kept piece room took (omega (arith, size, passed)) (omega (arith, within, ap length e)) ∙ ap (λ n. drop (took - n) piece) (sym size)))) in
    let P : List ℕ → Type 0 = λ b. ReadsOn want b piece (Ok feds.More) m new in
    subst P (ap (λ p. bytes ++ p) (take_all room piece fits))
    (ran_waits want m (bytes ++ take room piece) (drop took joined) new piece stop reason run is cut (rest ∙ sym left))

-- ---- an item that stays cut

stays_at : (cut : Cut) (k : List Syntax) (kept piece : List ℕ) → IsCutAt (Some cut) k kept → StaysCut cut (length kept) piece → IsCutAt (Some cut) k (kept ++ piece)
stays_at cut [] kept piece h stays = h
stays_at cut (s ∷ k) kept piece h stays = stays s kept refl h

-- the machine waits with the piece kept too
waits_on : (m : Machine) (cut : Cut) (bytes kept piece new : List ℕ) → m.cut ≡ Some cut → StaysCut cut (length kept) piece → new ≡ kept ++ piece → IsWaiting m bytes kept → IsWaiting m (bytes ++ piece) new
waits_on m cut bytes kept piece new is stays e w =
    let P : Option Cut → Type 0 = λ o. IsCutAt o (stack_of m.stack.items) kept in
    let Q : Option Cut → Type 0 = λ o. IsCutAt o (stack_of m.stack.items) (kept ++ piece) in
    let here : IsCutAt (Some cut) (stack_of m.stack.items) (kept ++ piece) = stays_at cut (stack_of m.stack.items) kept piece (subst P is w.cut) stays in
    let R : List ℕ → Type 0 = IsWaiting m (bytes ++ piece) in
    let all : IsWaiting m (bytes ++ piece) (kept ++ piece) = record {
      stands = reading_more m.want m.at (stack_of m.stack.items) m.draft bytes kept piece w.stands;
      stops = cut_stops cut (stack_of m.stack.items) (kept ++ piece) here;
      cut = subst Q (sym is) here;
    } in
    subst R (sym e) all

-- a piece that was kept leaves the machine waiting, and another changes nothing
pub kept_waits : (m : Machine) (cut : Cut) (kept piece new : List ℕ) (is_kept : Bool) → m.cut ≡ Some cut → MatchBool is_kept (StaysCut cut (length kept) piece × (new ≡ kept ++ piece)) (new ≡ kept) → MatchBool is_kept ((bytes : List ℕ) → IsWaiting m bytes kept → IsWaiting m (bytes ++ piece) new) (new ≡ kept)
kept_waits m cut kept piece new true is h = λ bytes w. waits_on m cut bytes kept piece new is h.0 h.1 w
kept_waits m cut kept piece new false is h = h

-- nothing was fed
pub first_waits : (m : Machine) (kept : List ℕ) → kept ≡ [] → Stands m [] [] → StopsFor (stack_of m.stack.items) [] Truncated → IsCutAt m.cut (stack_of m.stack.items) [] → IsWaiting m [] kept
first_waits m kept none stands stops cut =
    let P : List ℕ → Type 0 = IsWaiting m [] in
    let waiting : IsWaiting m [] [] = record { stands = stands; stops = stops; cut = cut } in
    subst P (sym none) waiting
