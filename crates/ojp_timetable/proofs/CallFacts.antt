-- Where a call may stand by its texts, it may stand by its times.
use Rattle.std.proofs.Common.{◌≡◌, ℕ, ◌≤◌, ◌<◌, ◌==◌, Bool, true, false, not, ◌&&◌, cond, List, ◌∷◌, codes, refl, sym, ap, ◌∙◌, subst, true≢false, arith, inl, inr}
use Rattle.std.specs.Prelude.{Option, Some, None, Result, Ok, Err, IsSome, IfOk, IsErrAnd}
use Rattle.std.proofs.lemmas.Bool.{cases_Bool, eqb-true}
use Rattle.ojp_values.specs.Texts.{Text, same}
use Rattle.ojp_zones.specs.Numbers.{number}
use Rattle.ojp_timetable.specs.Said.{call_fields, call_said, call_of, called, entry_fields, entry_said, header_said, is_dash, kept_said, may_call, offset, region_said, said, valued, word_of, zone_said}
use Rattle.ojp_timetable.specs.Fields.{body, fields_of}
use Rattle.ojp_timetable.specs.Checks.{checked, checks, first_failing, is_long, read_line, verdict}
use Rattle.ojp_timetable.specs.Lines.{Above}
use Rattle.ojp_timetable.specs.Tables.{Call, Place}
use Rattle.ojp_timetable.specs.Kept.{HasNumber, IsKeptByNumber, IsLookedUp, call_kept}
use Rattle.ojp_timetable.specs.WellContents.{GoesOnFrom}
use Rattle.ojp_timetable.specs.declared.kept.KeptCall.{KeptCall}
use Rattle.ojp_timetable.specs.declared.kept.SaidCall.{SaidCall}
use Rattle.ojp_timetable.specs.declared.file.lines.Line.{Line as AnyLine}
use Rattle.ojp_timetable.specs.declared.file.lines.Line.TheVariants as Line
use Rattle.ojp_timetable.specs.declared.file.lines.TableReason.{TableReason}
use Rattle.ojp_timetable.specs.declared.file.words.Word.{Word}
use Rattle.ojp_timetable.specs.declared.file.words.Word.TheVariants as words
use Rattle.ojp_timetable.specs.declared.file.lines.Open.{Open}
use Rattle.ojp_timetable.specs.declared.file.lines.Open.TheVariants.{Nothing, Begun, Since}
use Rattle.ojp_timetable.proofs.StopFacts.{number-stop}

no_time : (b : Bool) (n : ℕ) → b ≡ true → cond b None (Some n) ≡ None
no_time true n e = refl
no_time false n e = absurd (true≢false (sym e))

some_time : (b : Bool) (n : ℕ) → not b ≡ true → IsSome (cond b None (Some n))
some_time true n e = absurd (true≢false (sym e))
some_time false n e = refl

both_true : (a b : Bool) → a && b ≡ true → (a ≡ true) × (b ≡ true)
both_true true b h = (refl, h)
both_true false b h = absurd (true≢false (sym h))

goes_on : (left : Open) (stop arrives departs : Text) → may_call left arrives departs ≡ true
    → GoesOnFrom left (record { stop = stop; arrives = offset arrives; departs = offset departs })
unfolding offset
goes_on Nothing stop arrives departs h = absurd (true≢false (sym h))
goes_on Begun stop arrives departs h =
    let both = both_true (is_dash arrives) (not (is_dash departs)) h in
    (no_time (is_dash arrives) (number arrives) both.0, some_time (is_dash departs) (number departs) both.1)
goes_on (Since d) stop arrives departs h = some_time (is_dash arrives) (number arrives) h

-- a call that is read of its fields goes on where it may stand
pub call_goes_on : (left : Open) (stop arrives departs : Text) (read : Result SaidCall TableReason) → called read ≡ call_said stop arrives departs
    → may_call left arrives departs ≡ true → IfOk read (λ (said : SaidCall). GoesOnFrom left (call_of said))
call_goes_on left stop arrives departs (Err reason) e h = tt
call_goes_on left stop arrives departs (Ok said) e h =
    subst (GoesOnFrom left) (same_call (call_of said) _ _ e) (goes_on left stop arrives departs h)
  where
    same_call : (x y : Call) (b : Bool) → Ok (Line.Call x) ≡ valued b (Line.Call y) → y ≡ x
    same_call x y true e = cc
    same_call x y false e = absurd (cc e)

-- ---- a line that begins with the word of a call

call_word : (word : Text) → same word (codes "call") ≡ true → word_of word ≡ Some words.Call
unfolding word_of
call_word word e =
    ap (λ (b : Bool). cond b (Some words.Call)
    (cond (same word (codes "journey")) (Some words.Journey)
    (cond (same word (codes "stop")) (Some words.Stop)
    (cond (same word (codes "exchange")) (Some words.Exchange)
    (cond (same word (codes "neighbour")) (Some words.Neighbour)
    (cond (same word (codes "service")) (Some words.Service) None)))))) e

-- what such a line says is what its other fields say of a call
pub call_line_says : (region : Text) (left : Open) (fields : List Text) → entry_said region left (codes "call" ∷ fields) ≡ call_fields left fields
unfolding entry_fields same
call_line_says region left fields = ap (λ (w : Option Word). entry_fields region left w fields) (call_word (codes "call") refl)

-- and so it does below the third line
pub below_third : (above : ℕ) (region : Text) (left : Open) (line : Text) → 3 ≤ above → said above region left line ≡ entry_said region left (fields_of line)
unfolding said
below_third above region left line h =
    ap (λ (b : Bool). cond b (header_said line) (cond (above == 1) (region_said (fields_of line)) (cond (above == 2) (zone_said (fields_of line)) (entry_said region left (fields_of line))))) (other 0 (omega (arith, h)))
    ∙ (ap (λ (b : Bool). cond b (region_said (fields_of line)) (cond (above == 2) (zone_said (fields_of line)) (entry_said region left (fields_of line)))) (other 1 (omega (arith, h)))
    ∙ ap (λ (b : Bool). cond b (zone_said (fields_of line)) (entry_said region left (fields_of line))) (other 2 (omega (arith, h))))
  where
    other : (n : ℕ) → n < above → (above == n) ≡ false
    other n l = elim (cases_Bool (above == n)) [ inl e ↦ absurd (omega (arith, l, eqb-true above n e)) | inr e ↦ e ]

-- what a call line says by its fields, or fails, is what is read of it
pub call_fails : (above : Above) (text : Text) (reason : TableReason) → 3 ≤ above.lines → ((region : Text) → Err reason ≡ entry_said region above.left (fields_of (body text)))
    → Err reason ≡ read_line above text
unfolding read_line
call_fails above text reason low says =
    ap (checked above text) (says above.contents.region ∙ sym (below_third above.lines above.contents.region above.left (body text) low))

pub line_checked : (above : Above) (text : Text) (line : AnyLine) (long : Bool) (failing : Option TableReason) → 3 ≤ above.lines
    → ((region : Text) → Ok line ≡ entry_said region above.left (fields_of (body text))) → long ≡ is_long above text
    → failing ≡ first_failing (checks above.contents above.left long line) → verdict line failing ≡ read_line above text
unfolding read_line
line_checked above text line long failing low says e f =
    ap (verdict line) (f ∙ ap (λ (b : Bool). first_failing (checks above.contents above.left b line)) e)
    ∙ ap (checked above text) (says above.contents.region ∙ sym (below_third above.lines above.contents.region above.left (body text) low))

-- a failed reading says its reason
pub failed : (read : Result SaidCall TableReason) (reason : TableReason) → IsErrAnd read (λ e. e ≡ reason) → called read ≡ Err reason
failed (Err e) reason h = ap Err h
failed (Ok said) reason h = absurd h

pub failed_kept : (places : List Place) (read : Result KeptCall TableReason) (reason : TableReason) → IsErrAnd read (λ e. e ≡ reason) → kept_said places read ≡ Err reason
failed_kept places (Err e) reason h = ap Err h
failed_kept places (Ok kept) reason h = absurd h

-- ---- what is kept of a call

-- a call at the stop of a number is kept by it
pub kept_number : (places : List Place) (stop : Text) (kept : KeptCall) → HasNumber places stop kept.place → IsKeptByNumber places kept
kept_number places stop kept h = subst (λ (t : Text). HasNumber places t kept.place) (sym (number-stop places stop kept.place h)) h

-- what is kept of a call with the number of its stop is the call
pub kept_is : (places : List Place) (call : Call) (kept : KeptCall) → HasNumber places call.stop kept.place → kept.arrives ≡ call.arrives → kept.departs ≡ call.departs → call_kept places kept ≡ call
kept_is places call kept h a d = λ i. record { stop = number-stop places call.stop kept.place h i; arrives = a i; departs = d i }

-- and so it is where the stop was looked up
pub looked_number : (places : List Place) (said : SaidCall) (kept : KeptCall) → IsLookedUp places said → said.place ≡ Some kept.place → HasNumber places said.stop.now kept.place
looked_number places said kept looked at = sym looked ∙ at
