-- Where the machine stops: more may come, a document ends, or a refusal is decided.
use Rattle.std.proofs.Common.{◌≡◌, ◌≢◌, refl, ℕ, ◌≤◌, List, [], ◌∷◌, ◌++◌, length, take, drop, Option, Some, None, Result, Ok, Err, sym, ◌∙◌, ap, subst, arith, append_assoc, take-append-drop}
use Rattle.std.specs.Prelude.{Bool, true, false, ◌==◌}
use Rattle.std.proofs.lemmas.List.{append-nil, append_cancel_right}
use Rattle.ojp_values.specs.declared.documents.Doc.{Doc}
use Rattle.ojp_grammar.specs.declared.machine.Machine.{Machine}
use Rattle.ojp_grammar.specs.declared.refusals.Reason.{Reason}
use Rattle.ojp_grammar.specs.declared.refusals.Reason.TheVariants as reasons
use Rattle.ojp_grammar.specs.declared.refusals.Want.{Want}
use Rattle.ojp_grammar.specs.declared.shapes.Shape.{Shape}
use Rattle.ojp_grammar.specs.Documents.{items}
use Rattle.ojp_grammar.specs.Folding.{Waiting}
use Rattle.ojp_grammar.specs.Items.{Item, spell}
use Rattle.ojp_grammar.specs.Machine.{StopsFor}
use Rattle.ojp_grammar.specs.Places.{IsDocumentRefused}
use Rattle.ojp_grammar.specs.Reached.{At, start_of}
use Rattle.ojp_grammar.specs.Running.{IsReading, Stands, IsRead}
use Rattle.ojp_grammar.specs.Steps.{Accepts, stack_of}
use Rattle.ojp_grammar.specs.Syntax.{Syntax}
use Rattle.ojp_grammar.specs.Whole.{IsWhole}
use Rattle.ojp_grammar.proofs.Progress.{at_start}
use Rattle.ojp_grammar.proofs.Ended.{stop_refused, ended}
use Rattle.ojp_grammar.proofs.Refusal.{no_front, at_trailing}
use Rattle.ojp_grammar.proofs.Unique.{at_accepted}
use Rattle.ojp_grammar.proofs.Wanted.{start_means}
use Rattle.ojp_decode.specs.Feeding.{BeginsNone, StaysRefused, Awaits, Decides, FeedsOn, trailing}
use Rattle.ojp_decode.specs.declared.fed.Fed.{Fed}
use Rattle.ojp_decode.specs.declared.fed.Fed.TheVariants as feds
use Rattle.ojp_decode.specs.declared.fed.Stage.{Stage}
use Rattle.ojp_decode.specs.declared.fed.Stage.TheVariants.{Reading, Whole, Over}
use Rattle.ojp_decode.specs.declared.fed.ReadRefused.{ReadRefused}
use Rattle.ojp_decode.specs.declared.fed.ReadRefused.TheVariants.{At as Refusal, NoMemory}
use Rattle.ojp_decode.specs.Progress.{Progress, reading, whole, over, spent}
use Rattle.ojp_decode.specs.Standing.{stage_of, IsWaiting, IsEnded, IsSound, HasReadAt, KeepsFor, Gives, Feeds, ReadsOn}
use Rattle.ojp_decode.proofs.Following.{nothing_left, sticks_more, reading_more, cut_short}

-- ---- where no item comes

none_begins : (want : Want) (at : ℕ) (k : List Syntax) (waiting : Waiting) (bytes tail : List ℕ) (reason : Reason) → IsReading want at k waiting bytes tail → StopsFor k tail reason → BeginsNone want bytes
none_begins want at [] waiting bytes tail reason r stops = absurd stops
none_begins want at (s ∷ k) waiting bytes tail reason r stops =
    no_front want (start_of want) bytes r.front s k tail reason (start_means want) r.reached stops

stops_more : (k : List Syntax) (tail more : List ℕ) (reason : Reason) → StopsFor k tail reason → reason ≢ reasons.Truncated → StopsFor k (tail ++ more) reason
stops_more [] tail more reason stops other = absurd stops
stops_more (s ∷ k) tail more reason stops other = sticks_more s tail more reason stops other

decided : (want : Want) (at : ℕ) (k : List Syntax) (waiting : Waiting) (bytes tail : List ℕ) (reason : Reason) → IsReading want at k waiting bytes tail → StopsFor k tail reason → reason ≢ reasons.Truncated → Decides want bytes (record { at = at; reason = reason })
decided want at k waiting bytes tail reason r stops other = record {
  none = none_begins want at k waiting bytes tail reason r stops;
  reason = other;
  stays = λ more.
      stop_refused want at k waiting (bytes ++ more) (tail ++ more) reason (reading_more want at k waiting bytes tail more r) (stops_more k tail more reason stops other);
}

-- the machine's stop decides a refusal, also with more bytes behind
pub decides : (want : Want) (m : Machine) (bytes tail more : List ℕ) (reason : Reason) → m.want ≡ want → Stands m bytes tail → StopsFor (stack_of m.stack.items) tail reason → reason ≢ reasons.Truncated → Decides want (bytes ++ more) (record { at = m.at; reason = reason })
decides want m bytes tail more reason same r stops other =
    let P : Want → Type 0 = λ w. Decides w (bytes ++ more) (record { at = m.at; reason = reason }) in
    subst P same
    (decided m.want m.at (stack_of m.stack.items) m.draft (bytes ++ more) (tail ++ more) reason
    (reading_more m.want m.at (stack_of m.stack.items) m.draft bytes tail more r) (stops_more (stack_of m.stack.items) tail more reason stops other) other)

-- a machine that waits awaits more
pub waits : (m : Machine) (bytes kept : List ℕ) → IsWaiting m bytes kept → IsDocumentRefused m.want bytes m.at reasons.Truncated
waits m bytes kept w = stop_refused m.want m.at (stack_of m.stack.items) m.draft bytes kept reasons.Truncated w.stands w.stops

pub begins_none : (m : Machine) (bytes kept : List ℕ) → IsWaiting m bytes kept → BeginsNone m.want bytes
begins_none m bytes kept w = none_begins m.want m.at (stack_of m.stack.items) m.draft bytes kept reasons.Truncated w.stands w.stops

awaits : (m : Machine) (bytes kept : List ℕ) → IsWaiting m bytes kept → Awaits m.want bytes
awaits m bytes kept w = record { none = begins_none m bytes kept w; at = m.at; refused = waits m bytes kept w }

-- ---- the end of a document

front_accepted : (want : Want) (at : ℕ) (waiting : Waiting) (bytes tail : List ℕ) → (r : IsReading want at [] waiting bytes tail) → Accepts r.front (start_of want)
front_accepted want at waiting bytes tail r =
    let P : List Item → Type 0 = λ w. Accepts w (start_of want) in subst P (append-nil r.front) (r.reached.to [] tt)

-- the bytes of the document alone
pub front_alone : (want : Want) (at : ℕ) (waiting : Waiting) (bytes tail own : List ℕ) → IsReading want at [] waiting bytes tail → bytes ≡ own ++ tail → IsReading want at [] waiting own []
front_alone want at waiting bytes tail own r parts =
    let w : List Item = r.front in
    let means = start_means want in
    let all : List ℕ = spell w ++ [] in
    let at : At (start_of want) all w [] [] =
    at_accepted (start_of want) all means.plain [] w (start_of want) [] (at_start (start_of want) all means.plain) (front_accepted want at waiting bytes tail r) in
    let own_is : all ≡ own = append-nil (spell w) ∙ append_cancel_right (spell w) own tail (sym r.reached.parts ∙ parts) in
    let P : List ℕ → Type 0 = λ b. At (start_of want) b w [] [] in
    record { front = w; reached = subst P own_is at; shallow = r.shallow; place = r.place; folded = r.folded }

pub is_whole : (want : Want) (at : ℕ) (waiting : Waiting) (own : List ℕ) → IsReading want at [] waiting own [] → IsWhole want own
is_whole want at waiting own r =
    let d = (start_means want).accepted r.front (front_accepted want at waiting own [] r) in
    (d.doc, d.wanted, r.reached.parts ∙ (append-nil (spell r.front) ∙ ap spell (sym d.parts)))

-- where the document ends within the piece, its bytes are those before and those that are used
own_bytes : (bytes piece : List ℕ) (used : ℕ) → bytes ++ piece ≡ (bytes ++ take used piece) ++ drop used piece
own_bytes bytes piece used =
    ap (λ p. bytes ++ p) (sym (take-append-drop used piece)) ∙ sym (append_assoc bytes (take used piece) (drop used piece))

pub own_reading : (want : Want) (m : Machine) (bytes piece : List ℕ) (used : ℕ) → m.want ≡ want → Stands m (bytes ++ piece) (drop used piece) → m.stack.items ≡ [] → IsReading want m.at [] m.draft (bytes ++ take used piece) []
own_reading want m bytes piece used same r none =
    front_alone want m.at m.draft (bytes ++ piece) (drop used piece) (bytes ++ take used piece) (ended want m (bytes ++ piece) (drop used piece) same r none) (own_bytes bytes piece used)

own_stands : (m : Machine) (own : List ℕ) → IsReading m.want m.at [] m.draft own [] → m.stack.items ≡ [] → Stands m own []
own_stands m own r none = subst (λ (stack : List Shape). IsReading m.want m.at (stack_of stack) m.draft own []) (sym none) r

-- ---- what a piece does

-- what was read on is fed on
pub reads_follow : (want : Want) (bytes piece : List ℕ) (fed : Result Fed ReadRefused) (m : Machine) (kept : List ℕ) → ReadsOn want (bytes ++ piece) piece fed m kept → (after : Progress) × HasReadAt (stage_of fed) m kept after × FeedsOn want bytes piece fed after
reads_follow want bytes piece (Ok feds.More) m kept h =
    let P : Want → Type 0 = λ w. Awaits w (bytes ++ piece) in (
      reading want (bytes ++ piece),
      (bytes ++ piece, ap (λ w. reading w (bytes ++ piece)) (sym h.0), h.1),
      (subst P h.0 (awaits m (bytes ++ piece) kept h.1), refl),
    )
reads_follow want bytes piece (Ok (feds.Whole used)) m kept h =
    let own : List ℕ = bytes ++ take used piece in
    let alone = own_reading m.want m bytes piece used refl h.2 h.3 in
    let P : Want → Type 0 = λ w. IsWhole w own in (
      whole want own,
      (own, ap (λ w. whole w own) (sym h.0), record { stands = own_stands m own alone h.3; ended = h.3; none_kept = h.4 }),
      (record { within = h.1; whole = subst P h.0 (is_whole m.want m.at m.draft own alone) }, refl),
    )
reads_follow want bytes piece (Err (Refusal r)) m kept h = (over r, refl, (h, refl))
reads_follow want bytes piece (Err NoMemory) m kept h = (spent, refl, refl)

-- what a piece does to a reader that has read so far
abbrev pub Went : Progress → List ℕ → Result Fed ReadRefused → Stage → Machine → List ℕ → Type 0
Went before piece fed stage m kept = Feeds before piece fed (record { stage = stage; machine = m; kept = kept })

from_reading : (want : Want) (bytes piece : List ℕ) (fed : Result Fed ReadRefused) (stage : Stage) (m : Machine) (kept : List ℕ) (before : Progress) → before ≡ reading want bytes → stage ≡ stage_of fed → ReadsOn want (bytes ++ piece) piece fed m kept → Went before piece fed stage m kept
from_reading want bytes piece fed stage m kept before e is h =
    let P : Progress → Type 0 = λ p. Went p piece fed stage m kept in
    let Q : Stage → Type 0 = λ s. Went (reading want bytes) piece fed s m kept in
    subst P (sym e) (subst Q (sym is) (reads_follow want bytes piece fed m kept h))

pub reading_feeds : (stage after : Stage) (old m : Machine) (kept new piece : List ℕ) (fed : Result Fed ReadRefused) (before : Progress) → stage ≡ Reading → HasReadAt stage old kept before → after ≡ stage_of fed → ((bytes : List ℕ) → IsWaiting old bytes kept → ReadsOn old.want (bytes ++ piece) piece fed m new) → Went before piece fed after m new
reading_feeds stage after old m kept new piece fed before at h is reads =
    let here : HasReadAt Reading old kept before = subst (λ (s : Stage). HasReadAt s old kept before) at h in
    from_reading old.want here.0 piece fed after m new before here.1 is (reads here.0 here.2)

-- behind a whole document more bytes are trailing, whatever follows
trailing_stays : (want : Want) (bytes piece : List ℕ) → IsWhole want bytes → piece ≢ [] → StaysRefused want (bytes ++ piece) (trailing (length bytes))
trailing_stays want bytes piece document some more =
    let w : List Item = items document.0 in
    let means = start_means want in
    let all : List ℕ = spell w ++ (piece ++ more) in
    let at : At (start_of want) all w [] (piece ++ more) =
    at_accepted (start_of want) all means.plain [] w (start_of want) (piece ++ more) (at_start (start_of want) all means.plain) (means.accepts document.0 document.1) in
    let refused : IsDocumentRefused want all (length (spell w)) reasons.Trailing =
    at_trailing want (start_of want) all w (piece ++ more) means at (λ none. some (nothing_left piece more none)) in
    let P : List ℕ → Type 0 = λ b. IsDocumentRefused want b (length (spell w)) reasons.Trailing in
    let Q : List ℕ → Type 0 = λ b. IsDocumentRefused want ((b ++ piece) ++ more) (length b) reasons.Trailing in
    subst Q (sym document.2) (subst P (sym (append_assoc (spell w) piece more)) refused)

pub ended_at : (m : Machine) (bytes kept : List ℕ) → IsEnded m bytes kept → m.at ≡ length bytes
ended_at m bytes kept e = e.stands.place ∙ ap length (sym (e.stands.reached.parts ∙ append-nil (spell e.stands.front)))

-- another piece behind a whole document
pub whole_feeds : (stage after : Stage) (m : Machine) (kept piece : List ℕ) (refused : ReadRefused) (before : Progress) → stage ≡ Whole → HasReadAt stage m kept before → after ≡ Over refused → refused ≡ Refusal (trailing m.at) → piece ≢ [] → Went before piece (Err refused) after m kept
whole_feeds stage after m kept piece refused before at h is told some =
    let here : HasReadAt Whole m kept before = subst (λ (s : Stage). HasReadAt s m kept before) at h in
    let bytes : List ℕ = here.0 in
    let place : m.at ≡ length bytes = ended_at m bytes kept here.2 in
    let document : IsWhole m.want bytes = is_whole m.want m.at m.draft bytes (ended m.want m bytes [] refl here.2.stands here.2.ended) in
    let all : refused ≡ Refusal (trailing (length bytes)) = told ∙ ap (λ n. Refusal (trailing n)) place in
    let P : Progress → Type 0 = λ p. Went p piece (Err refused) after m kept in
    let Q : ReadRefused → Type 0 = λ r. Went (whole m.want bytes) piece (Err r) (Over r) m kept in
    let S : Stage → Type 0 = λ s. Went (whole m.want bytes) piece (Err refused) s m kept in
    let fed : Went (whole m.want bytes) piece (Err (Refusal (trailing (length bytes)))) (Over (Refusal (trailing (length bytes)))) m kept = (
      over (trailing (length bytes)),
      refl,
      record {
        empty = λ none. absurd (some none);
        more = λ _. (refl, refl);
        stays = trailing_stays m.want bytes piece document;
      },
    ) in
    subst P (sym here.1) (subst S (sym is) (subst Q (sym all) fed))

-- ---- what a reader keeps and gives

pub over_sound : (refused : ReadRefused) (m : Machine) (kept : List ℕ) → IsSound (Over refused) m kept
over_sound (Refusal r) m kept = (over r, refl)
over_sound NoMemory m kept = (spent, refl)

pub keeps_cut : (stage : Stage) (m : Machine) (kept : List ℕ) (progress : Progress) (count : ℕ) → stage ≡ Reading → HasReadAt stage m kept progress → count ≡ length kept → KeepsFor progress count
keeps_cut stage m kept progress count at h size =
    let here : HasReadAt Reading m kept progress = subst (λ (s : Stage). HasReadAt s m kept progress) at h in
    let P : Progress → Type 0 = λ p. KeepsFor p count in
    let few = cut_short m.want m.at (stack_of m.stack.items) m.draft here.0 kept here.2.stands here.2.stops in
    let bound : count ≤ 512 = omega (arith, few, size) in
    subst P (sym here.1) bound

-- the end of the bytes where a document goes on
pub gives_cut : (stage : Stage) (m : Machine) (kept : List ℕ) (progress : Progress) (refused : ReadRefused) → stage ≡ Reading → HasReadAt stage m kept progress → refused ≡ Refusal (record { at = m.at; reason = reasons.Truncated }) → Gives progress (Err refused)
gives_cut stage m kept progress refused at h told =
    let here : HasReadAt Reading m kept progress = subst (λ (s : Stage). HasReadAt s m kept progress) at h in
    let P : Progress → Type 0 = λ p. Gives p (Err refused) in
    let Q : ReadRefused → Type 0 = λ r. Gives (reading m.want here.0) (Err r) in
    subst P (sym here.1) (subst Q (sym told) (refl, waits m here.0 kept here.2))

-- the document of the bytes of a whole one
pub gives_document : (stage : Stage) (m : Machine) (kept : List ℕ) (progress : Progress) (found : Option Doc) (document : Doc) → stage ≡ Whole → HasReadAt stage m kept progress → found ≡ Some document → ((bytes : List ℕ) → Stands m bytes [] → m.stack.items ≡ [] → IsRead m.want bytes found) → Gives progress (Ok document)
gives_document stage m kept progress found document at h is read =
    let here : HasReadAt Whole m kept progress = subst (λ (s : Stage). HasReadAt s m kept progress) at h in
    let P : Progress → Type 0 = λ p. Gives p (Ok document) in
    let Q : Option Doc → Type 0 = IsRead m.want here.0 in
    subst P (sym here.1) (subst Q is (read here.0 here.2.stands here.2.ended))

-- a whole document is there
pub never_none : (stage : Stage) (m : Machine) (kept : List ℕ) (found : Option Doc) → stage ≡ Whole → IsSound stage m kept → found ≡ None → ((bytes : List ℕ) → Stands m bytes [] → m.stack.items ≡ [] → IsRead m.want bytes found) → ⊥
never_none stage m kept found at sound is read =
    let here : HasReadAt Whole m kept sound.0 = subst (λ (s : Stage). HasReadAt s m kept sound.0) at sound.1 in
    let Q : Option Doc → Type 0 = IsRead m.want here.0 in
    subst Q is (read here.0 here.2.stands here.2.ended)

pub some_piece : (piece : List ℕ) (empty : Bool) → empty ≡ (length piece == 0) → empty ≡ false → piece ≢ []
some_piece piece empty is filled none =
    let e : false ≡ true = sym filled ∙ (is ∙ ap (λ (l : List ℕ). length l == 0) none) in cc
