-- The texts of a line that says something are of their kinds.
use Rattle.std.proofs.Common.{◌≡◌, inl, inr, ℕ, ◌≤◌, Bool, true, false, ◌||◌, ◌==◌, cond, List, [], ◌∷◌, refl, arith}
use Rattle.std.specs.Prelude.{Option, Some, None, Ok, Err, codes}
use Rattle.std.proofs.lemmas.Bool.Decides.{nat_tests}
use Rattle.ojp_values.specs.Lists.{Among}
use Rattle.ojp_values.specs.Texts.{Text, is_code, is_label, is_name, is_stop_ref, same}
use Rattle.ojp_values.proofs.Escapes.{and_true_left, and_true_right}
use Rattle.ojp_zones.specs.Zones.{zone_of}
use Rattle.ojp_zones.specs.declared.zone.Zone.{Zone}
use Rattle.ojp_timetable.specs.Checks.{checked, first_failing, is_doubled, is_falling, is_foreign, is_full, is_long, lacks_service, lacks_stop, read_line, verdict}
use Rattle.ojp_timetable.specs.Fields.{body, fields_of}
use Rattle.ojp_timetable.specs.Lines.{Above}
use Rattle.ojp_timetable.specs.Said.{Said, call_fields, call_said, day_of, entry_fields, entry_said, formed, header_said, is_closed, journey_fields, may_call, neighbour_fields, place_fields, region_said, said, service_days, service_fields, valued, word_fields, word_of, zone_said, zoned}
use Rattle.ojp_timetable.specs.declared.file.lines.Line.{Line}
use Rattle.ojp_timetable.specs.declared.file.lines.Line.TheVariants as lines
use Rattle.ojp_timetable.specs.declared.file.lines.Open.{Open}
use Rattle.ojp_timetable.specs.declared.file.lines.TableReason.{TableReason}
use Rattle.ojp_timetable.specs.declared.file.lines.TableReason.TheVariants.{ForeignStop, DoubledName, UnknownStop, UnknownService, FallingTimes, Limit, LineForm, Value}
use Rattle.ojp_timetable.specs.declared.file.words.Word.{Word}
use Rattle.ojp_timetable.specs.declared.file.words.Word.TheVariants as words

-- the line stands where it may, and its texts are of their kinds
abbrev pub Told : ℕ → List Text → Line → Type 0
Told above fields lines.Header = above ≡ 0
Told above fields (lines.Region code) = (above ≡ 1) × (is_code code ≡ true)
Told above fields (lines.Zone is) = (above ≡ 2) × (zone : Text) × Among zone fields × (zone_of zone ≡ Some is)
Told above fields (lines.Place stop change name) = (3 ≤ above) × (is_stop_ref stop ≡ true) × (is_name name ≡ true)
Told above fields (lines.Neighbour stop neighbour) = (3 ≤ above) × (is_code neighbour.code ≡ true)
Told above fields (lines.Service id dates) = (3 ≤ above) × (is_label id ≡ true)
Told above fields (lines.Journey id service line) = (3 ≤ above) × (is_label id ≡ true) × (is_label line ≡ true)
Told above fields (lines.Call call) = 3 ≤ above

abbrev SaidTold : ℕ → List Text → Said → Type 0
SaidTold above all (Ok line) = Told above all line
SaidTold above all (Err reason) = Unit {0}

valued_told : (above : ℕ) (all : List Text) (b : Bool) (line : Line) → (b ≡ true → Told above all line) → SaidTold above all (valued b line)
valued_told above all true line h = h refl
valued_told above all false line h = tt

either_told : (above : ℕ) (all : List Text) (b : Bool) (x y : Said) → (b ≡ true → SaidTold above all x) → (b ≡ false → SaidTold above all y) → SaidTold above all (cond b x y)
either_told above all true x y h k = h refl
either_told above all false x y h k = k refl

formed_told : (above : ℕ) (all : List Text) (b : Bool) (x : Said) → SaidTold above all x → SaidTold above all (formed b x)
formed_told above all true x h = h
formed_told above all false x h = tt

place_told : (above : ℕ) (all : List Text) → 3 ≤ above → (shared : Bool) (fields : List Text) → SaidTold above all (place_fields shared fields)
place_told above all h shared [] = tt
place_told above all h shared (stop ∷ []) = tt
place_told above all h shared (stop ∷ change ∷ []) = tt
place_told above all h shared (stop ∷ change ∷ n ∷ ame) =
    valued_told above all _ _ (λ e. (h, and_true_left _ _ (and_true_left _ _ (and_true_left _ _ e)), and_true_right _ _ e))

neighbour_told : (above : ℕ) (all : List Text) (region : Text) → 3 ≤ above → (fields : List Text) → SaidTold above all (neighbour_fields region fields)
neighbour_told above all region h [] = tt
neighbour_told above all region h (stop ∷ []) = tt
neighbour_told above all region h (stop ∷ code ∷ []) = tt
neighbour_told above all region h (stop ∷ code ∷ change ∷ []) = valued_told above all _ _ (λ e. (h, and_true_right _ _ (and_true_left _ _ (and_true_left _ _ e))))
neighbour_told above all region h (stop ∷ code ∷ change ∷ more ∷ fields) = tt

days_told : (above : ℕ) (all : List Text) → 3 ≤ above → (id : Text) (first last : Option ℕ) (marks : Text) → is_label id ≡ true → SaidTold above all (service_days id first last marks)
days_told above all h id None None marks label = tt
days_told above all h id None (Some last) marks label = tt
days_told above all h id (Some first) None marks label = tt
days_told above all h id (Some first) (Some last) marks label = valued_told above all _ _ (λ e. (h, label))

service_told : (above : ℕ) (all : List Text) → 3 ≤ above → (fields : List Text) → SaidTold above all (service_fields fields)
service_told above all h [] = tt
service_told above all h (id ∷ []) = tt
service_told above all h (id ∷ first ∷ []) = tt
service_told above all h (id ∷ first ∷ last ∷ []) = tt
service_told above all h (id ∷ first ∷ last ∷ marks ∷ []) =
    either_told above all (is_label id) (service_days id (day_of first) (day_of last) marks) (Err Value) (λ e. days_told above all h id (day_of first) (day_of last) marks e) (λ e. tt)
service_told above all h (id ∷ first ∷ last ∷ marks ∷ more ∷ fields) = tt

journey_told : (above : ℕ) (all : List Text) → 3 ≤ above → (fields : List Text) → SaidTold above all (journey_fields fields)
journey_told above all h [] = tt
journey_told above all h (id ∷ []) = tt
journey_told above all h (id ∷ service ∷ []) = tt
journey_told above all h (id ∷ service ∷ line ∷ []) = valued_told above all _ _ (λ e. (h, and_true_left _ _ (and_true_left _ _ e), and_true_right _ _ e))
journey_told above all h (id ∷ service ∷ line ∷ more ∷ fields) = tt

call_told : (above : ℕ) (all : List Text) → 3 ≤ above → (left : Open) (fields : List Text) → SaidTold above all (call_fields left fields)
call_told above all h left [] = tt
call_told above all h left (stop ∷ []) = tt
call_told above all h left (stop ∷ arrives ∷ []) = tt
call_told above all h left (stop ∷ arrives ∷ departs ∷ []) =
    formed_told above all (may_call left arrives departs) (call_said stop arrives departs) (valued_told above all _ _ (λ e. h))
call_told above all h left (stop ∷ arrives ∷ departs ∷ more ∷ fields) = tt

word_told : (above : ℕ) (all : List Text) (region : Text) (left : Open) → 3 ≤ above → (word : Word) (fields : List Text) → SaidTold above all (word_fields region left word fields)
word_told above all region left h words.Call fields = call_told above all h left fields
word_told above all region left h words.Journey fields = formed_told above all (is_closed left) (journey_fields fields) (journey_told above all h fields)
word_told above all region left h words.Stop fields = formed_told above all (is_closed left) (place_fields false fields) (place_told above all h false fields)
word_told above all region left h words.Exchange fields = formed_told above all (is_closed left) (place_fields true fields) (place_told above all h true fields)
word_told above all region left h words.Neighbour fields = formed_told above all (is_closed left) (neighbour_fields region fields) (neighbour_told above all region h fields)
word_told above all region left h words.Service fields = formed_told above all (is_closed left) (service_fields fields) (service_told above all h fields)

known_told : (above : ℕ) (all : List Text) (region : Text) (left : Open) → 3 ≤ above → (word : Option Word) (fields : List Text) → SaidTold above all (entry_fields region left word fields)
unfolding entry_fields
known_told above all region left h None fields = tt
known_told above all region left h (Some word) fields = word_told above all region left h word fields

entry_told : (above : ℕ) (all : List Text) (region : Text) (left : Open) → 3 ≤ above → (fields : List Text) → SaidTold above all (entry_said region left fields)
entry_told above all region left h [] = tt
entry_told above all region left h (word ∷ fields) = known_told above all region left h (word_of word) fields

region_told : (above : ℕ) (all : List Text) → above ≡ 1 → (fields : List Text) → SaidTold above all (region_said fields)
region_told above all h [] = tt
region_told above all h (word ∷ []) = tt
region_told above all h (word ∷ code ∷ []) =
    formed_told above all (same word (codes "region")) (valued (is_code code) (lines.Region code)) (valued_told above all (is_code code) (lines.Region code) (λ e. (h, e)))
region_told above all h (word ∷ code ∷ more ∷ fields) = tt

zoned_told : (above : ℕ) (all : List Text) → above ≡ 2 → (zone : Text) → Among zone all → (found : Option Zone) → zone_of zone ≡ found → SaidTold above all (zoned found)
zoned_told above all h zone among None e = tt
zoned_told above all h zone among (Some is) e = (h, zone, among, e)

zone_told : (above : ℕ) → above ≡ 2 → (fields : List Text) → SaidTold above fields (zone_said fields)
zone_told above h [] = tt
zone_told above h (word ∷ []) = tt
zone_told above h (word ∷ zone ∷ []) =
    formed_told above (word ∷ zone ∷ []) (same word (codes "zone")) (zoned (zone_of zone)) (zoned_told above (word ∷ zone ∷ []) h zone (inr (inl refl)) (zone_of zone) refl)
zone_told above h (word ∷ zone ∷ more ∷ fields) = tt

header_told : (above : ℕ) (all : List Text) (text : Text) → above ≡ 0 → SaidTold above all (header_said text)
header_told above all text h = either_told above all (same text (codes "ojp-timetable 1")) (Ok lines.Header) (Err LineForm) (λ e. h) (λ e. tt)

is_at : (n k : ℕ) → (n == k) ≡ true → n ≡ k
is_at n k h = grind (arith, nat_tests)

is_later : (n : ℕ) → (n == 0) ≡ false → (n == 1) ≡ false → (n == 2) ≡ false → 3 ≤ n
is_later n h k l = grind (arith, nat_tests)

said_told : (above : ℕ) (region : Text) (left : Open) (text : Text) → SaidTold above (fields_of text) (said above region left text)
unfolding said
said_told above region left text =
    let all = fields_of text in
    let rest : Said = cond (above == 2) (zone_said all) (entry_said region left all) in
    either_told above all (above == 0) (header_said text) (cond (above == 1) (region_said all) rest) (λ e. header_told above all text (is_at above 0 e))
    (λ e. either_told above all (above == 1) (region_said all) rest (λ f. region_told above all (is_at above 1 f) all)
    (λ f. either_told above all (above == 2) (zone_said all) (entry_said region left all) (λ g. zone_told above (is_at above 2 g) all)
    (λ g. entry_told above all region left (is_later above e f g) all)))

-- ---- what passes

-- what a line says that is no stop of another region, and stands nowhere above
pub record Holds (above : Above) (text : Text) (line : Line) : Type 0 where
  pub told : Told above.lines (fields_of (body text)) line
  pub own : is_foreign above.contents line ≡ false
  pub new : is_doubled above.contents line ≡ false

abbrev pub SaidHolds : Above → Text → Said → Type 0
SaidHolds above text (Ok line) = Holds above text line
SaidHolds above text (Err reason) = Unit {0}

verdict_holds : (above : Above) (text : Text) (line : Line) (foreign doubled : Bool) (rest : Option TableReason) → is_foreign above.contents line ≡ foreign → is_doubled above.contents line ≡ doubled
    → Told above.lines (fields_of (body text)) line → SaidHolds above text (verdict line (cond foreign (Some ForeignStop) (cond doubled (Some DoubledName) rest)))
verdict_holds above text line true doubled rest f e told = tt
verdict_holds above text line false true rest f e told = tt
verdict_holds above text line false false None f e told = record { told = told; own = f; new = e }
verdict_holds above text line false false (Some reason) f e told = tt

checked_holds : (above : Above) (text : Text) (said : Said) → SaidTold above.lines (fields_of (body text)) said → SaidHolds above text (checked above text said)
checked_holds above text (Err reason) h = tt
checked_holds above text (Ok line) h =
    verdict_holds above text line (is_foreign above.contents line) (is_doubled above.contents line)
    (first_failing
    ((lacks_stop above.contents line, UnknownStop)
    ∷ (lacks_service above.contents line, UnknownService)
    ∷ (is_falling above.left line, FallingTimes)
    ∷ (is_full above.contents line || is_long above text, Limit)
    ∷ []))
    refl refl h

pub line_holds : (above : Above) (text : Text) → SaidHolds above text (read_line above text)
unfolding read_line
line_holds above text = checked_holds above text (said above.lines above.contents.region above.left (body text)) (said_told above.lines above.contents.region above.left (body text))
