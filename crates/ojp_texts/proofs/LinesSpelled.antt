-- A line that says something is spelled as what it says.
use Rattle.std.proofs.Common.{◌≡◌, ℕ, suc, ◌+◌, ◌<◌, ◌≤◌, ◌^◌, Bool, true, false, not, ◌||◌, ◌==◌, cond, nat_lt, true≢false, List, [], ◌∷◌, ◌++◌, length, take, get_or, refl, sym, ◌∙◌, ap, subst, arith, fold}
use Rattle.std.specs.Prelude.{Option, Some, None, Ok, Err, codes}
use Rattle.std.specs.List.{list_all}
use Rattle.std.specs.Fmt.{decimal}
use Rattle.std.proofs.lemmas.Bool.{eqb-true}
use Rattle.std.proofs.lemmas.Bool.Decides.{nat_tests}
use Rattle.ojp_values.specs.Dates.{day_text}
use Rattle.ojp_values.specs.Lists.{Pairwise}
use Rattle.ojp_values.specs.Numbers.{Reads, number}
use Rattle.ojp_values.specs.Texts.{Text, is_code, is_exchange, is_label, same}
use Rattle.ojp_values.specs.declared.moments.TheConstants.{FIRST_DAY, LAST_DAY}
use Rattle.ojp_values.proofs.Escapes.{and_true_left, and_true_right}
use Rattle.ojp_zones.specs.Numbers.{is_number}
use Rattle.ojp_zones.specs.Zones.{zone_of}
use Rattle.ojp_zones.specs.declared.zone.Zone.{Zone}
use Rattle.ojp_zones.proofs.NumberFacts.{numbers_are_decimal}
use Rattle.ojp_timetable.specs.Checks.{checked, checks, first_failing, is_long, read_line, verdict}
use Rattle.ojp_timetable.specs.Fields.{body, fields_of, joined}
use Rattle.ojp_timetable.specs.Lines.{Above, after_line, no_lines}
use Rattle.ojp_timetable.specs.Said.{Said, call_fields, call_said, day_of, entry_fields, entry_said, formed, header_said, is_closed, is_dash, is_mark, is_offset, is_place, journey_fields, marks_of, may_call, neighbour_fields, offset, place_fields, region_said, said, service_days, service_fields, valued, word_fields, word_of, zone_said, zoned}
use Rattle.ojp_timetable.specs.SaidLines.{said_first, say, say_below}
use Rattle.ojp_timetable.specs.TableText.{above_of, fault_at, fault_at_end, lines_of, reason_of, with_line, with_said}
use Rattle.ojp_timetable.specs.declared.file.lines.Line.{Line}
use Rattle.ojp_timetable.specs.declared.file.lines.Line.TheVariants as lines
use Rattle.ojp_timetable.specs.declared.file.lines.Open.{Open}
use Rattle.ojp_timetable.specs.declared.file.lines.TableReason.{TableReason}
use Rattle.ojp_timetable.specs.declared.file.lines.TableReason.TheVariants.{LineForm, Value}
use Rattle.ojp_timetable.specs.declared.file.words.Word.{Word}
use Rattle.ojp_timetable.specs.declared.file.words.Word.TheVariants as words
use Rattle.ojp_timetable.proofs.DayFacts.{days_are_spelled}
use Rattle.ojp_timetable.proofs.TextFacts.{same_is}
use Rattle.ojp_lines.specs.Lines.{marks_text, place_word, time_text}
use Rattle.ojp_texts.specs.Spelled.{LinesAreSpelled, fields_spelled}
use Rattle.ojp_texts.proofs.Spelling.{joined_back}
use Rattle.ojp_texts.proofs.Told.{SaidHolds, Told, line_holds}

-- the text is the line as it is spelled, with some zone
abbrev pub Spells : Text → Line → Type 0
Spells text (lines.Zone is) = (zone : Text) × (text ≡ joined (fields_spelled zone (lines.Zone is)))
Spells text line = text ≡ joined (fields_spelled [] line)

abbrev SaidSpells : Text → Said → Type 0
SaidSpells text (Ok line) = Spells text line
SaidSpells text (Err reason) = Unit {0}

valued_spells : (text : Text) (b : Bool) (line : Line) → (b ≡ true → Spells text line) → SaidSpells text (valued b line)
valued_spells text true line h = h refl
valued_spells text false line h = tt

either_spells : (text : Text) (b : Bool) (x y : Said) → (b ≡ true → SaidSpells text x) → (b ≡ false → SaidSpells text y) → SaidSpells text (cond b x y)
either_spells text true x y h k = h refl
either_spells text false x y h k = k refl

formed_spells : (text : Text) (b : Bool) (x : Said) → SaidSpells text x → SaidSpells text (formed b x)
formed_spells text true x h = h
formed_spells text false x h = tt

-- ---- fields

number_back : (low high : ℕ) (text : Text) → high < 2 ^ 32 → is_number low high text ≡ true → text ≡ decimal (number text)
number_back low high text bound h =
    let it = (numbers_are_decimal low high text bound).0 h in
    sym it.3 ∙ ap decimal (sym it.4)

day_back : (text : Text) (day : ℕ) → day_of text ≡ Some day → text ≡ day_text day
day_back text day e =
    let read = subst (λ (o : Option ℕ). Reads (λ n. (FIRST_DAY ≤ n) × (n ≤ LAST_DAY)) day_text text o) e (days_are_spelled text) in
    sym read.1

mark_back : (b : ℕ) → is_mark b ≡ true → b ≡ cond (b == 49) 49 48
mark_back b h = by_tests (b == 48) (b == 49) refl refl h
  where
    by_tests : (c d : Bool) → (b == 48) ≡ c → (b == 49) ≡ d → (c || d) ≡ true → b ≡ cond d 49 48
    by_tests c true e f k = eqb-true b 49 f
    by_tests true false e f k = eqb-true b 48 e
    by_tests false false e f k = absurd (true≢false (sym k))

marks_back : (text : Text) → list_all is_mark text ≡ true → text ≡ marks_text (marks_of text)
marks_back [] h = refl
marks_back (b ∷ text) h =
    ap (λ (c : ℕ). c ∷ text) (mark_back b (and_true_left _ _ h)) ∙ ap (λ (t : Text). cond (b == 49) 49 48 ∷ t) (marks_back text (and_true_right _ _ h))

offset_back : (text : Text) → is_offset text ≡ true → text ≡ time_text (offset text)
unfolding is_offset offset
offset_back text h = by_test (is_dash text) refl h
  where
    by_test : (b : Bool) → is_dash text ≡ b → (b || is_number 0 129600 text) ≡ true → text ≡ time_text (cond b None (Some (number text)))
    by_test true e k = same_is text (45 ∷ []) e
    by_test false e k = number_back 0 129600 text (omega arith) k

-- ---- words

abbrev text_of : Word → Text
text_of words.Call = codes "call"
text_of words.Journey = codes "journey"
text_of words.Stop = codes "stop"
text_of words.Exchange = codes "exchange"
text_of words.Neighbour = codes "neighbour"
text_of words.Service = codes "service"

named : (text other : Text) (word given : Word) (b : Bool) (rest : Option Word) → same text other ≡ b → text_of given ≡ other → (rest ≡ Some word → text ≡ text_of word) → cond b (Some given) rest ≡ Some word → text ≡ text_of word
named text other word given true rest e is more h = let one : given ≡ word = cc in same_is text other e ∙ (sym is ∙ ap text_of one)
named text other word given false rest e is more h = more h

word_back : (text : Text) (word : Word) → word_of text ≡ Some word → text ≡ text_of word
unfolding word_of
word_back text word =
    named text (codes "call") word words.Call (same text (codes "call")) _ refl refl
    (named text (codes "journey") word words.Journey (same text (codes "journey")) _ refl refl
    (named text (codes "stop") word words.Stop (same text (codes "stop")) _ refl refl
    (named text (codes "exchange") word words.Exchange (same text (codes "exchange")) _ refl refl
    (named text (codes "neighbour") word words.Neighbour (same text (codes "neighbour")) _ refl refl
    (named text (codes "service") word words.Service (same text (codes "service")) None refl refl (λ h. absurd (cc h)))))))

-- ---- entries, by their fields

place_is : (b : Bool) (stop : Text) → is_place b stop ≡ true → cond b (codes "exchange") (codes "stop") ≡ place_word stop
place_is b stop h = by_test b (is_exchange stop) refl (and_true_right _ _ h)
  where
    by_test : (c d : Bool) → is_exchange stop ≡ d → cond c d (not d) ≡ true → cond c (codes "exchange") (codes "stop") ≡ cond d (codes "exchange") (codes "stop")
    by_test true true e k = refl
    by_test true false e k = absurd (true≢false (sym k))
    by_test false true e k = absurd (true≢false (sym k))
    by_test false false e k = refl

place_spells : (shared : Bool) (fields : List Text) → SaidSpells (joined (cond shared (codes "exchange") (codes "stop") ∷ fields)) (place_fields shared fields)
place_spells shared [] = tt
place_spells shared (stop ∷ []) = tt
place_spells shared (stop ∷ change ∷ []) = tt
place_spells shared (stop ∷ change ∷ n ∷ ame) =
    let name = joined (n ∷ ame) in
    valued_spells (cond shared (codes "exchange") (codes "stop") ++ 32 ∷ (stop ++ 32 ∷ (change ++ 32 ∷ name))) _ (lines.Place stop (number change) name)
    (λ e.
    let front = and_true_left _ _ e in
    ap (λ (w : Text). w ++ 32 ∷ (stop ++ 32 ∷ (change ++ 32 ∷ name))) (place_is shared stop (and_true_left _ _ front))
    ∙ ap (λ (c : Text). place_word stop ++ 32 ∷ (stop ++ 32 ∷ (c ++ 32 ∷ name))) (number_back 1 7200 change (omega arith) (and_true_right _ _ front)))

neighbour_spells : (region : Text) (fields : List Text) → SaidSpells (joined (codes "neighbour" ∷ fields)) (neighbour_fields region fields)
neighbour_spells region [] = tt
neighbour_spells region (stop ∷ []) = tt
neighbour_spells region (stop ∷ code ∷ []) = tt
neighbour_spells region (stop ∷ code ∷ change ∷ []) =
    valued_spells (joined (codes "neighbour" ∷ stop ∷ code ∷ change ∷ [])) _ (lines.Neighbour stop (record { code = code; change = number change }))
    (λ e. ap (λ (c : Text). joined (codes "neighbour" ∷ stop ∷ code ∷ c ∷ [])) (number_back 1 7200 change (omega arith) (and_true_right _ _ e)))
neighbour_spells region (stop ∷ code ∷ change ∷ more ∷ fields) = tt

days_spell : (id first last marks : Text) (from to : Option ℕ) → day_of first ≡ from → day_of last ≡ to → SaidSpells (joined (codes "service" ∷ id ∷ first ∷ last ∷ marks ∷ [])) (service_days id from to marks)
days_spell id first last marks None None e f = tt
days_spell id first last marks None (Some to) e f = tt
days_spell id first last marks (Some from) None e f = tt
days_spell id first last marks (Some from) (Some to) e f =
    valued_spells (joined (codes "service" ∷ id ∷ first ∷ last ∷ marks ∷ [])) _ (lines.Service id (record { first = from; last = to; marks = marks_of marks }))
    (λ h.
    ap (λ (t : Text). joined (codes "service" ∷ id ∷ t ∷ last ∷ marks ∷ [])) (day_back first from e)
    ∙ (ap (λ (t : Text). joined (codes "service" ∷ id ∷ day_text from ∷ t ∷ marks ∷ [])) (day_back last to f)
    ∙ ap (λ (t : Text). joined (codes "service" ∷ id ∷ day_text from ∷ day_text to ∷ t ∷ [])) (marks_back marks (and_true_right _ _ (and_true_left _ _ h)))))

service_spells : (fields : List Text) → SaidSpells (joined (codes "service" ∷ fields)) (service_fields fields)
service_spells [] = tt
service_spells (id ∷ []) = tt
service_spells (id ∷ first ∷ []) = tt
service_spells (id ∷ first ∷ last ∷ []) = tt
service_spells (id ∷ first ∷ last ∷ marks ∷ []) =
    either_spells (joined (codes "service" ∷ id ∷ first ∷ last ∷ marks ∷ [])) (is_label id) (service_days id (day_of first) (day_of last) marks) (Err Value)
    (λ e. days_spell id first last marks (day_of first) (day_of last) refl refl) (λ e. tt)
service_spells (id ∷ first ∷ last ∷ marks ∷ more ∷ fields) = tt

journey_spells : (fields : List Text) → SaidSpells (joined (codes "journey" ∷ fields)) (journey_fields fields)
journey_spells [] = tt
journey_spells (id ∷ []) = tt
journey_spells (id ∷ service ∷ []) = tt
journey_spells (id ∷ service ∷ line ∷ []) = valued_spells (joined (codes "journey" ∷ id ∷ service ∷ line ∷ [])) _ (lines.Journey id service line) (λ e. refl)
journey_spells (id ∷ service ∷ line ∷ more ∷ fields) = tt

call_spells : (left : Open) (fields : List Text) → SaidSpells (joined (codes "call" ∷ fields)) (call_fields left fields)
call_spells left [] = tt
call_spells left (stop ∷ []) = tt
call_spells left (stop ∷ arrives ∷ []) = tt
call_spells left (stop ∷ arrives ∷ departs ∷ []) =
    formed_spells (joined (codes "call" ∷ stop ∷ arrives ∷ departs ∷ [])) (may_call left arrives departs) (call_said stop arrives departs)
    (valued_spells (joined (codes "call" ∷ stop ∷ arrives ∷ departs ∷ [])) _ (lines.Call (record { stop = stop; arrives = offset arrives; departs = offset departs }))
    (λ e.
    ap (λ (t : Text). joined (codes "call" ∷ stop ∷ t ∷ departs ∷ [])) (offset_back arrives (and_true_right _ _ (and_true_left _ _ e)))
    ∙ ap (λ (t : Text). joined (codes "call" ∷ stop ∷ time_text (offset arrives) ∷ t ∷ [])) (offset_back departs (and_true_right _ _ e))))
call_spells left (stop ∷ arrives ∷ departs ∷ more ∷ fields) = tt

word_spells : (region : Text) (left : Open) (word : Word) (fields : List Text) → SaidSpells (joined (text_of word ∷ fields)) (word_fields region left word fields)
word_spells region left words.Call fields = call_spells left fields
word_spells region left words.Journey fields = formed_spells (joined (codes "journey" ∷ fields)) (is_closed left) (journey_fields fields) (journey_spells fields)
word_spells region left words.Stop fields = formed_spells (joined (codes "stop" ∷ fields)) (is_closed left) (place_fields false fields) (place_spells false fields)
word_spells region left words.Exchange fields = formed_spells (joined (codes "exchange" ∷ fields)) (is_closed left) (place_fields true fields) (place_spells true fields)
word_spells region left words.Neighbour fields = formed_spells (joined (codes "neighbour" ∷ fields)) (is_closed left) (neighbour_fields region fields) (neighbour_spells region fields)
word_spells region left words.Service fields = formed_spells (joined (codes "service" ∷ fields)) (is_closed left) (service_fields fields) (service_spells fields)

known_spells : (region : Text) (left : Open) (text : Text) (word : Option Word) (fields : List Text) → word_of text ≡ word → SaidSpells (joined (text ∷ fields)) (entry_fields region left word fields)
unfolding entry_fields
known_spells region left text None fields e = tt
known_spells region left text (Some word) fields e =
    subst (λ (t : Text). SaidSpells (joined (t ∷ fields)) (word_fields region left word fields)) (sym (word_back text word e)) (word_spells region left word fields)

entry_spells : (region : Text) (left : Open) (fields : List Text) → SaidSpells (joined fields) (entry_said region left fields)
entry_spells region left [] = tt
entry_spells region left (word ∷ fields) = known_spells region left word (word_of word) fields refl

-- ---- the first three lines

word_first : (text other : Text) (fields : List Text) (b : Bool) (next : Said) → same text other ≡ b → SaidSpells (joined (other ∷ fields)) next → SaidSpells (joined (text ∷ fields)) (formed b next)
word_first text other fields true next e h = subst (λ (t : Text). SaidSpells (joined (t ∷ fields)) next) (sym (same_is text other e)) h
word_first text other fields false next e h = tt

region_spells : (fields : List Text) → SaidSpells (joined fields) (region_said fields)
region_spells [] = tt
region_spells (word ∷ []) = tt
region_spells (word ∷ code ∷ []) =
    word_first word (codes "region") (code ∷ []) (same word (codes "region")) (valued (is_code code) (lines.Region code)) refl
    (valued_spells (joined (codes "region" ∷ code ∷ [])) (is_code code) (lines.Region code) (λ e. refl))
region_spells (word ∷ code ∷ more ∷ fields) = tt

zoned_spells : (zone : Text) (found : Option Zone) → SaidSpells (joined (codes "zone" ∷ zone ∷ [])) (zoned found)
zoned_spells zone None = tt
zoned_spells zone (Some is) = (zone, refl)

zone_spells : (fields : List Text) → SaidSpells (joined fields) (zone_said fields)
zone_spells [] = tt
zone_spells (word ∷ []) = tt
zone_spells (word ∷ zone ∷ []) = word_first word (codes "zone") (zone ∷ []) (same word (codes "zone")) (zoned (zone_of zone)) refl (zoned_spells zone (zone_of zone))
zone_spells (word ∷ zone ∷ more ∷ fields) = tt

header_spells : (text : Text) → SaidSpells text (header_said text)
header_spells text =
    either_spells text (same text (codes "ojp-timetable 1")) (Ok lines.Header) (Err LineForm) (λ e. same_is text (codes "ojp-timetable 1") e) (λ e. tt)

said_spells : (above : ℕ) (region : Text) (left : Open) (text : Text) → SaidSpells text (said above region left text)
unfolding said
said_spells above region left text =
    let all = fields_of text in
    let rest : Said = cond (above == 2) (zone_said all) (entry_said region left all) in
    let back = joined_back text in
    either_spells text (above == 0) (header_said text) (cond (above == 1) (region_said all) rest) (λ e. header_spells text)
    (λ e. either_spells text (above == 1) (region_said all) rest (λ f. subst (λ (t : Text). SaidSpells t (region_said all)) back (region_spells all))
    (λ f. either_spells text (above == 2) (zone_said all) (entry_said region left all) (λ g. subst (λ (t : Text). SaidSpells t (zone_said all)) back (zone_spells all))
    (λ g. subst (λ (t : Text). SaidSpells t (entry_said region left all)) back (entry_spells region left all))))

checked_spells : (above : Above) (text : Text) (s : Said) (line : Line) → SaidSpells (body text) s → checked above text s ≡ Ok line → Spells (body text) line
checked_spells above text (Err reason) line h e = absurd (cc e)
checked_spells above text (Ok given) line h e = by_verdict (first_failing (checks above.contents above.left (is_long above text) given)) e
  where
    by_verdict : (failing : Option TableReason) → verdict given failing ≡ Ok line → Spells (body text) line
    by_verdict None f = let one : given ≡ line = cc in subst (λ (l : Line). Spells (body text) l) one h
    by_verdict (Some reason) f = absurd (cc f)

read_spells : (above : Above) (text : Text) (line : Line) → read_line above text ≡ Ok line → Spells (body text) line
unfolding read_line
read_spells above text line e =
    checked_spells above text (said above.lines above.contents.region above.left (body text)) line (said_spells above.lines above.contents.region above.left (body text)) e

-- ---- all lines

-- each text is read as a line
abbrev AllRead : Above → List Text → Type 0
AllRead above [] = Unit {0}
AllRead above (text ∷ texts) = (line : Line) × (read_line above text ≡ Ok line) × AllRead (after_line above text line) texts

is_read : (s : Said) → reason_of s ≡ None → (line : Line) × (s ≡ Ok line)
is_read (Ok line) h = (line, refl)
is_read (Err reason) h = absurd (cc h)

all_read : (above : Above) (texts : List Text) → ((k : ℕ) → k < length texts → reason_of (read_line (fold with_line above (take k texts)) (get_or texts k [])) ≡ None) → AllRead above texts
all_read above [] h = tt
all_read above (text ∷ texts) h =
    let first = is_read (read_line above text) (h 0 (omega arith)) in
    let next : with_line above text ≡ after_line above text first.0 = ap (λ (s : Said). with_said above text s) first.1 in (
      first.0,
      first.1,
      all_read (after_line above text first.0) texts
          (λ k low. ap (λ (at : Above). reason_of (read_line (fold with_line at (take k texts)) (get_or texts k []))) (sym next) ∙ h (suc k) (omega (arith, low))),
    )

says_all : (above : Above) (text : Text) (texts : List Text) (line : Line) → read_line above text ≡ Ok line → say_below above (text ∷ texts) ≡ line ∷ say_below (after_line above text line) texts
says_all above text texts line e = ap (λ (s : Said). said_first s (say_below (with_said above text s) texts)) e

abbrev AreSpelled : Text → List Line → List Text → Type 0
AreSpelled zone said texts = Pairwise (λ (line : Line) (text : Text). body text ≡ joined (fields_spelled zone line)) said texts

-- a line that names no zone
no_zone : (zone : Text) (above : ℕ) (fields : List Text) (text : Text) (line : Line) → (above ≡ 2 → ⊥) → Told above fields line → Spells text line → text ≡ joined (fields_spelled zone line)
no_zone zone above fields text lines.Header h told s = s
no_zone zone above fields text (lines.Region code) h told s = s
no_zone zone above fields text (lines.Zone is) h told s = absurd (h told.0)
no_zone zone above fields text (lines.Place stop change name) h told s = s
no_zone zone above fields text (lines.Neighbour stop neighbour) h told s = s
no_zone zone above fields text (lines.Service id dates) h told s = s
no_zone zone above fields text (lines.Journey id service line) h told s = s
no_zone zone above fields text (lines.Call call) h told s = s

its_told : (above : Above) (text : Text) (line : Line) → read_line above text ≡ Ok line → Told above.lines (fields_of (body text)) line
its_told above text line e = (subst (λ (s : Said). SaidHolds above text s) e (line_holds above text)).told

spelled_behind : (zone : Text) (above : Above) (texts : List Text) → 3 ≤ above.lines → AllRead above texts → AreSpelled zone (say_below above texts) texts
spelled_behind zone above [] low read = tt
spelled_behind zone above (text ∷ texts) low (line, is, more) =
    subst (λ (said : List Line). AreSpelled zone said (text ∷ texts)) (sym (says_all above text texts line is)) (
      no_zone zone above.lines (fields_of (body text)) (body text) line (λ e. omega (arith, low, e)) (its_told above text line is) (read_spells above text line is),
      spelled_behind zone (after_line above text line) texts (omega (arith, low)) more,
    )

-- the zone of a line that names one, and else that of the lines behind
zone_first : (zone : Text) (above : Above) (text : Text) (texts : List Text) (line : Line) → Told above.lines (fields_of (body text)) line → Spells (body text) line → AllRead (after_line above text line) texts
    → AreSpelled zone (say_below (after_line above text line) texts) texts
    → (named : Text) × (body text ≡ joined (fields_spelled named line)) × AreSpelled named (say_below (after_line above text line) texts) texts
zone_first zone above text texts lines.Header told s read h = (zone, s, h)
zone_first zone above text texts (lines.Region code) told s read h = (zone, s, h)
zone_first zone above text texts (lines.Zone is) told s read h = (s.0, s.1, spelled_behind s.0 (after_line above text (lines.Zone is)) texts (omega (arith, told.0)) read)
zone_first zone above text texts (lines.Place stop change name) told s read h = (zone, s, h)
zone_first zone above text texts (lines.Neighbour stop neighbour) told s read h = (zone, s, h)
zone_first zone above text texts (lines.Service id dates) told s read h = (zone, s, h)
zone_first zone above text texts (lines.Journey id service line) told s read h = (zone, s, h)
zone_first zone above text texts (lines.Call call) told s read h = (zone, s, h)

spelled_from : (above : Above) (texts : List Text) → AllRead above texts → (zone : Text) × AreSpelled zone (say_below above texts) texts
spelled_from above [] read = ([], tt)
spelled_from above (text ∷ texts) (line, is, more) =
    let later = spelled_from (after_line above text line) texts more in
    let first = zone_first later.0 above text texts line (its_told above text line is) (read_spells above text line is) more later.1 in
    (first.0, subst (λ (said : List Line). AreSpelled first.0 said (text ∷ texts)) (sym (says_all above text texts line is)) (first.1, first.2))

below : (n m : ℕ) → n < m → nat_lt n m ≡ true
below n m h = grind (arith, nat_tests)

pub lines_are_spelled : LinesAreSpelled
unfolding say fault_at above_of
lines_are_spelled bytes table text =
    let texts = lines_of bytes in
    spelled_from no_lines texts (all_read no_lines texts
    (λ k low.
    sym (ap (λ (b : Bool). cond b (reason_of (read_line (fold with_line no_lines (take k texts)) (get_or texts k []))) (fault_at_end (fold with_line no_lines texts))) (below k (length texts) low))
    ∙ text.passed.passed k (omega (arith, low))))
