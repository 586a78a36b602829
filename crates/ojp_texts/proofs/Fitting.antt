-- Lines that fit one below another are read as they are.
use Rattle.std.proofs.Common.{◌≡◌, ℕ, zero, suc, ◌+◌, ◌<◌, ◌≤◌, Bool, true, false, not, ◌||◌, cond, nat_lt, true≢false, List, [], ◌∷◌, ◌++◌, length, take, get_or, refl, ◌∙◌, ap, arith, map, fold, inl, inr, length-append}
use Rattle.std.specs.Prelude.{Some, None, Ok, codes}
use Rattle.std.specs.List.{concat}
use Rattle.std.proofs.lemmas.Bool.Decides.{nat_tests}
use Rattle.std.proofs.Math.Nat.{eq-or-lt_of_le}
use Rattle.ojp_values.specs.Lists.{Each}
use Rattle.ojp_values.specs.Texts.{Text, is_code, same}
use Rattle.ojp_zones.specs.Zones.{zone_of}
use Rattle.ojp_zones.specs.declared.zone.Zone.{Zone}
use Rattle.ojp_timetable.specs.Contents.{Contents, no_contents}
use Rattle.ojp_timetable.specs.Fields.{body, fields_of, joined}
use Rattle.ojp_timetable.specs.Lines.{Above, after_line, grown, left_open, no_lines}
use Rattle.ojp_timetable.specs.Said.{Said, entry_said, formed, header_said, is_closed, region_said, said, valued, zone_said, zoned}
use Rattle.ojp_timetable.specs.Checks.{checked, first_failing, is_cut, is_doubled, is_falling, is_foreign, is_full, is_long, lacks_service, lacks_stop, read_line, verdict}
use Rattle.ojp_timetable.specs.SaidLines.{said_first, say, say_below}
use Rattle.ojp_timetable.specs.TableText.{ArePassed, above_of, fault_at, fault_at_end, reason_of, with_line, with_said}
use Rattle.ojp_timetable.specs.WellContents.{Passes}
use Rattle.ojp_timetable.specs.declared.file.above.TheConstants.{BYTES}
use Rattle.ojp_timetable.specs.declared.file.lines.Line.{Line}
use Rattle.ojp_timetable.specs.declared.file.lines.Line.TheVariants as lines
use Rattle.ojp_timetable.specs.declared.file.lines.Open.{Open}
use Rattle.ojp_timetable.specs.declared.file.lines.Open.TheVariants.{Nothing}
use Rattle.ojp_timetable.specs.declared.file.lines.TableReason.{TableReason}
use Rattle.ojp_timetable.specs.declared.file.lines.TableReason.TheVariants.{ForeignStop, DoubledName, UnknownStop, UnknownService, FallingTimes, Limit, LineForm}
use Rattle.ojp_texts.specs.Spelled.{fields_spelled, spelled}
use Rattle.ojp_texts.proofs.Reading.{reads_as}
use Rattle.ojp_texts.proofs.Spelling.{EndsOnce, body_is, fields_back, joined_line}
use Rattle.ojp_texts.proofs.Words.{IsLine, IsWord, code_word, word_line}

-- ---- one line

none_fails : (a b c d e f : Bool) (r s t u v w : TableReason) → a ≡ false → b ≡ false → c ≡ false → d ≡ false → e ≡ false → f ≡ false
    → first_failing ((a, r) ∷ (b, s) ∷ (c, t) ∷ (d, u) ∷ (e, v) ∷ (f, w) ∷ []) ≡ None
none_fails false false false false false false r s t u v w h i j k l m = refl
none_fails true b c d e f r s t u v w h i j k l m = absurd (true≢false h)
none_fails false true c d e f r s t u v w h i j k l m = absurd (true≢false i)
none_fails false false true d e f r s t u v w h i j k l m = absurd (true≢false j)
none_fails false false false true e f r s t u v w h i j k l m = absurd (true≢false k)
none_fails false false false false true f r s t u v w h i j k l m = absurd (true≢false l)
none_fails false false false false false true r s t u v w h i j k l m = absurd (true≢false m)

neither : (a b : Bool) → a ≡ false → b ≡ false → (a || b) ≡ false
neither false b h k = k
neither true b h k = absurd (true≢false h)

not_long : (above : Above) (text : Text) → above.bytes + length text ≤ BYTES → is_long above text ≡ false
unfolding is_long
not_long above text h = not_past BYTES (above.bytes + length text) h
  where
    not_past : (n m : ℕ) → m ≤ n → nat_lt n m ≡ false
    not_past n m h = grind (arith, nat_tests)

-- a line that is said and fails no check is read
reads_line : (above : Above) (text : Text) (line : Line) → said above.lines above.contents.region above.left (body text) ≡ Ok line → Passes above.contents above.left line
    → above.bytes + length text ≤ BYTES → read_line above text ≡ Ok line
unfolding read_line
reads_line above text line h p short =
    ap (checked above text) h
    ∙ ap (verdict line)
    (none_fails (is_foreign above.contents line) (is_doubled above.contents line) (lacks_stop above.contents line) (lacks_service above.contents line) (is_falling above.left line)
    (is_full above.contents line || is_long above text) ForeignStop DoubledName UnknownStop UnknownService FallingTimes Limit p.own p.new p.stop p.service p.times
    (neither (is_full above.contents line) (is_long above text) p.room (not_long above text short)))

-- ---- lines one below another

-- the fields say the line, it fails no check, and it has no line feed
pub record Fits (zone : Text) (contents : Contents) (left : Open) (line : Line) : Type 0 where
  pub says : entry_said contents.region left (fields_of (joined (fields_spelled zone line))) ≡ Ok line
  pub passes : Passes contents left line
  pub one : IsLine (joined (fields_spelled zone line))

abbrev pub AllFit : Text → Contents → Open → List Line → Type 0
AllFit zone contents left [] = Unit {0}
AllFit zone contents left (line ∷ more) = Fits zone contents left line × AllFit zone (grown contents line) (left_open line) more

-- what stands open behind the lines
abbrev pub left_after : Open → List Line → Open
left_after left [] = left
left_after left (line ∷ more) = left_after (left_open line) more

pub all_append : (zone : Text) (contents : Contents) (left : Open) (xs ys : List Line) → AllFit zone contents left xs → AllFit zone (fold grown contents xs) (left_after left xs) ys
    → AllFit zone contents left (xs ++ ys)
all_append zone contents left [] ys h k = k
all_append zone contents left (line ∷ xs) ys h k = (h.0, all_append zone (grown contents line) (left_open line) xs ys h.1 k)

pub left_append : (left : Open) (xs ys : List Line) → left_after left (xs ++ ys) ≡ left_after (left_after left xs) ys
left_append left [] ys = refl
left_append left (line ∷ xs) ys = left_append (left_open line) xs ys

-- each line is read as it is
abbrev pub Follow : Text → Above → List Line → Type 0
Follow zone above [] = Unit {0}
Follow zone above (line ∷ more) = (read_line above (spelled zone line) ≡ Ok line) × Follow zone (after_line above (spelled zone line) line) more

abbrev pub all_after : Text → Above → List Line → Above
all_after zone above lines = fold (λ (at : Above) (line : Line). after_line at (spelled zone line) line) above lines

pub all_follow : (zone : Text) (above : Above) (lines : List Line) → AllFit zone above.contents above.left lines → 3 ≤ above.lines
    → above.bytes + length (concat (map (spelled zone) lines)) ≤ BYTES → Follow zone above lines
all_follow zone above [] fit low short = tt
all_follow zone above (line ∷ more) fit low short =
    let text = spelled zone line in
    let size : length (concat (map (spelled zone) (line ∷ more))) ≡ length text + length (concat (map (spelled zone) more)) = length-append text (concat (map (spelled zone) more)) in (
      reads_line above text line (reads_as zone above.contents.region above.left line fit.0.says above.lines low) fit.0.passes (omega (arith, short, size)),
      all_follow zone (after_line above text line) more fit.1 (omega (arith, low)) (omega (arith, short, size)),
    )

pub through : (zone : Text) (above : Above) (lines : List Line) → Follow zone above lines → fold with_line above (map (spelled zone) lines) ≡ all_after zone above lines
through zone above [] h = refl
through zone above (line ∷ more) h =
    ap (λ (s : Said). fold with_line (with_said above (spelled zone line) s) (map (spelled zone) more)) h.0
    ∙ through zone (after_line above (spelled zone line) line) more h.1

pub said_again : (zone : Text) (above : Above) (lines : List Line) → Follow zone above lines → say_below above (map (spelled zone) lines) ≡ lines
said_again zone above [] h = refl
said_again zone above (line ∷ more) h =
    ap (λ (s : Said). said_first s (say_below (with_said above (spelled zone line) s) (map (spelled zone) more))) h.0
    ∙ ap (λ (ls : List Line). line ∷ ls) (said_again zone (after_line above (spelled zone line) line) more h.1)

none_at : (zone : Text) (above : Above) (lines : List Line) → Follow zone above lines → (k : ℕ) → k < length (map (spelled zone) lines)
    → reason_of (read_line (fold with_line above (take k (map (spelled zone) lines))) (get_or (map (spelled zone) lines) k [])) ≡ None
none_at zone above [] h k low = absurd (omega (arith, low))
none_at zone above (line ∷ more) h zero low = ap reason_of h.0
none_at zone above (line ∷ more) h (suc k) low =
    ap (λ (s : Said). reason_of (read_line (fold with_line (with_said above (spelled zone line) s) (take k (map (spelled zone) more))) (get_or (map (spelled zone) more) k []))) h.0
    ∙ none_at zone (after_line above (spelled zone line) line) more h.1 k (omega (arith, low))

contents_after : (zone : Text) (above : Above) (lines : List Line) → (all_after zone above lines).contents ≡ fold grown above.contents lines
contents_after zone above [] = refl
contents_after zone above (line ∷ more) = contents_after zone (after_line above (spelled zone line) line) more

left_all : (zone : Text) (above : Above) (lines : List Line) → (all_after zone above lines).left ≡ left_after above.left lines
left_all zone above [] = refl
left_all zone above (line ∷ more) = left_all zone (after_line above (spelled zone line) line) more

counted : (zone : Text) (above : Above) (lines : List Line) → above.lines ≤ (all_after zone above lines).lines
counted zone above [] = omega arith
counted zone above (line ∷ more) = omega (arith, counted zone (after_line above (spelled zone line) line) more)

-- ---- all lines

uncut : (above : Above) → 3 ≤ above.lines → is_closed above.left ≡ true → is_cut above ≡ false
uncut above low closed = neither (nat_lt above.lines 3) (not (is_closed above.left)) (not_under above.lines low) (ap not closed)
  where
    not_under : (n : ℕ) → 3 ≤ n → nat_lt n 3 ≡ false
    not_under n h = grind (arith, nat_tests)

-- the lines pass, and say what they are
pub record AreRead (zone : Text) (lines : List Line) : Type 0 where
  pub passed : ArePassed (map (spelled zone) lines) (length (map (spelled zone) lines) + 1)
  pub contents : (above_of (map (spelled zone) lines)).contents ≡ fold grown no_contents lines
  pub says : say (map (spelled zone) lines) ≡ lines

no_fault : (zone : Text) (lines : List Line) → Follow zone no_lines lines → 3 ≤ (all_after zone no_lines lines).lines → is_closed (left_after Nothing lines) ≡ true
    → (k : ℕ) → k ≤ length (map (spelled zone) lines) → fault_at (map (spelled zone) lines) k ≡ None
unfolding fault_at above_of
no_fault zone lines h low closed k within =
    let texts = map (spelled zone) lines in
    elim (eq-or-lt_of_le within) [
      | inl e ↦
          ap (λ (b : Bool). cond b (reason_of (read_line (fold with_line no_lines (take k texts)) (get_or texts k []))) (fault_at_end (fold with_line no_lines texts))) (not_in k (length texts) e)
          ∙ (ap fault_at_end (through zone no_lines lines h)
          ∙ ap (λ (b : Bool). cond b (Some LineForm) None) (uncut (all_after zone no_lines lines) low (ap is_closed (left_all zone no_lines lines) ∙ closed)))
      | inr l ↦
          ap (λ (b : Bool). cond b (reason_of (read_line (fold with_line no_lines (take k texts)) (get_or texts k []))) (fault_at_end (fold with_line no_lines texts))) (is_in k (length texts) l)
          ∙ none_at zone no_lines lines h k l
    ]
  where
    is_in : (n m : ℕ) → n < m → nat_lt n m ≡ true
    is_in n m h = grind (arith, nat_tests)

    not_in : (n m : ℕ) → n ≡ m → nat_lt n m ≡ false
    not_in n m h = grind (arith, nat_tests)

are_read : (zone : Text) (lines : List Line) → Follow zone no_lines lines → 3 ≤ (all_after zone no_lines lines).lines → is_closed (left_after Nothing lines) ≡ true → AreRead zone lines
unfolding above_of say
are_read zone lines h low closed = record {
  passed = record { passed = λ k within. no_fault zone lines h low closed k (omega (arith, within)) };
  contents = ap (λ (above : Above). above.contents) (through zone no_lines lines h) ∙ contents_after zone no_lines lines;
  says = said_again zone no_lines lines h;
}

-- ---- the first three lines

header_is : header_said (joined (codes "ojp-timetable" ∷ codes "1" ∷ [])) ≡ Ok lines.Header
unfolding same
header_is = refl

header_says : (zone : Text) → said 0 [] Nothing (body (spelled zone lines.Header)) ≡ Ok lines.Header
unfolding said
header_says zone = ap header_said (body_is (joined (codes "ojp-timetable" ∷ codes "1" ∷ []))) ∙ header_is

word_same : (same (codes "region") (codes "region") ≡ true) × (same (codes "zone") (codes "zone") ≡ true)
unfolding same
word_same = (refl, refl)

region_says : (zone region : Text) → is_code region ≡ true → said 1 [] Nothing (body (spelled zone (lines.Region region))) ≡ Ok (lines.Region region)
unfolding said
region_says zone region code =
    ap (λ (t : Text). region_said (fields_of t)) (body_is (joined (codes "region" ∷ region ∷ [])))
    ∙ (ap region_said (fields_back (codes "region") (region ∷ []) refl (code_word region code, tt))
    ∙ (ap (λ (b : Bool). formed b (valued (is_code region) (lines.Region region))) word_same.0 ∙ ap (λ (b : Bool). valued b (lines.Region region)) code))

zone_says : (zone region : Text) (is : Zone) → IsWord zone → zone_of zone ≡ Some is → said 2 region Nothing (body (spelled zone (lines.Zone is))) ≡ Ok (lines.Zone is)
unfolding said
zone_says zone region is word known =
    ap (λ (t : Text). zone_said (fields_of t)) (body_is (joined (codes "zone" ∷ zone ∷ [])))
    ∙ (ap zone_said (fields_back (codes "zone") (zone ∷ []) refl (word, tt))
    ∙ (ap (λ (b : Bool). formed b (zoned (zone_of zone))) word_same.1 ∙ ap zoned known))

-- a head line fails no check
header_passes : (contents : Contents) → Passes contents Nothing lines.Header
unfolding is_foreign is_doubled lacks_stop lacks_service is_falling is_full
header_passes contents = record { own = refl; new = refl; stop = refl; service = refl; times = refl; room = refl }

region_passes : (contents : Contents) (code : Text) → Passes contents Nothing (lines.Region code)
unfolding is_foreign is_doubled lacks_stop lacks_service is_falling is_full
region_passes contents code = record { own = refl; new = refl; stop = refl; service = refl; times = refl; room = refl }

zone_passes : (contents : Contents) (is : Zone) → Passes contents Nothing (lines.Zone is)
unfolding is_foreign is_doubled lacks_stop lacks_service is_falling is_full
zone_passes contents is = record { own = refl; new = refl; stop = refl; service = refl; times = refl; room = refl }

-- the contents below the third line
abbrev pub named_contents : Text → Zone → Contents
named_contents region is = record no_contents { region = region; zone = is }

-- the entries fit below the third line, and leave nothing open
pub read_below : (zone region : Text) (is : Zone) (entries : List Line) → is_code region ≡ true → IsWord zone → zone_of zone ≡ Some is → AllFit zone (named_contents region is) Nothing entries
    → is_closed (left_after Nothing entries) ≡ true → length (concat (map (spelled zone) (lines.Header ∷ lines.Region region ∷ lines.Zone is ∷ entries))) ≤ BYTES
    → AreRead zone (lines.Header ∷ lines.Region region ∷ lines.Zone is ∷ entries)
read_below zone region is entries code word known fit closed short =
    let one = spelled zone lines.Header in
    let two = spelled zone (lines.Region region) in
    let three = spelled zone (lines.Zone is) in
    let rest = concat (map (spelled zone) entries) in
    let first = after_line no_lines one lines.Header in
    let second = after_line first two (lines.Region region) in
    let third = after_line second three (lines.Zone is) in
    let size1 = length-append one (two ++ three ++ rest) in
    let size2 = length-append two (three ++ rest) in
    let size3 = length-append three rest in
    are_read zone (lines.Header ∷ lines.Region region ∷ lines.Zone is ∷ entries) (
      reads_line no_lines one lines.Header (header_says zone) (header_passes no_contents) (omega (arith, short, size1, size2, size3)),
      (
        reads_line first two (lines.Region region) (region_says zone region code) (region_passes first.contents region) (omega (arith, short, size1, size2, size3)),
        (
          reads_line second three (lines.Zone is) (zone_says zone region is word known) (zone_passes second.contents is) (omega (arith, short, size1, size2, size3)),
          all_follow zone third entries fit (omega arith) (omega (arith, short, size1, size2, size3)),
        ),
      ),
    )
    (counted zone third entries) closed

-- each line ends with its only line feed
ends_from : (zone : Text) (contents : Contents) (left : Open) (entries : List Line) → AllFit zone contents left entries → Each EndsOnce (map (spelled zone) entries)
ends_from zone contents left [] fit = tt
ends_from zone contents left (line ∷ more) fit = ((joined (fields_spelled zone line), fit.0.one, refl), ends_from zone (grown contents line) (left_open line) more fit.1)

pub ends_below : (zone region : Text) (is : Zone) (entries : List Line) → is_code region ≡ true → IsWord zone → AllFit zone (named_contents region is) Nothing entries
    → Each EndsOnce (map (spelled zone) (lines.Header ∷ lines.Region region ∷ lines.Zone is ∷ entries))
ends_below zone region is entries code word fit = (
  (joined (codes "ojp-timetable" ∷ codes "1" ∷ []), refl, refl),
  (
    (joined (codes "region" ∷ region ∷ []), joined_line (codes "region") (region ∷ []) refl (word_line region (code_word region code), tt), refl),
    (
      (joined (codes "zone" ∷ zone ∷ []), joined_line (codes "zone") (zone ∷ []) refl (word_line zone word, tt), refl),
      ends_from zone (named_contents region is) Nothing entries fit,
    ),
  ),
)
