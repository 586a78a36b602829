-- What was read can be spelled.
use Rattle.std.proofs.Common.{◌≡◌, ◌≢◌, ◌⊎◌, inl, inr, ℕ, zero, suc, ◌+◌, ◌-◌, ◌<◌, ◌≤◌, Bool, true, false, not, ◌&&◌, ◌||◌, ◌==◌, cond, nat_lt, true≢false, List, [], ◌∷◌, ◌++◌, length, take, refl, sym, ◌∙◌, ap, subst, arith, fold}
use Rattle.std.specs.Prelude.{Some, None, Ok, Err, slice_index}
use Rattle.std.specs.List.{list_any, onto_first, slice_split}
use Rattle.std.proofs.lemmas.Bool.{and_from, eqb-true}
use Rattle.std.proofs.lemmas.Bool.Decides.{nat_tests}
use Rattle.ojp_values.specs.Lists.{Among, Each}
use Rattle.ojp_values.specs.Texts.{Text, code_part, is_code, is_exchange, is_label, same}
use Rattle.ojp_values.specs.declared.trips.Neighbour.{Neighbour}
use Rattle.ojp_values.specs.declared.trips.Point.{Point}
use Rattle.ojp_values.proofs.Escapes.{and_true_left, and_true_right}
use Rattle.ojp_values.proofs.ListFacts.{each_at}
use Rattle.ojp_zones.specs.Parts.{parts}
use Rattle.ojp_zones.specs.Zones.{zone_of}
use Rattle.ojp_zones.specs.declared.zone.Zone.{Zone}
use Rattle.ojp_timetable.specs.Checks.{is_cut, is_doubled, is_foreign, is_stop_elsewhere, read_line}
use Rattle.ojp_timetable.specs.Contents.{has_journey, has_place, has_service, points_with, with_call, with_point}
use Rattle.ojp_timetable.specs.Fields.{body, fields_of}
use Rattle.ojp_timetable.specs.Lines.{Above, after_line, new_point, no_lines}
use Rattle.ojp_timetable.specs.Runs.{IsWell}
use Rattle.ojp_timetable.specs.Said.{Said, is_closed}
use Rattle.ojp_timetable.specs.TableText.{IsText, above_of, fault_at, lines_of, with_line, with_said}
use Rattle.ojp_timetable.specs.Tables.{Journey, Place, Service, Timetable}
use Rattle.ojp_timetable.specs.declared.file.lines.Line.{Line}
use Rattle.ojp_timetable.specs.declared.file.lines.Line.TheVariants as lines
use Rattle.ojp_timetable.specs.declared.calls.Call.{Call}
use Rattle.ojp_timetable.specs.declared.file.lines.TableReason.TheVariants.{LineForm}
use Rattle.ojp_timetable.proofs.AmongFacts.{each_push}
use Rattle.ojp_timetable.proofs.ListFacts.{each_fails, each_insert}
use Rattle.ojp_timetable.proofs.PassFacts.{fault_at-end}
use Rattle.ojp_timetable.proofs.PointOrder.{each_gains}
use Rattle.ojp_timetable.proofs.TextFacts.{differ_is, same_is}
use Rattle.ojp_texts.specs.Spelled.{CanBeSpelled, HaveOwn, IsNamed, TextsCanBeSpelled, is_word_byte}
use Rattle.ojp_texts.proofs.Spelling.{body_is}
use Rattle.ojp_texts.proofs.Told.{Holds, SaidHolds, line_holds}
use Rattle.ojp_texts.proofs.Words.{IsLine, IsWord}

-- ---- a line that was read has one line feed at most, at its end

take_line : (n : ℕ) (text : Text) → IsLine text → IsLine (take n text)
take_line zero text h = refl
take_line (suc n) [] h = refl
take_line (suc n) (b ∷ text) h = and_from _ _ (and_true_left _ _ h) (take_line n text (and_true_right _ _ h))

either_line : (b : Bool) (x y : Text) → IsLine x → IsLine y → IsLine (cond b x y)
either_line true x y h k = h
either_line false x y h k = k

-- the text has no line feed, or ends with its only one
abbrev EndsAtMost : Text → Type 0
EndsAtMost line = IsLine line ⊎ ((text : Text) × IsLine text × (line ≡ text ++ 10 ∷ []))

body_line : (line : Text) → EndsAtMost line → IsLine (body line)
unfolding body
body_line line (inl h) = either_line (slice_index line (length line - 1) == 10) (take (length line - 1) line) line (take_line (length line - 1) line h) h
body_line line (inr (text, h, e)) = subst (λ (t : Text). IsLine t) (sym (ap body e ∙ body_is text)) h

longer : (b : ℕ) (lines : List Text) → not (b == 10) ≡ true → Each EndsAtMost lines → Each EndsAtMost (onto_first b lines)
longer b [] h each = (inl (and_from _ _ h refl), tt)
longer b (line ∷ lines) h (inl k, each) = (inl (and_from _ _ h k), each)
longer b (line ∷ lines) h (inr (text, k, e), each) = (inr (b ∷ text, and_from _ _ h k, ap (λ (t : Text). b ∷ t) e), each)

feed_first : (b : ℕ) (lines : List Text) (c : Bool) → (b == 10) ≡ c → Each EndsAtMost lines → Each EndsAtMost (cond c ((b ∷ []) ∷ lines) (onto_first b lines))
feed_first b lines true e each = (inr ([], refl, ap (λ (n : ℕ). n ∷ []) (eqb-true b 10 e)), each)
feed_first b lines false e each = longer b lines (ap not e) each

all_end : (bytes : Text) → Each EndsAtMost (lines_of bytes)
unfolding lines_of
all_end [] = tt
all_end (b ∷ bytes) = feed_first b (lines_of bytes) (b == 10) refl (all_end bytes)

-- ---- its fields are words

abbrev AreWords : List Text → Type 0
AreWords fields = Each (λ (field : Text). IsWord field) fields

longer_words : (b : ℕ) (fields : List Text) → is_word_byte b ≡ true → AreWords fields → AreWords (onto_first b fields)
longer_words b [] h each = (and_from _ _ h refl, tt)
longer_words b (field ∷ fields) h each = (and_from _ _ h each.0, each.1)

space_first : (b : ℕ) (fields : List Text) (c : Bool) → (b == 32) ≡ c → not (b == 10) ≡ true → AreWords fields → AreWords (cond c ([] ∷ fields) (onto_first b fields))
space_first b fields true e h each = (refl, each)
space_first b fields false e h each = longer_words b fields (and_from _ _ h (ap not e)) each

split_words : (text : Text) → IsLine text → AreWords (slice_split (λ b. b == 32) text)
split_words [] h = (refl, tt)
split_words (b ∷ text) h = space_first b (slice_split (λ c. c == 32) text) (b == 32) refl (and_true_left _ _ h) (split_words text (and_true_right _ _ h))

fields_words : (text : Text) → IsLine text → AreWords (fields_of text)
unfolding parts
fields_words text h = split_words text h

-- ---- what lines that were read keep

abbrev HasZone : Above → Type 0
HasZone above = (zone : Text) × IsWord zone × (zone_of zone ≡ Some above.contents.zone)

abbrev HaveCodes : Point → Type 0
HaveCodes point = Each (λ (neighbour : Neighbour). is_code neighbour.code ≡ true) point.neighbours

record Keeps (above : Above) : Type 0 where
  region : 2 ≤ above.lines → is_code above.contents.region ≡ true
  zone : 3 ≤ above.lines → HasZone above
  none : above.lines < 3 → above.contents.places ≡ []
  places : Each (IsNamed above.contents.region) above.contents.places
  own_stops : HaveOwn (λ (place : Place). place.stop) above.contents.places
  neighbours : Each HaveCodes above.contents.points
  services : Each (λ (service : Service). is_label service.id ≡ true) above.contents.services
  own_services : HaveOwn (λ (service : Service). service.id) above.contents.services
  journeys : Each (λ (journey : Journey). (is_label journey.id ≡ true) × (is_label journey.line ≡ true)) above.contents.journeys

own_push : {X : Type 0} (key : X → Text) (xs : List X) (x : X) → HaveOwn key xs → list_any (λ (y : X). same (key x) (key y)) xs ≡ false → HaveOwn key (xs ++ x ∷ [])
own_push {X} key xs x own new = push xs own (each_fails (λ (y : X). same (key x) (key y)) xs new)
  where
    push : (ys : List X) → HaveOwn key ys → Each (λ (y : X). same (key x) (key y) ≡ false) ys → HaveOwn key (ys ++ x ∷ [])
    push [] o n = (tt, tt)
    push (y ∷ ys) o n = (each_push (λ (z : X). key y ≢ key z) ys x o.0 (λ e. differ_is (key x) (key y) n.0 (sym e)), push ys o.1 n.1)

not_strange : (region : Text) (stop : Text) → is_stop_elsewhere region stop ≡ false → (is_exchange stop ≡ true) ⊎ (code_part stop ≡ region)
not_strange region stop h = by_tests (is_exchange stop) (same (code_part stop) region) refl refl h
  where
    by_tests : (a b : Bool) → is_exchange stop ≡ a → same (code_part stop) region ≡ b → not a && not b ≡ false → (is_exchange stop ≡ true) ⊎ (code_part stop ≡ region)
    by_tests true b e f k = inl e
    by_tests false true e f k = inr (same_is (code_part stop) region f)
    by_tests false false e f k = absurd (true≢false k)

point_codes : (points : List Point) (region stop : Text) (change : ℕ) (b : Bool) → Each HaveCodes points → Each HaveCodes (cond b (with_point points (new_point region stop change)) points)
point_codes points region stop change true h = each_insert HaveCodes points _ (new_point region stop change) tt h
point_codes points region stop change false h = h

neighbour_codes : (points : List Point) (stop : Text) (neighbour : Neighbour) → is_code neighbour.code ≡ true → Each HaveCodes points → Each HaveCodes (points_with points stop neighbour)
neighbour_codes points stop neighbour code h =
    each_gains HaveCodes (λ neighbours. Unit {0}) stop neighbour points (λ point q p. each_insert (λ (n : Neighbour). is_code n.code ≡ true) point.neighbours _ neighbour code p) tt h

with_call_keeps : (journeys : List Journey) (call : Call) → Each (λ (journey : Journey). (is_label journey.id ≡ true) × (is_label journey.line ≡ true)) journeys
    → Each (λ (journey : Journey). (is_label journey.id ≡ true) × (is_label journey.line ≡ true)) (with_call journeys call)
with_call_keeps [] call h = tt
with_call_keeps (j ∷ []) call h = (h.0, tt)
with_call_keeps (j ∷ next ∷ more) call h = (h.0, with_call_keeps (next ∷ more) call h.1)

no_places : (region other : Text) (places : List Place) → places ≡ [] → Each (IsNamed region) places → Each (IsNamed other) places
no_places region other places e h = subst (λ (ps : List Place). Each (IsNamed other) ps) (sym e) tt

zone_word : (above : Above) (text zone : Text) → EndsAtMost text → Among zone (fields_of (body text)) → IsWord zone
zone_word above text zone ends among = each_at (λ (field : Text). IsWord field) zone (fields_of (body text)) (fields_words (body text) (body_line text ends)) among

line_keeps : (above : Above) (text : Text) (line : Line) → EndsAtMost text → Holds above text line → Keeps above → Keeps (after_line above text line)
unfolding is_doubled is_foreign has_place has_service has_journey
line_keeps above text lines.Header ends h k = record {
  region = λ low. absurd (omega (arith, low, h.told));
  zone = λ low. absurd (omega (arith, low, h.told));
  none = λ few. k.none (omega (arith, h.told));
  places = k.places;
  own_stops = k.own_stops;
  neighbours = k.neighbours;
  services = k.services;
  own_services = k.own_services;
  journeys = k.journeys;
}
line_keeps above text (lines.Region code) ends h k = record {
  region = λ low. h.told.1;
  zone = λ low. absurd (omega (arith, low, h.told.0));
  none = λ few. k.none (omega (arith, h.told.0));
  places = no_places above.contents.region code above.contents.places (k.none (omega (arith, h.told.0))) k.places;
  own_stops = k.own_stops;
  neighbours = k.neighbours;
  services = k.services;
  own_services = k.own_services;
  journeys = k.journeys;
}
line_keeps above text (lines.Zone is) ends h k = record {
  region = λ low. k.region (omega (arith, h.told.0));
  zone = λ low. (h.told.1, zone_word above text h.told.1 ends h.told.2, h.told.3);
  none = λ few. absurd (omega (arith, few, h.told.0));
  places = k.places;
  own_stops = k.own_stops;
  neighbours = k.neighbours;
  services = k.services;
  own_services = k.own_services;
  journeys = k.journeys;
}
line_keeps above text (lines.Place stop change name) ends h k =
    let place : Place = record { stop = stop; change = change; name = name } in
    record {
      region = λ low. k.region (omega (arith, h.told.0));
      zone = λ low. k.zone h.told.0;
      none = λ few. absurd (omega (arith, few, h.told.0));
      places = each_push (IsNamed above.contents.region) above.contents.places place k.places (h.told.1, h.told.2, not_strange above.contents.region stop h.own);
      own_stops = own_push (λ (p : Place). p.stop) above.contents.places place k.own_stops h.new;
      neighbours = point_codes above.contents.points above.contents.region stop change (is_exchange stop) k.neighbours;
      services = k.services;
      own_services = k.own_services;
      journeys = k.journeys;
    }
line_keeps above text (lines.Neighbour stop neighbour) ends h k = record {
  region = λ low. k.region (omega (arith, h.told.0));
  zone = λ low. k.zone h.told.0;
  none = λ few. absurd (omega (arith, few, h.told.0));
  places = k.places;
  own_stops = k.own_stops;
  neighbours = neighbour_codes above.contents.points stop neighbour h.told.1 k.neighbours;
  services = k.services;
  own_services = k.own_services;
  journeys = k.journeys;
}
line_keeps above text (lines.Service id dates) ends h k =
    let service : Service = record { id = id; first = dates.first; last = dates.last; marks = dates.marks } in
    record {
      region = λ low. k.region (omega (arith, h.told.0));
      zone = λ low. k.zone h.told.0;
      none = λ few. absurd (omega (arith, few, h.told.0));
      places = k.places;
      own_stops = k.own_stops;
      neighbours = k.neighbours;
      services = each_push (λ (s : Service). is_label s.id ≡ true) above.contents.services service k.services h.told.1;
      own_services = own_push (λ (s : Service). s.id) above.contents.services service k.own_services h.new;
      journeys = k.journeys;
    }
line_keeps above text (lines.Journey id service line) ends h k = record {
  region = λ low. k.region (omega (arith, h.told.0));
  zone = λ low. k.zone h.told.0;
  none = λ few. absurd (omega (arith, few, h.told.0));
  places = k.places;
  own_stops = k.own_stops;
  neighbours = k.neighbours;
  services = k.services;
  own_services = k.own_services;
  journeys = each_push (λ (journey : Journey). (is_label journey.id ≡ true) × (is_label journey.line ≡ true)) above.contents.journeys _ k.journeys (h.told.1, h.told.2);
}
line_keeps above text (lines.Call call) ends h k = record {
  region = λ low. k.region (omega (arith, h.told));
  zone = λ low. k.zone h.told;
  none = λ few. absurd (omega (arith, few, h.told));
  places = k.places;
  own_stops = k.own_stops;
  neighbours = k.neighbours;
  services = k.services;
  own_services = k.own_services;
  journeys = with_call_keeps above.contents.journeys call k.journeys;
}

said_keeps : (above : Above) (text : Text) (s : Said) → EndsAtMost text → SaidHolds above text s → Keeps above → Keeps (with_said above text s)
said_keeps above text (Ok line) ends h k = line_keeps above text line ends h k
said_keeps above text (Err reason) ends h k = k

all_keep : (lines : List Text) (above : Above) → Each EndsAtMost lines → Keeps above → Keeps (fold with_line above lines)
all_keep [] above ends k = k
all_keep (line ∷ lines) above ends k = all_keep lines (with_line above line) ends.1 (said_keeps above line (read_line above line) ends.0 (line_holds above line) k)

none_keeps : Keeps no_lines
none_keeps = record {
  region = λ low. absurd (omega (arith, low));
  zone = λ low. absurd (omega (arith, low));
  none = λ few. refl;
  places = tt;
  own_stops = tt;
  neighbours = tt;
  services = tt;
  own_services = tt;
  journeys = tt;
}

lines_keep : (bytes : Text) → Keeps (above_of (lines_of bytes))
unfolding above_of
lines_keep bytes = all_keep (lines_of bytes) no_lines (all_end bytes) none_keeps

-- ---- a text has at least three lines

uncut_lines : (above : Above) (b : Bool) → is_cut above ≡ b → cond b (Some LineForm) None ≡ None → 3 ≤ above.lines
uncut_lines above true e h = absurd (cc h)
uncut_lines above false e h = by_test (nat_lt above.lines 3) refl e
  where
    not_under : (n : ℕ) → nat_lt n 3 ≡ false → 3 ≤ n
    not_under n h = grind (arith, nat_tests)

    by_test : (c : Bool) → nat_lt above.lines 3 ≡ c → (c || not (is_closed above.left)) ≡ false → 3 ≤ above.lines
    by_test true f k = absurd (true≢false k)
    by_test false f k = not_under above.lines f

three_lines : (bytes : Text) (table : Timetable) → IsText bytes table → 3 ≤ (above_of (lines_of bytes)).lines
three_lines bytes table text =
    let lines = lines_of bytes in
    uncut_lines (above_of lines) (is_cut (above_of lines)) refl
    (sym (fault_at-end lines (length lines) (omega arith)) ∙ text.passed.passed (length lines) (omega arith))

pub texts_can_be_spelled : TextsCanBeSpelled
texts_can_be_spelled bytes table text well =
    let above = above_of (lines_of bytes) in
    let low = three_lines bytes table text in
    let k = lines_keep bytes in
    let zone = k.zone low in
    subst (λ (t : Timetable). (spelling : Text) × (is : Zone) × CanBeSpelled t spelling is) (sym text.makes) (
      zone.0,
      above.contents.zone,
      record {
        well = subst IsWell text.makes well;
        region = k.region (omega (arith, low));
        places = k.places;
        own_stops = k.own_stops;
        neighbours = k.neighbours;
        services = k.services;
        own_services = k.own_services;
        journeys = k.journeys;
        word = zone.1;
        zone_is = zone.2;
        noons = text.noons;
      },
    )
