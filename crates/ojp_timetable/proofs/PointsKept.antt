-- Lines that say something keep the exchange points well.
use Rattle.std.proofs.Common.{◌≡◌, ◌≢◌, ℕ, ◌<◌, ◌≤◌, Bool, true, false, not, ◌&&◌, ◌||◌, ◌==◌, cond, nat_le, length, List, [], ◌∷◌, ◌++◌, refl, sym, ◌∙◌, ap, subst, arith, true≢false, fold}
use Rattle.std.specs.Prelude.{Option, Some, None, Ok, Err, codes}
use Rattle.std.specs.List.{list_any}
use Rattle.std.proofs.lemmas.Bool.Decides.{nat_tests}
use Rattle.ojp_values.specs.Limits.{IsChange, IsWellPoint}
use Rattle.ojp_values.specs.Lists.{Among, Each}
use Rattle.ojp_values.specs.Texts.{Text, same, is_code, is_exchange, is_label, is_name, is_stop_ref}
use Rattle.ojp_values.specs.declared.trips.Point.{Point}
use Rattle.ojp_values.specs.declared.trips.Neighbour.{Neighbour}
use Rattle.ojp_zones.specs.Numbers.{is_number}
use Rattle.ojp_zones.specs.Zones.{zone_of}
use Rattle.ojp_zones.specs.declared.zone.Zone.{Zone}
use Rattle.ojp_timetable.specs.Tables.{Place}
use Rattle.ojp_timetable.specs.Contents.{has_place, neighbours_at, point_at, points_with, with_point}
use Rattle.ojp_timetable.specs.Fields.{body, fields_of, joined}
use Rattle.ojp_timetable.specs.Lines.{Above, after_line, grown, new_point, no_lines}
use Rattle.ojp_timetable.specs.Points.{AreWellPoints, IsPointOf}
use Rattle.ojp_timetable.specs.Said.{Said, call_fields, day_of, entry_fields, entry_said, formed, header_said, journey_fields, may_call, is_place, neighbour_fields, place_fields, region_said, said, service_days, service_fields, valued, word_fields, word_of, zone_said, zoned, is_closed, call_said}
use Rattle.ojp_timetable.specs.Checks.{checked, first_failing, has_neighbour, is_doubled, is_foreign, is_long, is_falling, is_full, lacks_service, lacks_stop, read_line, verdict}
use Rattle.ojp_timetable.specs.TableText.{above_of, with_line, with_said}
use Rattle.ojp_timetable.specs.declared.file.lines.Line.{Line}
use Rattle.ojp_timetable.specs.declared.file.lines.Line.TheVariants as lines
use Rattle.ojp_timetable.specs.declared.file.lines.Open.{Open}
use Rattle.ojp_timetable.specs.declared.file.lines.TableReason.{TableReason}
use Rattle.ojp_timetable.specs.declared.file.lines.TableReason.TheVariants.{DoubledName, ForeignStop, LineForm, UnknownStop, UnknownService, FallingTimes, Limit, Value}
use Rattle.ojp_timetable.specs.declared.file.words.Word.{Word}
use Rattle.ojp_timetable.specs.declared.file.words.Word.TheVariants as words
use Rattle.ojp_timetable.proofs.AmongFacts.{among_last, among_left, any_false, or_false}
use Rattle.ojp_timetable.proofs.ListFacts.{each_insert, each_map}
use Rattle.ojp_timetable.proofs.PointLimits.{length-points_with, length-with_point, lt_told, new_bounded, number_between, points_bounded}
use Rattle.ojp_timetable.proofs.PointOrder.{each_with, points_keep, points_rise, rise_with}
use Rattle.ojp_timetable.proofs.TextFacts.{differ_is}

-- ---- what a line says by its form

-- the region is named in line 2, places stand below it, a neighbour is another region, and a change takes 1 to 7,200 seconds
abbrev Suits : ℕ → Text → Line → Type 0
Suits above region (lines.Region code) = above < 2
Suits above region (lines.Place stop change name) = (2 ≤ above) × IsChange change
Suits above region (lines.Neighbour stop neighbour) = (neighbour.code ≢ region) × IsChange neighbour.change
Suits above region _ = Unit {0}

abbrev SaidSuits : ℕ → Text → Said → Type 0
SaidSuits above region (Ok line) = Suits above region line
SaidSuits above region (Err reason) = Unit {0}

valued_suits : (above : ℕ) (region : Text) (b : Bool) (line : Line) → (b ≡ true → Suits above region line) → SaidSuits above region (valued b line)
valued_suits above region true line h = h refl
valued_suits above region false line h = tt

either_suits : (above : ℕ) (region : Text) (b : Bool) (x y : Said) → (b ≡ true → SaidSuits above region x) → (b ≡ false → SaidSuits above region y) → SaidSuits above region (cond b x y)
either_suits above region true x y h k = h refl
either_suits above region false x y h k = k refl

formed_suits : (above : ℕ) (region : Text) (b : Bool) (x : Said) → SaidSuits above region x → SaidSuits above region (formed b x)
formed_suits above region true x h = h
formed_suits above region false x h = tt

middle : (a b c : Bool) → a && b && c ≡ true → b ≡ true
middle true true c h = refl
middle true false c h = absurd (true≢false (sym h))
middle false b c h = absurd (true≢false (sym h))

place_suits : (above : ℕ) (region : Text) → 2 ≤ above → (shared : Bool) (fields : List Text) → SaidSuits above region (place_fields shared fields)
place_suits above region h shared [] = tt
place_suits above region h shared (stop ∷ []) = tt
place_suits above region h shared (stop ∷ change ∷ []) = tt
place_suits above region h shared (stop ∷ change ∷ n ∷ ame) =
    valued_suits above region _ _
    (λ e. (h, number_between 1 7200 change (middle (is_place shared stop) (is_number 1 7200 change) (is_name (joined (n ∷ ame))) e)))

another : (a b c d : Bool) → a && b && not c && d ≡ true → (c ≡ false) × (d ≡ true)
another true true false true h = (refl, refl)
another true true false false h = absurd (true≢false (sym h))
another true true true d h = absurd (true≢false (sym h))
another true false c d h = absurd (true≢false (sym h))
another false b c d h = absurd (true≢false (sym h))

neighbour_suits : (above : ℕ) (region : Text) (fields : List Text) → SaidSuits above region (neighbour_fields region fields)
neighbour_suits above region [] = tt
neighbour_suits above region (stop ∷ []) = tt
neighbour_suits above region (stop ∷ code ∷ []) = tt
neighbour_suits above region (stop ∷ code ∷ change ∷ []) =
    valued_suits above region _ _
    (λ e. let told = another (is_stop_ref stop) (is_code code) (same code region) (is_number 1 7200 change) e in
    (differ_is code region told.0, number_between 1 7200 change told.1))
neighbour_suits above region (stop ∷ code ∷ change ∷ more ∷ fields) = tt

days_suit : (above : ℕ) (region id : Text) (first last : Option ℕ) (marks : Text) → SaidSuits above region (service_days id first last marks)
days_suit above region id None None marks = tt
days_suit above region id None (Some last) marks = tt
days_suit above region id (Some first) None marks = tt
days_suit above region id (Some first) (Some last) marks = valued_suits above region _ _ (λ e. tt)

service_suits : (above : ℕ) (region : Text) (fields : List Text) → SaidSuits above region (service_fields fields)
service_suits above region [] = tt
service_suits above region (id ∷ []) = tt
service_suits above region (id ∷ first ∷ []) = tt
service_suits above region (id ∷ first ∷ last ∷ []) = tt
service_suits above region (id ∷ first ∷ last ∷ marks ∷ []) =
    either_suits above region (is_label id) (service_days id (day_of first) (day_of last) marks) (Err Value) (λ e. days_suit above region id (day_of first) (day_of last) marks) (λ e. tt)
service_suits above region (id ∷ first ∷ last ∷ marks ∷ more ∷ fields) = tt

journey_suits : (above : ℕ) (region : Text) (fields : List Text) → SaidSuits above region (journey_fields fields)
journey_suits above region [] = tt
journey_suits above region (id ∷ []) = tt
journey_suits above region (id ∷ service ∷ []) = tt
journey_suits above region (id ∷ service ∷ line ∷ []) = valued_suits above region _ _ (λ e. tt)
journey_suits above region (id ∷ service ∷ line ∷ more ∷ fields) = tt

call_suits : (above : ℕ) (region : Text) (left : Open) (fields : List Text) → SaidSuits above region (call_fields left fields)
call_suits above region left [] = tt
call_suits above region left (stop ∷ []) = tt
call_suits above region left (stop ∷ arrives ∷ []) = tt
call_suits above region left (stop ∷ arrives ∷ departs ∷ []) =
    formed_suits above region (may_call left arrives departs) (call_said stop arrives departs) (valued_suits above region _ _ (λ e. tt))
call_suits above region left (stop ∷ arrives ∷ departs ∷ more ∷ fields) = tt

word_suits : (above : ℕ) (region : Text) (left : Open) → 2 ≤ above → (word : Word) (fields : List Text) → SaidSuits above region (word_fields region left word fields)
word_suits above region left h words.Call fields = call_suits above region left fields
word_suits above region left h words.Journey fields = formed_suits above region (is_closed left) (journey_fields fields) (journey_suits above region fields)
word_suits above region left h words.Stop fields = formed_suits above region (is_closed left) (place_fields false fields) (place_suits above region h false fields)
word_suits above region left h words.Exchange fields = formed_suits above region (is_closed left) (place_fields true fields) (place_suits above region h true fields)
word_suits above region left h words.Neighbour fields = formed_suits above region (is_closed left) (neighbour_fields region fields) (neighbour_suits above region fields)
word_suits above region left h words.Service fields = formed_suits above region (is_closed left) (service_fields fields) (service_suits above region fields)

known_suits : (above : ℕ) (region : Text) (left : Open) → 2 ≤ above → (word : Option Word) (fields : List Text) → SaidSuits above region (entry_fields region left word fields)
unfolding entry_fields
known_suits above region left h None fields = tt
known_suits above region left h (Some word) fields = word_suits above region left h word fields

entry_suits : (above : ℕ) (region : Text) (left : Open) → 2 ≤ above → (fields : List Text) → SaidSuits above region (entry_said region left fields)
entry_suits above region left h [] = tt
entry_suits above region left h (word ∷ fields) = known_suits above region left h (word_of word) fields

region_suits : (above : ℕ) (region : Text) → above < 2 → (fields : List Text) → SaidSuits above region (region_said fields)
region_suits above region h [] = tt
region_suits above region h (word ∷ []) = tt
region_suits above region h (word ∷ code ∷ []) =
    formed_suits above region (same word (codes "region")) (valued (is_code code) (lines.Region code)) (valued_suits above region (is_code code) (lines.Region code) (λ e. h))
region_suits above region h (word ∷ code ∷ more ∷ fields) = tt

zoned_suits : (above : ℕ) (region : Text) (zone : Option Zone) → SaidSuits above region (zoned zone)
zoned_suits above region None = tt
zoned_suits above region (Some zone) = tt

zone_suits : (above : ℕ) (region : Text) (fields : List Text) → SaidSuits above region (zone_said fields)
zone_suits above region [] = tt
zone_suits above region (word ∷ []) = tt
zone_suits above region (word ∷ zone ∷ []) = formed_suits above region (same word (codes "zone")) (zoned (zone_of zone)) (zoned_suits above region (zone_of zone))
zone_suits above region (word ∷ zone ∷ more ∷ fields) = tt

header_suits : (above : ℕ) (region text : Text) → SaidSuits above region (header_said text)
header_suits above region text = either_suits above region (same text (codes "ojp-timetable 1")) (Ok lines.Header) (Err LineForm) (λ e. tt) (λ e. tt)

is_one : (n : ℕ) → (n == 1) ≡ true → n < 2
is_one n h = grind (arith, nat_tests)

is_later : (n : ℕ) → (n == 0) ≡ false → (n == 1) ≡ false → 2 ≤ n
is_later n h k = grind (arith, nat_tests)

said_suits : (above : ℕ) (region : Text) (left : Open) (text : Text) → SaidSuits above region (said above region left text)
unfolding said
said_suits above region left text =
    let rest : Said = cond (above == 2) (zone_said (fields_of text)) (entry_said region left (fields_of text)) in
    either_suits above region (above == 0) (header_said text) (cond (above == 1) (region_said (fields_of text)) rest) (λ e. header_suits above region text)
    (λ e. either_suits above region (above == 1) (region_said (fields_of text)) rest (λ f. region_suits above region (is_one above f) (fields_of text))
    (λ f. either_suits above region (above == 2) (zone_said (fields_of text)) (entry_said region left (fields_of text)) (λ g. zone_suits above region (fields_of text))
    (λ g. entry_suits above region left (is_later above e f) (fields_of text))))

-- ---- what a line says that passes

record Takes (above : Above) (line : Line) : Type 0 where
  suits : Suits above.lines above.contents.region line
  new : is_doubled above.contents line ≡ false
  room : is_full above.contents line ≡ false

abbrev SaidTakes : Above → Said → Type 0
SaidTakes above (Ok line) = Takes above line
SaidTakes above (Err reason) = Unit {0}

-- where no check fails, the last two do not
has_room : (stop service falls full long : Bool) → first_failing ((stop, UnknownStop) ∷ (service, UnknownService) ∷ (falls, FallingTimes) ∷ (full || long, Limit) ∷ []) ≡ None → full ≡ false
has_room false false false false long h = refl
has_room false false false true long h = absurd (cc)
has_room false false true full long h = absurd (cc)
has_room false true falls full long h = absurd (cc)
has_room true service falls full long h = absurd (cc)

verdict_takes : (above : Above) (line : Line) (foreign doubled : Bool) (rest : Option TableReason) → is_doubled above.contents line ≡ doubled → (rest ≡ None → is_full above.contents line ≡ false)
    → Suits above.lines above.contents.region line → SaidTakes above (verdict line (cond foreign (Some ForeignStop) (cond doubled (Some DoubledName) rest)))
verdict_takes above line true doubled rest e room suits = tt
verdict_takes above line false true rest e room suits = tt
verdict_takes above line false false None e room suits = record { suits = suits; new = e; room = room refl }
verdict_takes above line false false (Some reason) e room suits = tt

checked_takes : (above : Above) (text : Text) (said : Said) → SaidSuits above.lines above.contents.region said → SaidTakes above (checked above text said)
checked_takes above text (Err reason) h = tt
checked_takes above text (Ok line) h =
    verdict_takes above line (is_foreign above.contents line) (is_doubled above.contents line)
    (first_failing
    ((lacks_stop above.contents line, UnknownStop)
    ∷ (lacks_service above.contents line, UnknownService)
    ∷ (is_falling above.left line, FallingTimes)
    ∷ (is_full above.contents line || is_long above text, Limit)
    ∷ []))
    refl (has_room (lacks_stop above.contents line) (lacks_service above.contents line) (is_falling above.left line) (is_full above.contents line) (is_long above text)) h

line_takes : (above : Above) (text : Text) → SaidTakes above (read_line above text)
unfolding read_line
line_takes above text = checked_takes above text (said above.lines above.contents.region above.left (body text)) (said_suits above.lines above.contents.region above.left (body text))

-- ---- the points

abbrev IsListed : List Place → Point → Type 0
IsListed places point = (place : Place) × Among place places × (place.stop ≡ point.stop)

-- the points are well, each stands among the places, and there is none before the region is named
record KeepsPoints (above : Above) : Type 0 where
  points : AreWellPoints above.contents.region above.contents.points
  listed : Each (IsListed above.contents.places) above.contents.points
  fresh : above.lines < 2 → above.contents.points ≡ []

no_points : (region : Text) (points : List Point) → points ≡ [] → AreWellPoints region points
no_points region points e = subst (AreWellPoints region) (sym e) (record { few = omega arith; each = tt; bounded = tt; rising = tt })

still_listed : (places more : List Place) (points : List Point) → Each (IsListed places) points → Each (IsListed (places ++ more)) points
still_listed places more points h = each_map (IsListed places) (IsListed (places ++ more)) (λ point l. (l.0, among_left l.0 places more l.1, l.2)) points h

new_stop : (places : List Place) (stop : Text) (points : List Point) → list_any (λ (place : Place). same stop place.stop) places ≡ false → Each (IsListed places) points
    → Each (λ (point : Point). same stop point.stop ≡ false) points
new_stop places stop points new h =
    each_map (IsListed places) (λ (point : Point). same stop point.stop ≡ false)
    (λ point l. ap (same stop) (sym l.2) ∙ any_false (λ (place : Place). same stop place.stop) l.0 places new l.1) points h

place_points : (region stop : Text) (change : ℕ) (points : List Point) (b : Bool) → is_exchange stop ≡ b → IsChange change → b && nat_le 255 (length points) ≡ false
    → Each (λ (point : Point). same stop point.stop ≡ false) points → AreWellPoints region points → AreWellPoints region (cond b (with_point points (new_point region stop change)) points)
place_points region stop change points true e lasts room new w = record {
  few =
      let below = lt_told 255 (length points) room in
      omega (arith, below, length-with_point points (new_point region stop change));
  each = each_insert (IsPointOf region) points _ (new_point region stop change) (record { of_region = refl; exchange = e; rising = tt; others = tt }) w.each;
  bounded = each_insert IsWellPoint points _ (new_point region stop change) (new_bounded region stop change lasts) w.bounded;
  rising = points_rise (new_point region stop change) points new w.rising;
}
place_points region stop change points false e lasts room new w = w

place_listed : (places : List Place) (points : List Point) (added : Point) (b : Bool) → IsListed places added → Each (IsListed places) points → Each (IsListed places) (cond b (with_point points added) points)
place_listed places points added true is h = each_insert (IsListed places) points _ added is h
place_listed places points added false is h = h

place_keeps : (above : Above) (text stop : Text) (change : ℕ) (name : Text) → KeepsPoints above → Takes above (lines.Place stop change name) → KeepsPoints (after_line above text (lines.Place stop change name))
unfolding is_doubled has_place is_full
place_keeps above text stop change name k t =
    let place : Place = record { stop = stop; change = change; name = name } in
    let contents = above.contents in
    record {
      points = place_points contents.region stop change contents.points (is_exchange stop) refl t.suits.1
          (or_false (nat_le 5000 (length contents.places)) (is_exchange stop && nat_le 255 (length contents.points)) t.room).1
          (new_stop contents.places stop contents.points t.new k.listed) k.points;
      listed = place_listed (contents.places ++ place ∷ []) contents.points (new_point contents.region stop change) (is_exchange stop) (place, among_last contents.places place, refl)
          (still_listed contents.places (place ∷ []) contents.points k.listed);
      fresh = λ h. absurd (omega (arith, t.suits.0, h));
    }

no_more : (points : List Point) (stop : Text) (neighbour : Neighbour) → points ≡ [] → points_with points stop neighbour ≡ []
no_more points stop neighbour e = ap (λ (ps : List Point). points_with ps stop neighbour) e

neighbour_keeps : (above : Above) (text stop : Text) (neighbour : Neighbour) → KeepsPoints above → Takes above (lines.Neighbour stop neighbour) → KeepsPoints (after_line above text (lines.Neighbour stop neighbour))
unfolding is_doubled has_neighbour neighbours_at point_at is_full
neighbour_keeps above text stop neighbour k t =
    let contents = above.contents in
    record {
      points = record {
        few = omega (arith, k.points.few, length-points_with stop neighbour contents.points);
        each = points_keep contents.region stop neighbour contents.points t.suits.0 t.new k.points.each;
        bounded = points_bounded stop neighbour contents.points t.suits.1 (lt_told 31 _ t.room) k.points.bounded;
        rising = rise_with stop neighbour contents.points k.points.rising;
      };
      listed = each_with (IsListed contents.places) (λ point n l. l) stop neighbour contents.points k.listed;
      fresh = λ h. no_more contents.points stop neighbour (k.fresh (omega arith));
    }

-- a line that says nothing of points
others_keep : (above : Above) (text : Text) (line : Line) → (grown above.contents line).region ≡ above.contents.region → (grown above.contents line).places ≡ above.contents.places
    → (grown above.contents line).points ≡ above.contents.points → KeepsPoints above → KeepsPoints (after_line above text line)
others_keep above text line r p q k = record {
  points = subst (λ (region : Text). AreWellPoints region (grown above.contents line).points) (sym r) (subst (AreWellPoints above.contents.region) (sym q) k.points);
  listed = subst (λ (places : List Place). Each (IsListed places) (grown above.contents line).points) (sym p) (subst (Each (IsListed above.contents.places)) (sym q) k.listed);
  fresh = λ h. q ∙ k.fresh (omega arith);
}

line_keeps : (above : Above) (text : Text) (line : Line) → KeepsPoints above → Takes above line → KeepsPoints (after_line above text line)
line_keeps above text lines.Header k t = others_keep above text lines.Header refl refl refl k
line_keeps above text (lines.Region code) k t = record {
  points = no_points code above.contents.points (k.fresh t.suits);
  listed = k.listed;
  fresh = λ h. k.fresh (omega arith);
}
line_keeps above text (lines.Zone zone) k t = others_keep above text (lines.Zone zone) refl refl refl k
line_keeps above text (lines.Place stop change name) k t = place_keeps above text stop change name k t
line_keeps above text (lines.Neighbour stop neighbour) k t = neighbour_keeps above text stop neighbour k t
line_keeps above text (lines.Service id dates) k t = others_keep above text (lines.Service id dates) refl refl refl k
line_keeps above text (lines.Journey id service line) k t = others_keep above text (lines.Journey id service line) refl refl refl k
line_keeps above text (lines.Call call) k t = others_keep above text (lines.Call call) refl refl refl k

said_keeps : (above : Above) (text : Text) (said : Said) → KeepsPoints above → SaidTakes above said → KeepsPoints (with_said above text said)
said_keeps above text (Ok line) k t = line_keeps above text line k t
said_keeps above text (Err reason) k t = k

lines_keep : (lines : List Text) (above : Above) → KeepsPoints above → KeepsPoints (fold with_line above lines)
lines_keep [] above k = k
lines_keep (line ∷ lines) above k = lines_keep lines (with_line above line) (said_keeps above line (read_line above line) k (line_takes above line))

-- the points that all lines of a text declare
pub points_of_lines : (lines : List Text) → AreWellPoints (above_of lines).contents.region (above_of lines).contents.points
unfolding above_of
points_of_lines lines = (lines_keep lines no_lines (record { points = record { few = omega arith; each = tt; bounded = tt; rising = tt }; listed = tt; fresh = λ h. refl })).points
