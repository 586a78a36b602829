-- A spelled line is read as what it spells.
use Rattle.std.proofs.Common.{◌≡◌, ℕ, ◌+◌, ◌<◌, ◌≤◌, ◌^◌, Bool, true, false, not, ◌||◌, ◌==◌, cond, true≢false, List, [], ◌∷◌, ◌++◌, length, refl, sym, ◌∙◌, ap, arith}
use Rattle.std.specs.Prelude.{Option, Some, None, IsSome, Ok, Err, codes}
use Rattle.std.specs.List.{list_all}
use Rattle.std.specs.Fmt.{decimal}
use Rattle.std.proofs.lemmas.Bool.{and_from, eqb-true, le-leb, or_right}
use Rattle.ojp_values.specs.Dates.{day_text}
use Rattle.ojp_values.specs.Numbers.{is_plain, number}
use Rattle.ojp_values.proofs.Numerals.{number_of, plain_of}
use Rattle.ojp_values.specs.Texts.{Text, is_code, is_exchange, is_label, is_name, is_stop_ref, same}
use Rattle.ojp_values.specs.declared.moments.TheConstants.{FIRST_DAY, LAST_DAY}
use Rattle.ojp_values.specs.declared.trips.Neighbour.{Neighbour}
use Rattle.ojp_zones.specs.Numbers.{is_number}
use Rattle.ojp_zones.proofs.NumberFacts.{numbers_are_decimal}
use Rattle.ojp_zones.proofs.PartsFacts.{parts-nonempty}
use Rattle.ojp_timetable.specs.Fields.{body, fields_of, joined}
use Rattle.ojp_timetable.specs.Runs.{AreDays, IsOffset}
use Rattle.ojp_timetable.specs.Said.{Said, are_marks, day_of, entry_fields, entry_said, formed, is_closed, is_dash, is_mark, is_offset, is_place, marks_of, may_call, offset, place_fields, place_said, said, service_days, valued, word_fields, word_of}
use Rattle.ojp_timetable.specs.WellContents.{GoesOnFrom}
use Rattle.ojp_timetable.specs.declared.calls.Call.{Call}
use Rattle.ojp_timetable.specs.declared.file.lines.Dates.{Dates}
use Rattle.ojp_timetable.specs.declared.file.lines.Line.{Line}
use Rattle.ojp_timetable.specs.declared.file.lines.Line.TheVariants as lines
use Rattle.ojp_timetable.specs.declared.file.lines.Open.{Open}
use Rattle.ojp_timetable.specs.declared.file.lines.Open.TheVariants.{Nothing, Begun, Since}
use Rattle.ojp_timetable.specs.declared.file.lines.TableReason.TheVariants.{Value}
use Rattle.ojp_timetable.specs.declared.file.words.Word.{Word}
use Rattle.ojp_timetable.specs.declared.file.words.Word.TheVariants as words
use Rattle.ojp_timetable.proofs.DayFacts.{days_are_spelled, one_reading}
use Rattle.ojp_timetable.proofs.TextFacts.{is_differ}
use Rattle.ojp_lines.specs.Lines.{marks_text, place_word, time_text}
use Rattle.ojp_texts.specs.Spelled.{fields_spelled, spelled}
use Rattle.ojp_texts.proofs.Spelling.{body_is, fields_back, fields_front, joined_back}
use Rattle.ojp_texts.proofs.Words.{IsWord, code_word, day_word, decimal_word, label_word, marks_word, stop_word}

-- ---- a line below the third

last_of : (a b c : Bool) (w x y z : Said) → a ≡ false → b ≡ false → c ≡ false → cond a w (cond b x (cond c y z)) ≡ z
last_of false false false w x y z h k l = refl
last_of true b c w x y z h k l = absurd (true≢false h)
last_of false true c w x y z h k l = absurd (true≢false k)
last_of false false true w x y z h k l = absurd (true≢false l)

not_at : (above n : ℕ) → n < above → (above == n) ≡ false
not_at above n h = by_test (above == n) refl
  where
    by_test : (b : Bool) → (above == n) ≡ b → (above == n) ≡ false
    by_test true e = absurd (omega (arith, h, eqb-true above n e))
    by_test false e = e

below_third : (above : ℕ) (region : Text) (left : Open) (text : Text) → 3 ≤ above → said above region left text ≡ entry_said region left (fields_of text)
unfolding said
below_third above region left text h =
    last_of (above == 0) (above == 1) (above == 2) _ _ _ _ (not_at above 0 (omega (arith, h))) (not_at above 1 (omega (arith, h))) (not_at above 2 (omega (arith, h)))

valued_is : (b : Bool) (line : Line) → b ≡ true → valued b line ≡ Ok line
valued_is b line e = ap (λ (c : Bool). valued c line) e

formed_is : (b : Bool) (next : Said) → b ≡ true → formed b next ≡ next
formed_is b next e = ap (λ (c : Bool). formed c next) e

-- ---- numbers

pub decimal_in : (low high n : ℕ) → high < 2 ^ 32 → low ≤ n → n ≤ high → is_number low high (decimal n) ≡ true
decimal_in low high n bound from to = (numbers_are_decimal low high (decimal n) bound).1 (n, from, to, refl, number_of n (omega (arith, to, bound)))

pub number_is : (n : ℕ) → n < 2 ^ 32 → number (decimal n) ≡ n
number_is n small = number_of n (omega (arith, small))

not_dash : (n : ℕ) → n < 2 ^ 32 → is_dash (decimal n) ≡ false
not_dash n small = is_differ (decimal n) (45 ∷ [])
    (λ e. true≢false (sym (sym (ap is_plain e) ∙ plain_of n (omega (arith, small)))))

-- ---- places

place_fields_is : (shared : Bool) (stop change : Text) (name : List Text) → (name ≡ [] → ⊥) → place_fields shared (stop ∷ change ∷ name) ≡ place_said shared stop change (joined name)
place_fields_is shared stop change [] h = absurd (h refl)
place_fields_is shared stop change (n ∷ ame) h = refl

word_is : (region : Text) (left : Open) (text : Text) (word : Word) (fields : List Text) → word_of text ≡ Some word → entry_fields region left (word_of text) fields ≡ word_fields region left word fields
unfolding entry_fields
word_is region left text word fields e = ap (λ (o : Option Word). entry_fields region left o fields) e

place_words : (b : Bool) → word_of (cond b (codes "exchange") (codes "stop")) ≡ Some (cond b words.Exchange words.Stop)
unfolding word_of same
place_words true = refl
place_words false = refl

place_at : (region : Text) (left : Open) (b : Bool) (fields : List Text) → word_fields region left (cond b words.Exchange words.Stop) fields ≡ formed (is_closed left) (place_fields b fields)
place_at region left true fields = refl
place_at region left false fields = refl

is_its_place : (b : Bool) (stop : Text) → is_exchange stop ≡ b → is_stop_ref stop ≡ true → is_place b stop ≡ true
is_its_place true stop e h = and_from _ _ h e
is_its_place false stop e h = and_from _ _ h (ap not e)

pub place_reads : (region : Text) (left : Open) (stop : Text) (change : ℕ) (name : Text) → is_closed left ≡ true → is_stop_ref stop ≡ true → 1 ≤ change → change ≤ 7200 → is_name name ≡ true
    → entry_said region left (fields_of (joined (place_word stop ∷ stop ∷ decimal change ∷ name ∷ []))) ≡ Ok (lines.Place stop change name)
place_reads region left stop change name closed ref from to named =
    let shared = is_exchange stop in
    let rest = stop ++ 32 ∷ (decimal change ++ 32 ∷ name) in
    let front = fields_front (place_word stop) rest (word_word shared) in
    let next = fields_front stop (decimal change ++ 32 ∷ name) (stop_word stop ref) in
    let last = fields_front (decimal change) name (decimal_word change (omega (arith, to))) in
    ap (entry_said region left) (front ∙ ap (λ (fs : List Text). place_word stop ∷ fs) (next ∙ ap (λ (fs : List Text). stop ∷ fs) last))
    ∙ (word_is region left (place_word stop) (cond shared words.Exchange words.Stop) (stop ∷ decimal change ∷ fields_of name) (place_words shared)
    ∙ (place_at region left shared (stop ∷ decimal change ∷ fields_of name)
    ∙ (formed_is (is_closed left) _ closed
    ∙ (place_fields_is shared stop (decimal change) (fields_of name) (parts-nonempty 32 name)
    ∙ (ap (place_said shared stop (decimal change)) (joined_back name)
    ∙ (valued_is _ _ (and_from _ _ (and_from _ _ (is_its_place shared stop refl ref) (decimal_in 1 7200 change (omega arith) from to)) named)
    ∙ ap (λ (n : ℕ). Ok (lines.Place stop n name)) (number_is change (omega (arith, to)))))))))
  where
    word_word : (b : Bool) → IsWord (cond b (codes "exchange") (codes "stop"))
    word_word true = refl
    word_word false = refl

-- ---- neighbours, services and journeys

neighbour_word : word_of (codes "neighbour") ≡ Some words.Neighbour
unfolding word_of same
neighbour_word = refl

pub neighbour_reads : (region : Text) (left : Open) (stop : Text) (neighbour : Neighbour) → is_closed left ≡ true → is_stop_ref stop ≡ true → is_code neighbour.code ≡ true
    → same neighbour.code region ≡ false → 1 ≤ neighbour.change → neighbour.change ≤ 7200
    → entry_said region left (fields_of (joined (codes "neighbour" ∷ stop ∷ neighbour.code ∷ decimal neighbour.change ∷ []))) ≡ Ok (lines.Neighbour stop neighbour)
neighbour_reads region left stop neighbour closed ref code other from to =
    let fields = stop ∷ neighbour.code ∷ decimal neighbour.change ∷ [] in
    ap (entry_said region left) (fields_back (codes "neighbour") fields refl (stop_word stop ref, (code_word neighbour.code code, (decimal_word neighbour.change (omega (arith, to)), tt))))
    ∙ (word_is region left (codes "neighbour") words.Neighbour fields neighbour_word
    ∙ (formed_is (is_closed left) _ closed
    ∙ (valued_is _ _ (and_from _ _ (and_from _ _ (and_from _ _ ref code) (ap not other)) (decimal_in 1 7200 neighbour.change (omega arith) from to))
    ∙ ap (λ (n : ℕ). Ok (lines.Neighbour stop (record { code = neighbour.code; change = n }))) (number_is neighbour.change (omega (arith, to))))))

pub day_is : (day : ℕ) → FIRST_DAY ≤ day → day ≤ LAST_DAY → day_of (day_text day) ≡ Some day
day_is day from to = one_reading (day_text day) (day_of (day_text day)) (Some day) (days_are_spelled (day_text day)) ((from, to), refl)

marks_pass : (marks : List Bool) → list_all is_mark (marks_text marks) ≡ true
marks_pass [] = refl
marks_pass (true ∷ marks) = marks_pass marks
marks_pass (false ∷ marks) = marks_pass marks

marks_back : (marks : List Bool) → marks_of (marks_text marks) ≡ marks
marks_back [] = refl
marks_back (true ∷ marks) = ap (λ (ms : List Bool). true ∷ ms) (marks_back marks)
marks_back (false ∷ marks) = ap (λ (ms : List Bool). false ∷ ms) (marks_back marks)

marks_length : (marks : List Bool) → length (marks_text marks) ≡ length marks
marks_length [] = refl
marks_length (m ∷ marks) = omega (arith, marks_length marks)

marks_well : (marks : List Bool) → length marks ≡ 7 → are_marks (marks_text marks) ≡ true
marks_well marks size = and_from _ _ (ap (λ (n : ℕ). n == 7) (marks_length marks ∙ size)) (marks_pass marks)

service_word : word_of (codes "service") ≡ Some words.Service
unfolding word_of same
service_word = refl

pub service_reads : (region : Text) (left : Open) (id : Text) (dates : Dates) → is_closed left ≡ true → is_label id ≡ true → AreDays dates.first dates.last dates.marks
    → entry_said region left (fields_of (joined (codes "service" ∷ id ∷ day_text dates.first ∷ day_text dates.last ∷ marks_text dates.marks ∷ []))) ≡ Ok (lines.Service id dates)
service_reads region left id dates closed label (from, goes_on, to, size) =
    let fields = id ∷ day_text dates.first ∷ day_text dates.last ∷ marks_text dates.marks ∷ [] in
    ap (entry_said region left) (fields_back (codes "service") fields refl (label_word id label, (day_word dates.first, (day_word dates.last, (marks_word dates.marks, tt)))))
    ∙ (word_is region left (codes "service") words.Service fields service_word
    ∙ (formed_is (is_closed left) _ closed
    ∙ (ap (λ (b : Bool). cond b (service_days id (day_of (day_text dates.first)) (day_of (day_text dates.last)) (marks_text dates.marks)) (Err Value)) label
    ∙ (ap (λ (o : Option ℕ). service_days id o (day_of (day_text dates.last)) (marks_text dates.marks)) (day_is dates.first from (omega (arith, goes_on, to)))
    ∙ (ap (λ (o : Option ℕ). service_days id (Some dates.first) o (marks_text dates.marks)) (day_is dates.last (omega (arith, from, goes_on)) to)
    ∙ (valued_is _ _ (and_from _ _ (marks_well dates.marks size) (le-leb dates.first dates.last goes_on))
    ∙ ap (λ (ms : List Bool). Ok (lines.Service id (record { first = dates.first; last = dates.last; marks = ms }))) (marks_back dates.marks)))))))

journey_word : word_of (codes "journey") ≡ Some words.Journey
unfolding word_of same
journey_word = refl

pub journey_reads : (region : Text) (left : Open) (id service line : Text) → is_closed left ≡ true → is_label id ≡ true → is_label service ≡ true → is_label line ≡ true
    → entry_said region left (fields_of (joined (codes "journey" ∷ id ∷ service ∷ line ∷ []))) ≡ Ok (lines.Journey id service line)
journey_reads region left id service line closed h k l =
    let fields = id ∷ service ∷ line ∷ [] in
    ap (entry_said region left) (fields_back (codes "journey") fields refl (label_word id h, (label_word service k, (label_word line l, tt))))
    ∙ (word_is region left (codes "journey") words.Journey fields journey_word
    ∙ (formed_is (is_closed left) _ closed ∙ valued_is _ _ (and_from _ _ (and_from _ _ h k) l)))

-- ---- calls

time_dash : (time : Option ℕ) → IsOffset time → IsSome time → is_dash (time_text time) ≡ false
time_dash None h k = absurd (true≢false (sym k))
time_dash (Some n) h k = not_dash n (omega (arith, h))

time_word : (time : Option ℕ) → IsOffset time → IsWord (time_text time)
time_word None h = refl
time_word (Some n) h = decimal_word n (omega (arith, h))

dash_is : is_dash (codes "-") ≡ true
unfolding same
dash_is = refl

time_is_offset : (time : Option ℕ) → IsOffset time → is_offset (time_text time) ≡ true
unfolding is_offset
time_is_offset None h = ap (λ (b : Bool). b || is_number 0 129600 (codes "-")) dash_is
time_is_offset (Some n) h = or_right (is_dash (decimal n)) _ (decimal_in 0 129600 n (omega arith) (omega arith) h)

pub offset_is : (time : Option ℕ) → IsOffset time → offset (time_text time) ≡ time
unfolding offset
offset_is None h = ap (λ (b : Bool). cond b None (Some (number (codes "-")))) dash_is
offset_is (Some n) h =
    ap (λ (b : Bool). cond b None (Some (number (decimal n)))) (not_dash n (omega (arith, h)))
    ∙ ap Some (number_is n (omega (arith, h)))

calls_on : (left : Open) (call : Call) → IsOffset call.arrives → IsOffset call.departs → GoesOnFrom left call → may_call left (time_text call.arrives) (time_text call.departs) ≡ true
calls_on Nothing call a d h = absurd h
calls_on Begun call a d h = and_from _ _ (ap (λ (t : Option ℕ). is_dash (time_text t)) h.0 ∙ dash_is) (ap not (time_dash call.departs d h.1))
calls_on (Since t) call a d h = ap not (time_dash call.arrives a h)

call_word : word_of (codes "call") ≡ Some words.Call
unfolding word_of same
call_word = refl

pub call_reads : (region : Text) (left : Open) (call : Call) → is_stop_ref call.stop ≡ true → IsOffset call.arrives → IsOffset call.departs → GoesOnFrom left call
    → entry_said region left (fields_of (joined (codes "call" ∷ call.stop ∷ time_text call.arrives ∷ time_text call.departs ∷ []))) ≡ Ok (lines.Call call)
call_reads region left call ref a d goes =
    let fields = call.stop ∷ time_text call.arrives ∷ time_text call.departs ∷ [] in
    ap (entry_said region left) (fields_back (codes "call") fields refl (stop_word call.stop ref, (time_word call.arrives a, (time_word call.departs d, tt))))
    ∙ (word_is region left (codes "call") words.Call fields call_word
    ∙ (formed_is (may_call left (time_text call.arrives) (time_text call.departs)) _ (calls_on left call a d goes)
    ∙ (valued_is _ _ (and_from _ _ (and_from _ _ ref (time_is_offset call.arrives a)) (time_is_offset call.departs d))
    ∙ (ap (λ (t : Option ℕ). Ok (lines.Call (record { stop = call.stop; arrives = t; departs = offset (time_text call.departs) }))) (offset_is call.arrives a)
    ∙ ap (λ (t : Option ℕ). Ok (lines.Call (record { stop = call.stop; arrives = call.arrives; departs = t }))) (offset_is call.departs d)))))

-- ---- what is read of the line

pub reads_as : (zone region : Text) (left : Open) (line : Line) → entry_said region left (fields_of (joined (fields_spelled zone line))) ≡ Ok line
    → (above : ℕ) → 3 ≤ above → said above region left (body (spelled zone line)) ≡ Ok line
reads_as zone region left line h above low =
    ap (said above region left) (body_is (joined (fields_spelled zone line))) ∙ (below_third above region left (joined (fields_spelled zone line)) low ∙ h)
