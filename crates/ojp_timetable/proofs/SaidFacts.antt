-- What lines declare is what they say, one after another.
use Rattle.std.proofs.Common.{◌≡◌, ℕ, suc, ◌+◌, ◌<◌, Bool, true, false, not, ◌||◌, cond, true≢false, nat_lt, List, [], ◌∷◌, ◌++◌, length, fold, refl, sym, ◌∙◌, ap, subst, arith, inl, inr, append_assoc, append-nil, length-append}
use Rattle.std.specs.Prelude.{Option, Some, None, Ok, Err, position, unwrap_or}
use Rattle.std.specs.List.{list_any, prefix_len}
use Rattle.std.proofs.Math.Dec.{eqb}
use Rattle.std.proofs.lemmas.Bool.{lt-ltb, eqb-true, cases_Bool}
use Rattle.std.proofs.lemmas.List.Folds.{prefix_len-append}
use Rattle.ojp_values.proofs.ListFacts.{among_list_any}
use Rattle.ojp_values.specs.Lists.{Among}
use Rattle.ojp_values.specs.Texts.{Text, same}
use Rattle.ojp_timetable.specs.Tables.{Call, Journey, Place, Service, Timetable}
use Rattle.ojp_timetable.specs.Contents.{Contents, has_journey, has_place, has_service, service_number, with_call}
use Rattle.ojp_timetable.specs.Lines.{Above, after_line, grown, no_lines}
use Rattle.ojp_timetable.specs.Said.{Said, said}
use Rattle.ojp_timetable.specs.Fields.{body}
use Rattle.ojp_timetable.specs.Checks.{checked, checks, first_failing, is_doubled, is_falling, is_foreign, is_full, is_long, lacks_service, lacks_stop, read_line, verdict}
use Rattle.ojp_timetable.specs.TableText.{above_of, lines_of, with_line, with_said}
use Rattle.ojp_timetable.specs.SaidLines.{AboveIsAsSaid, TablesAreAsSaid, calls_behind, journeys_said, number_among, places_said, said_first, say, say_below, services_said}
use Rattle.ojp_timetable.specs.declared.file.lines.Dates.{Dates}
use Rattle.ojp_timetable.specs.declared.file.lines.Line.{Line}
use Rattle.ojp_timetable.specs.declared.file.lines.Line.TheVariants as lines
use Rattle.ojp_timetable.specs.declared.file.lines.TableReason.{TableReason}
use Rattle.ojp_timetable.specs.declared.file.lines.TableReason.TheVariants.{ForeignStop, DoubledName, UnknownStop, UnknownService, FallingTimes, Limit}
use Rattle.ojp_timetable.proofs.AmongFacts.{any_true}
use Rattle.ojp_timetable.proofs.TextFacts.{same_is, same_itself}

-- ---- places and services

place_more : (contents : Contents) (line : Line) (more : List Line) → (grown contents line).places ++ places_said more ≡ contents.places ++ places_said (line ∷ more)
place_more contents lines.Header more = refl
place_more contents (lines.Region code) more = refl
place_more contents (lines.Zone zone) more = refl
place_more contents (lines.Place stop change name) more = append_assoc contents.places (record { stop = stop; change = change; name = name } ∷ []) (places_said more)
place_more contents (lines.Neighbour stop neighbour) more = refl
place_more contents (lines.Service id dates) more = refl
place_more contents (lines.Journey id service line) more = refl
place_more contents (lines.Call call) more = refl

places_from : (above : Above) (texts : List Text) → (fold with_line above texts).contents.places ≡ above.contents.places ++ places_said (say_below above texts)
places_from above [] = sym (append-nil above.contents.places)
places_from above (text ∷ texts) = step (λ next. places_from next texts) (read_line above text)
  where
    step : ((next : Above) → (fold with_line next texts).contents.places ≡ next.contents.places ++ places_said (say_below next texts)) → (s : Said)
        → (fold with_line (with_said above text s) texts).contents.places ≡ above.contents.places ++ places_said (said_first s (say_below (with_said above text s) texts))
    step later (Err reason) = later above
    step later (Ok line) = later (after_line above text line) ∙ place_more above.contents line (say_below (after_line above text line) texts)

service_more : (contents : Contents) (line : Line) (more : List Line) → (grown contents line).services ++ services_said more ≡ contents.services ++ services_said (line ∷ more)
service_more contents lines.Header more = refl
service_more contents (lines.Region code) more = refl
service_more contents (lines.Zone zone) more = refl
service_more contents (lines.Place stop change name) more = refl
service_more contents (lines.Neighbour stop neighbour) more = refl
service_more contents (lines.Service id dates) more =
    append_assoc contents.services (record { id = id; first = dates.first; last = dates.last; marks = dates.marks } ∷ []) (services_said more)
service_more contents (lines.Journey id service line) more = refl
service_more contents (lines.Call call) more = refl

services_from : (above : Above) (texts : List Text) → (fold with_line above texts).contents.services ≡ above.contents.services ++ services_said (say_below above texts)
services_from above [] = sym (append-nil above.contents.services)
services_from above (text ∷ texts) = step (λ next. services_from next texts) (read_line above text)
  where
    step : ((next : Above) → (fold with_line next texts).contents.services ≡ next.contents.services ++ services_said (say_below next texts)) → (s : Said)
        → (fold with_line (with_said above text s) texts).contents.services ≡ above.contents.services ++ services_said (said_first s (say_below (with_said above text s) texts))
    step later (Err reason) = later above
    step later (Ok line) = later (after_line above text line) ∙ service_more above.contents line (say_below (after_line above text line) texts)

-- ---- the number of a service that stands above

found_within : {X : Type 0} (p : X → Bool) (xs : List X) → list_any p xs ≡ true → prefix_len (λ (x : X). not (p x)) xs < length xs
found_within p [] h = absurd (true≢false (sym h))
found_within {X} p (x ∷ xs) h = step (p x) (list_any p xs) (prefix_len (λ (x : X). not (p x)) xs) (length xs) (found_within p xs) h
  where
    step : (b any : Bool) (m n : ℕ) → (any ≡ true → m < n) → (b || any) ≡ true → cond (not b) (1 + m) 0 < suc n
    step true any m n ih h = omega arith
    step false any m n ih h = omega (arith, ih h)

is_some_at : (k n : ℕ) → k < n → cond (nat_lt k n) (Some k) None ≡ Some k
is_some_at k n h = ap (λ (b : Bool). cond b (Some k) None) (lt-ltb k n h)

not_at : (k n : ℕ) → k < n → eqb k n ≡ false
not_at k n h = elim (cases_Bool (eqb k n)) [ inl e ↦ absurd (omega (arith, h, eqb-true k n e)) | inr e ↦ e ]

position-more : {X : Type 0} (p : X → Bool) (xs ys : List X) → list_any p xs ≡ true → position p (xs ++ ys) ≡ position p xs
position-more {X} p xs ys h =
    let q : X → Bool = λ x. not (p x) in
    let low = found_within p xs h in
    let same_place : prefix_len q (xs ++ ys) ≡ prefix_len q xs =
    prefix_len-append q xs ys ∙ ap (λ (b : Bool). cond b (length xs + prefix_len q ys) (prefix_len q xs)) (not_at _ _ low) in
    is_some_at _ _ (omega (arith, same_place, low, length-append xs ys)) ∙ (ap Some same_place ∙ sym (is_some_at _ _ low))

-- ---- the calls of journeys

with_calls : List Journey → List Call → List Journey
with_calls journeys calls = fold with_call journeys calls

with_call-last : (journeys : List Journey) (journey : Journey) (call : Call) → with_call (journeys ++ journey ∷ []) call ≡ journeys ++ record journey { calls = journey.calls ++ call ∷ [] } ∷ []
with_call-last [] journey call = refl
with_call-last (x ∷ []) journey call = refl
with_call-last (x ∷ y ∷ more) journey call = ap (λ (js : List Journey). x ∷ js) (with_call-last (y ∷ more) journey call)

with_calls-last : (journeys : List Journey) (journey : Journey) (calls : List Call) → fold with_call (journeys ++ journey ∷ []) calls ≡ journeys ++ record journey { calls = journey.calls ++ calls } ∷ []
with_calls-last journeys journey [] = ap (λ (cs : List Call). journeys ++ record journey { calls = cs } ∷ []) (sym (append-nil journey.calls))
with_calls-last journeys journey (call ∷ calls) =
    ap (λ (js : List Journey). fold with_call js calls) (with_call-last journeys journey call)
    ∙ (with_calls-last journeys (record journey { calls = journey.calls ++ call ∷ [] }) calls
    ∙ ap (λ (cs : List Call). journeys ++ record journey { calls = cs } ∷ []) (append_assoc journey.calls (call ∷ []) calls))

with_calls-none : (calls : List Call) → fold with_call [] calls ≡ []
with_calls-none [] = refl
with_calls-none (call ∷ calls) = with_calls-none calls

-- ---- a journey line that passes names a service that stands above

known_by : (a b c d e f : Bool) (r s t u v w : TableReason) → first_failing ((a, r) ∷ (b, s) ∷ (c, t) ∷ (d, u) ∷ (e, v) ∷ (f, w) ∷ []) ≡ None → d ≡ false
known_by true b c d e f r s t u v w h = absurd (cc h)
known_by false true c d e f r s t u v w h = absurd (cc h)
known_by false false true d e f r s t u v w h = absurd (cc h)
known_by false false false true e f r s t u v w h = absurd (cc h)
known_by false false false false e f r s t u v w h = refl

verdict_passes : (line given : Line) (failing : Option TableReason) → verdict line failing ≡ Ok given → (line ≡ given) × (failing ≡ None)
verdict_passes line given None h = (cc, refl)
verdict_passes line given (Some reason) h = absurd (cc h)

has_its_service : (above : Above) (text : Text) (line : Line) → read_line above text ≡ Ok line → lacks_service above.contents line ≡ false
unfolding read_line
has_its_service above text line h = by_said (said above.lines above.contents.region above.left (body text)) h
  where
    by_said : (s : Said) → checked above text s ≡ Ok line → lacks_service above.contents line ≡ false
    by_said (Err reason) e = absurd (cc e)
    by_said (Ok given) e =
        let passes = verdict_passes given line (first_failing (checks above.contents above.left (is_long above text) given)) e in
        subst (λ (l : Line). lacks_service above.contents l ≡ false) passes.0
        (known_by (is_foreign above.contents given) (is_doubled above.contents given) (lacks_stop above.contents given) (lacks_service above.contents given)
        (is_falling above.left given) (is_full above.contents given || is_long above text) ForeignStop DoubledName UnknownStop UnknownService FallingTimes Limit passes.1)

not_false : (b : Bool) → not b ≡ false → b ≡ true
not_false true h = refl
not_false false h = absurd (true≢false h)

number_stays : (contents : Contents) (id service line : Text) (more : List Service) → lacks_service contents (lines.Journey id service line) ≡ false
    → unwrap_or (service_number contents service) 0 ≡ number_among (contents.services ++ more) service
unfolding lacks_service has_service service_number
number_stays contents id service line more h =
    ap (λ (n : Option ℕ). unwrap_or n 0) (sym (position-more (λ (s : Service). same service s.id) contents.services more (not_false _ h)))

-- ---- journeys

journeys_from : (above : Above) (texts : List Text) (all : List Service) → all ≡ above.contents.services ++ services_said (say_below above texts)
    → (fold with_line above texts).contents.journeys ≡ fold with_call above.contents.journeys (calls_behind (say_below above texts)) ++ journeys_said all (say_below above texts)
journeys_from above [] all h = sym (append-nil above.contents.journeys)
journeys_from above (text ∷ texts) all h = step (λ next e. journeys_from next texts all e) (read_line above text) refl h
  where
    by_line : (line : Line) → lacks_service above.contents line ≡ false → all ≡ above.contents.services ++ services_said (line ∷ say_below (after_line above text line) texts)
        → fold with_call (grown above.contents line).journeys (calls_behind (say_below (after_line above text line) texts)) ++ journeys_said all (say_below (after_line above text line) texts)
        ≡ fold with_call above.contents.journeys (calls_behind (line ∷ say_below (after_line above text line) texts)) ++ journeys_said all (line ∷ say_below (after_line above text line) texts)
    by_line lines.Header k e = refl
    by_line (lines.Region code) k e = refl
    by_line (lines.Zone zone) k e = refl
    by_line (lines.Place stop change name) k e = refl
    by_line (lines.Neighbour stop neighbour) k e = refl
    by_line (lines.Service id dates) k e = refl
    by_line (lines.Call call) k e = refl
    by_line (lines.Journey id service line) k e =
        let more = say_below (after_line above text (lines.Journey id service line)) texts in
        let number = number_stays above.contents id service line (services_said more) k ∙ ap (λ (ss : List Service). number_among ss service) (sym e) in
        let front = with_calls-last above.contents.journeys (record { id = id; line = line; service = unwrap_or (service_number above.contents service) 0; calls = [] }) (calls_behind more) in
        ap (λ (js : List Journey). js ++ journeys_said all more) front
        ∙ (append_assoc above.contents.journeys (record { id = id; line = line; service = unwrap_or (service_number above.contents service) 0; calls = calls_behind more } ∷ []) (journeys_said all more)
        ∙ ap (λ (n : ℕ). above.contents.journeys ++ record { id = id; line = line; service = n; calls = calls_behind more } ∷ journeys_said all more) number)

    step : ((next : Above) → all ≡ next.contents.services ++ services_said (say_below next texts)
        → (fold with_line next texts).contents.journeys ≡ fold with_call next.contents.journeys (calls_behind (say_below next texts)) ++ journeys_said all (say_below next texts))
        → (s : Said) → read_line above text ≡ s → all ≡ above.contents.services ++ services_said (said_first s (say_below (with_said above text s) texts))
        → (fold with_line (with_said above text s) texts).contents.journeys
        ≡ fold with_call above.contents.journeys (calls_behind (said_first s (say_below (with_said above text s) texts))) ++ journeys_said all (said_first s (say_below (with_said above text s) texts))
    step later (Err reason) is e = later above e
    step later (Ok line) is e =
        later (after_line above text line) (e ∙ sym (service_more above.contents line (say_below (after_line above text line) texts)))
        ∙ by_line line (has_its_service above text line is) e

-- ---- the laws

contents_places : (texts : List Text) → (above_of texts).contents.places ≡ places_said (say texts)
unfolding above_of say
contents_places texts = places_from no_lines texts

contents_services : (texts : List Text) → (above_of texts).contents.services ≡ services_said (say texts)
unfolding above_of say
contents_services texts = services_from no_lines texts

contents_journeys : (texts : List Text) → (above_of texts).contents.journeys ≡ journeys_said (services_said (say texts)) (say texts)
unfolding above_of say
contents_journeys texts =
    journeys_from no_lines texts (services_said (say_below no_lines texts)) refl
    ∙ ap (λ (js : List Journey). js ++ journeys_said (services_said (say_below no_lines texts)) (say_below no_lines texts)) (with_calls-none (calls_behind (say_below no_lines texts)))

pub tables_are_as_said : TablesAreAsSaid
tables_are_as_said bytes table h = record {
  places = ap (λ (t : Timetable). t.places) h.makes ∙ contents_places (lines_of bytes);
  services = ap (λ (t : Timetable). t.services) h.makes ∙ contents_services (lines_of bytes);
  journeys = ap (λ (t : Timetable). t.journeys) h.makes ∙ contents_journeys (lines_of bytes);
}

-- ---- what stands above was declared by a line

abbrev says_place : Text → Line → Bool
says_place stop (lines.Place other change name) = same stop other
says_place stop _ = false

any_place : (stop : Text) (said : List Line) → list_any (λ (place : Place). same stop place.stop) (places_said said) ≡ list_any (says_place stop) said
any_place stop [] = refl
any_place stop (lines.Header ∷ more) = any_place stop more
any_place stop (lines.Region code ∷ more) = any_place stop more
any_place stop (lines.Zone zone ∷ more) = any_place stop more
any_place stop (lines.Place other change name ∷ more) = ap (λ (b : Bool). same stop other || b) (any_place stop more)
any_place stop (lines.Neighbour at neighbour ∷ more) = any_place stop more
any_place stop (lines.Service id dates ∷ more) = any_place stop more
any_place stop (lines.Journey id service line ∷ more) = any_place stop more
any_place stop (lines.Call call ∷ more) = any_place stop more

is_place_line : (stop : Text) (line : Line) → says_place stop line ≡ true → (change : ℕ) × (name : Text) × (line ≡ lines.Place stop change name)
is_place_line stop (lines.Place other change name) h = (change, name, ap (λ (s : Text). lines.Place s change name) (sym (same_is stop other h)))
is_place_line stop lines.Header h = absurd (true≢false (sym h))
is_place_line stop (lines.Region code) h = absurd (true≢false (sym h))
is_place_line stop (lines.Zone zone) h = absurd (true≢false (sym h))
is_place_line stop (lines.Neighbour at neighbour) h = absurd (true≢false (sym h))
is_place_line stop (lines.Service id dates) h = absurd (true≢false (sym h))
is_place_line stop (lines.Journey id service line) h = absurd (true≢false (sym h))
is_place_line stop (lines.Call call) h = absurd (true≢false (sym h))

abbrev says_service : Text → Line → Bool
says_service id (lines.Service other dates) = same id other
says_service id _ = false

any_service : (id : Text) (said : List Line) → list_any (λ (service : Service). same id service.id) (services_said said) ≡ list_any (says_service id) said
any_service id [] = refl
any_service id (lines.Header ∷ more) = any_service id more
any_service id (lines.Region code ∷ more) = any_service id more
any_service id (lines.Zone zone ∷ more) = any_service id more
any_service id (lines.Place stop change name ∷ more) = any_service id more
any_service id (lines.Neighbour at neighbour ∷ more) = any_service id more
any_service id (lines.Service other dates ∷ more) = ap (λ (b : Bool). same id other || b) (any_service id more)
any_service id (lines.Journey other service line ∷ more) = any_service id more
any_service id (lines.Call call ∷ more) = any_service id more

is_service_line : (id : Text) (line : Line) → says_service id line ≡ true → (dates : Dates) × (line ≡ lines.Service id dates)
is_service_line id (lines.Service other dates) h = (dates, ap (λ (s : Text). lines.Service s dates) (sym (same_is id other h)))
is_service_line id lines.Header h = absurd (true≢false (sym h))
is_service_line id (lines.Region code) h = absurd (true≢false (sym h))
is_service_line id (lines.Zone zone) h = absurd (true≢false (sym h))
is_service_line id (lines.Place stop change name) h = absurd (true≢false (sym h))
is_service_line id (lines.Neighbour at neighbour) h = absurd (true≢false (sym h))
is_service_line id (lines.Journey other service line) h = absurd (true≢false (sym h))
is_service_line id (lines.Call call) h = absurd (true≢false (sym h))

abbrev says_journey : Text → Line → Bool
says_journey id (lines.Journey other service line) = same id other
says_journey id _ = false

any_journey : (id : Text) (services : List Service) (said : List Line) → list_any (λ (journey : Journey). same id journey.id) (journeys_said services said) ≡ list_any (says_journey id) said
any_journey id services [] = refl
any_journey id services (lines.Header ∷ more) = any_journey id services more
any_journey id services (lines.Region code ∷ more) = any_journey id services more
any_journey id services (lines.Zone zone ∷ more) = any_journey id services more
any_journey id services (lines.Place stop change name ∷ more) = any_journey id services more
any_journey id services (lines.Neighbour at neighbour ∷ more) = any_journey id services more
any_journey id services (lines.Service other dates ∷ more) = any_journey id services more
any_journey id services (lines.Journey other service line ∷ more) = ap (λ (b : Bool). same id other || b) (any_journey id services more)
any_journey id services (lines.Call call ∷ more) = any_journey id services more

is_journey_line : (id : Text) (line : Line) → says_journey id line ≡ true → (service : Text) × (of : Text) × (line ≡ lines.Journey id service of)
is_journey_line id (lines.Journey other service line) h = (service, line, ap (λ (s : Text). lines.Journey s service line) (sym (same_is id other h)))
is_journey_line id lines.Header h = absurd (true≢false (sym h))
is_journey_line id (lines.Region code) h = absurd (true≢false (sym h))
is_journey_line id (lines.Zone zone) h = absurd (true≢false (sym h))
is_journey_line id (lines.Place stop change name) h = absurd (true≢false (sym h))
is_journey_line id (lines.Neighbour at neighbour) h = absurd (true≢false (sym h))
is_journey_line id (lines.Service other dates) h = absurd (true≢false (sym h))
is_journey_line id (lines.Call call) h = absurd (true≢false (sym h))

place_above : (texts : List Text) (stop : Text) → has_place (above_of texts).contents stop ≡ list_any (says_place stop) (say texts)
unfolding has_place
place_above texts stop = ap (λ (ps : List Place). list_any (λ (place : Place). same stop place.stop) ps) (contents_places texts) ∙ any_place stop (say texts)

service_above : (texts : List Text) (id : Text) → has_service (above_of texts).contents id ≡ list_any (says_service id) (say texts)
unfolding has_service
service_above texts id = ap (λ (ss : List Service). list_any (λ (service : Service). same id service.id) ss) (contents_services texts) ∙ any_service id (say texts)

journey_above : (texts : List Text) (id : Text) → has_journey (above_of texts).contents id ≡ list_any (says_journey id) (say texts)
unfolding has_journey
journey_above texts id =
    ap (λ (js : List Journey). list_any (λ (journey : Journey). same id journey.id) js) (contents_journeys texts) ∙ any_journey id (services_said (say texts)) (say texts)

pub above_is_as_said : AboveIsAsSaid
above_is_as_said texts = record {
  place = λ stop. (
    λ h. let r = any_true (says_place stop) (say texts) (sym (place_above texts stop) ∙ h) in
        let is = is_place_line stop r.0 r.2 in
        (is.0, is.1, subst (λ (line : Line). Among line (say texts)) is.2 r.1),
    λ r. place_above texts stop ∙ among_list_any (says_place stop) (lines.Place stop r.0 r.1) (say texts) r.2 (same_itself stop),
  );
  service = λ id. (
    λ h. let r = any_true (says_service id) (say texts) (sym (service_above texts id) ∙ h) in
        let is = is_service_line id r.0 r.2 in
        (is.0, subst (λ (line : Line). Among line (say texts)) is.1 r.1),
    λ r. service_above texts id ∙ among_list_any (says_service id) (lines.Service id r.0) (say texts) r.1 (same_itself id),
  );
  journey = λ id. (
    λ h. let r = any_true (says_journey id) (say texts) (sym (journey_above texts id) ∙ h) in
        let is = is_journey_line id r.0 r.2 in
        (is.0, is.1, subst (λ (line : Line). Among line (say texts)) is.2 r.1),
    λ r. journey_above texts id ∙ among_list_any (says_journey id) (lines.Journey id r.0 r.1) (say texts) r.2 (same_itself id),
  );
}
