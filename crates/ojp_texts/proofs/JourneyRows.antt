-- The rows of journeys and their calls of a timetable that can be spelled.
use Rattle.std.proofs.Common.{◌≡◌, ◌≢◌, inl, inr, ℕ, zero, suc, ◌+◌, ◌<◌, ◌≤◌, Bool, true, false, not, cond, nat_lt, true≢false, List, [], ◌∷◌, ◌++◌, length, refl, sym, ◌∙◌, ap, subst, arith, map, append_assoc, append-nil, length-append}
use Rattle.std.specs.Prelude.{Option, Some, None, codes, position, unwrap_or}
use Rattle.std.specs.List.{flat_map, list_any, position_or_len}
use Rattle.std.specs.Fmt.{decimal}
use Rattle.std.proofs.lemmas.Bool.Decides.{nat_tests}
use Rattle.std.proofs.lemmas.List.Sums.{sum_by-append, sum_by-cons}
use Rattle.ojp_values.specs.Lists.{Among, Each}
use Rattle.ojp_values.specs.Texts.{Text, is_label, is_stop_ref, same}
use Rattle.ojp_values.specs.declared.trips.Point.{Point}
use Rattle.ojp_values.proofs.ListFacts.{among_list_any, each_at}
use Rattle.ojp_zones.specs.declared.zone.Zone.{Zone}
use Rattle.ojp_timetable.specs.Checks.{falls_from, is_doubled, is_falling, is_foreign, is_full, is_stop_elsewhere, lacks_service, lacks_stop, later_of}
use Rattle.ojp_timetable.specs.Contents.{Contents, calls_in, has_journey, has_place, has_service, service_number, with_call}
use Rattle.ojp_timetable.specs.Lines.{grown, left_by}
use Rattle.ojp_timetable.specs.Runs.{AreWhole, GoToEnd, IsOffset, NoneFalls, NotBefore, calls_of}
use Rattle.ojp_timetable.specs.Tables.{Journey, Place, Service}
use Rattle.ojp_timetable.specs.WellContents.{GoesOnFrom, Passes}
use Rattle.ojp_timetable.specs.declared.calls.Call.{Call}
use Rattle.ojp_timetable.specs.declared.file.lines.Line.{Line}
use Rattle.ojp_timetable.specs.declared.file.lines.Line.TheVariants as lines
use Rattle.ojp_timetable.specs.declared.file.lines.Open.{Open}
use Rattle.ojp_timetable.specs.declared.file.lines.Open.TheVariants.{Nothing, Begun, Since}
use Rattle.ojp_timetable.proofs.TextFacts.{is_differ, is_same, same_itself}
use Rattle.ojp_lines.specs.Lines.{time_text}
use Rattle.ojp_texts.specs.Spelled.{HaveOwn, journey_lines, label_at}
use Rattle.ojp_texts.proofs.PlaceRows.{declares}
use Rattle.ojp_texts.proofs.Reading.{call_reads, journey_reads}
use Rattle.ojp_texts.proofs.Spelling.{joined_line}
use Rattle.ojp_texts.proofs.Steps.{Takes, among_of, neither, not_le, own_new, own_of, takes_line, takes_more, takes_none}
use Rattle.ojp_texts.proofs.Words.{IsLine, decimal_word, label_word, stop_word, word_line}

-- ---- what stands open, and the calls that are left

abbrev IsGoing : Open → List Call → Type 0
IsGoing Nothing calls = calls ≡ []
IsGoing Begun calls = AreWhole calls × NoneFalls 0 calls
IsGoing (Since d) calls = GoToEnd calls × NoneFalls d calls

not_under : (d t : ℕ) → d ≤ t → nat_lt t d ≡ false
not_under d t h = grind (arith, nat_tests)

no_fall : (d : ℕ) (stop : Text) (arrives departs : Option ℕ) → NotBefore d arrives → NotBefore (later_of d arrives) departs → falls_from d (record { stop = stop; arrives = arrives; departs = departs }) ≡ false
no_fall d stop None None h k = refl
no_fall d stop None (Some u) h k = not_under d u k
no_fall d stop (Some t) None h k = neither _ _ (not_under d t h) refl
no_fall d stop (Some t) (Some u) h k = neither _ _ (not_under d t h) (not_under t u k)

-- what a call of a journey that goes on does
record GoesStep (left : Open) (call : Call) (more : List Call) : Type 0 where
  stands : GoesOnFrom left call
  times : is_falling left (lines.Call call) ≡ false
  goes : IsGoing (left_by call.departs) more

begin_step : (stop : Text) (arrives departs : Option ℕ) (more : List Call) → IsGoing Begun (record { stop = stop; arrives = arrives; departs = departs } ∷ more)
    → GoesStep Begun (record { stop = stop; arrives = arrives; departs = departs }) more
unfolding is_falling
begin_step stop (Some t) departs more h = absurd (cc h.0.0)
begin_step stop None None more h = absurd (true≢false (sym h.0.1))
begin_step stop None (Some u) more h = record { stands = (refl, h.0.1); times = no_fall 0 stop None (Some u) tt h.1.1; goes = (h.0.2, h.1.2) }

since_step : (d : ℕ) (stop : Text) (arrives departs : Option ℕ) (more : List Call) → IsGoing (Since d) (record { stop = stop; arrives = arrives; departs = departs } ∷ more)
    → GoesStep (Since d) (record { stop = stop; arrives = arrives; departs = departs }) more
unfolding is_falling
since_step d stop None departs [] h = absurd (true≢false (sym h.0.0))
since_step d stop None departs (next ∷ more) h = absurd (true≢false (sym h.0.0))
since_step d stop (Some t) None [] h = record { stands = refl; times = no_fall d stop (Some t) None h.1.0 h.1.1; goes = refl }
since_step d stop (Some t) None (next ∷ more) h = absurd (true≢false (sym h.0.1))
since_step d stop (Some t) (Some u) [] h = absurd (cc h.0.1)
since_step d stop (Some t) (Some u) (next ∷ more) h = record { stands = refl; times = no_fall d stop (Some t) (Some u) h.1.0 h.1.1; goes = (h.0.2, h.1.2) }

going_step : (left : Open) (call : Call) (more : List Call) → IsGoing left (call ∷ more) → GoesStep left call more
going_step Nothing call more h = absurd (cc h)
going_step Begun call more h = begin_step call.stop call.arrives call.departs more h
going_step (Since d) call more h = since_step d call.stop call.arrives call.departs more h

-- ---- a call

-- what is known of a call of the timetable
pub record IsSpelledCall (region : Text) (places : List Place) (call : Call) : Type 0 where
  pub ref : is_stop_ref call.stop ≡ true
  pub own : is_stop_elsewhere region call.stop ≡ false
  pub stands : list_any (λ (place : Place). same call.stop place.stop) places ≡ true
  pub arrives : IsOffset call.arrives
  pub departs : IsOffset call.departs

abbrev with_calls : Journey → List Call → Journey
with_calls journey calls = record journey { calls = calls }

abbrev ends_with : List Journey → Journey → List Journey
ends_with done journey = done ++ journey ∷ []

calls_so_far : (done : List Journey) (journey : Journey) (front : List Call) → calls_of (ends_with done (with_calls journey front)) ≡ calls_of done + length front
calls_so_far done journey front =
    let last = sum_by-cons (λ (j : Journey). length j.calls) (with_calls journey front) [] in
    sum_by-append (λ (j : Journey). length j.calls) done (with_calls journey front ∷ []) ∙ ap (λ (n : ℕ). calls_of done + n) (omega (arith, last))

call_passes : (region : Text) (is : Zone) (places : List Place) (points : List Point) (services : List Service) (done : List Journey) (journey : Journey) (front : List Call) (left : Open) (call : Call)
    → IsSpelledCall region places call → is_falling left (lines.Call call) ≡ false → calls_of done + length front < 100000
    → Passes (declares region is places points services (ends_with done (with_calls journey front))) left (lines.Call call)
unfolding is_foreign is_doubled lacks_stop lacks_service is_full has_place calls_in
call_passes region is places points services done journey front left call known times room = record {
  own = known.own;
  new = refl;
  stop = ap not known.stands;
  service = refl;
  times = times;
  room = not_le 100000 (calls_of (ends_with done (with_calls journey front))) (omega (arith, room, calls_so_far done journey front));
}

time_line : (time : Option ℕ) → IsOffset time → IsLine (time_text time)
time_line None h = refl
time_line (Some n) h = word_line (decimal n) (decimal_word n (omega (arith, h)))

last_gets : (done : List Journey) (journey : Journey) (call : Call) → with_call (ends_with done journey) call ≡ ends_with done (with_calls journey (journey.calls ++ call ∷ []))
last_gets [] journey call = refl
last_gets (x ∷ []) journey call = refl
last_gets (x ∷ y ∷ more) journey call = ap (λ (js : List Journey). x ∷ js) (last_gets (y ∷ more) journey call)

leads_from : (zone : Text) (from other to : Contents) (left behind : Open) (entries : List Line) → from ≡ other → Takes zone from left entries to behind → Takes zone other left entries to behind
leads_from zone from other to left behind entries e t = subst (λ (c : Contents). Takes zone c left entries to behind) e t

takes_calls : (zone region : Text) (is : Zone) (places : List Place) (points : List Point) (services : List Service) (done : List Journey) (journey : Journey) (front more : List Call) (left : Open)
    → front ++ more ≡ journey.calls → IsGoing left more → Each (IsSpelledCall region places) journey.calls → calls_of done + length journey.calls ≤ 100000
    → Takes zone (declares region is places points services (ends_with done (with_calls journey front))) left (map (λ (call : Call). lines.Call call) more)
    (declares region is places points services (ends_with done journey)) Nothing
takes_calls zone region is places points services done journey front [] left e going known few =
    nothing left going
  where
    nothing : (standing : Open) → IsGoing standing [] → Takes zone (declares region is places points services (ends_with done (with_calls journey front))) standing [] (declares region is places points services (ends_with done journey)) Nothing
    nothing Nothing h =
        takes_none zone (declares region is places points services (ends_with done (with_calls journey front))) (declares region is places points services (ends_with done journey)) Nothing
        (ap (λ (cs : List Call). declares region is places points services (ends_with done (with_calls journey cs))) (sym (append-nil front) ∙ e))
    nothing Begun h = absurd h.0
    nothing (Since d) h = absurd h.0
takes_calls zone region is places points services done journey front (call ∷ more) left e going known few =
    let its = each_at (IsSpelledCall region places) call journey.calls known (among_of journey.calls front call more e) in
    let step = going_step left call more going in
    takes_line zone (declares region is places points services (ends_with done (with_calls journey front))) left (lines.Call call) (map (λ (c : Call). lines.Call c) more)
    (declares region is places points services (ends_with done journey)) Nothing
    (record {
      says = call_reads region left call its.ref its.arrives its.departs step.stands;
      passes = call_passes region is places points services done journey front left call its step.times
          (omega (arith, few, ap length e, length-append front (call ∷ more)));
      one = joined_line (codes "call") (call.stop ∷ time_text call.arrives ∷ time_text call.departs ∷ []) refl
          (word_line call.stop (stop_word call.stop its.ref), (time_line call.arrives its.arrives, (time_line call.departs its.departs, tt)));
    })
    (leads_from zone (declares region is places points services (ends_with done (with_calls journey (front ++ call ∷ []))))
    (grown (declares region is places points services (ends_with done (with_calls journey front))) (lines.Call call))
    (declares region is places points services (ends_with done journey)) (left_by call.departs) Nothing (map (λ (c : Call). lines.Call c) more)
    (ap (λ (js : List Journey). declares region is places points services js) (sym (last_gets done (with_calls journey front) call)))
    (takes_calls zone region is places points services done journey (front ++ call ∷ []) more (left_by call.departs) (append_assoc front (call ∷ []) more ∙ e) step.goes known few))

-- ---- the service of a journey

label_among : (services : List Service) (k : ℕ) → k < length services → (service : Service) × Among service services × (label_at services k ≡ service.id)
label_among [] k h = absurd (omega (arith, h))
label_among (s ∷ services) zero h = (s, inl refl, refl)
label_among (s ∷ services) (suc k) h = let r = label_among services k (omega (arith, h)) in (r.0, inr r.1, r.2)

place_of_label : (services : List Service) (k : ℕ) → k < length services → HaveOwn (λ (s : Service). s.id) services → position_or_len (λ (s : Service). same (label_at services k) s.id) services ≡ k
place_of_label [] k h own = absurd (omega (arith, h))
place_of_label (s ∷ services) zero h own =
    ap (λ (b : Bool). cond (not b) (1 + position_or_len (λ (o : Service). same s.id o.id) services) 0) (same_itself s.id)
place_of_label (s ∷ services) (suc k) h own =
    let at = label_among services k (omega (arith, h)) in
    let differ = each_at (λ (o : Service). s.id ≢ o.id) at.0 services own.0 at.1 in
    ap (λ (b : Bool). cond (not b) (1 + position_or_len (λ (o : Service). same (label_at services k) o.id) services) 0) (is_differ (label_at services k) s.id (λ e. differ (sym e ∙ at.2)))
    ∙ omega (arith, place_of_label services k (omega (arith, h)) own.1)

some_at : (n m k : ℕ) → n ≡ k → k < m → unwrap_or (cond (nat_lt n m) (Some n) None) 0 ≡ k
some_at n m k e h = grind (arith, nat_tests)

number_is : (services : List Service) (k : ℕ) → k < length services → HaveOwn (λ (s : Service). s.id) services → unwrap_or (position (λ (s : Service). same (label_at services k) s.id) services) 0 ≡ k
number_is services k h own = some_at _ (length services) k (place_of_label services k h own) h

-- ---- a journey

-- what is known of a journey of the timetable
pub record IsSpelledJourney (region : Text) (places : List Place) (services : List Service) (journey : Journey) : Type 0 where
  pub labels : (is_label journey.id ≡ true) × (is_label journey.line ≡ true)
  pub service : journey.service < length services
  pub whole : AreWhole journey.calls
  pub times : NoneFalls 0 journey.calls
  pub calls : Each (IsSpelledCall region places) journey.calls

journey_passes : (region : Text) (is : Zone) (places : List Place) (points : List Point) (services : List Service) (done rest : List Journey) (journey : Journey)
    → journey.service < length services → HaveOwn (λ (j : Journey). j.id) (done ++ journey ∷ rest) → length (done ++ journey ∷ rest) ≤ 20000
    → Passes (declares region is places points services done) Nothing (lines.Journey journey.id (label_at services journey.service) journey.line)
unfolding is_foreign is_doubled lacks_stop lacks_service is_falling is_full has_journey has_service
journey_passes region is places points services done rest journey of own few =
    let at = label_among services journey.service of in
    record {
      own = refl;
      new = own_new (λ (j : Journey). j.id) done journey rest own;
      stop = refl;
      service = ap not (among_list_any (λ (s : Service). same (label_at services journey.service) s.id) at.0 services at.1 (is_same (label_at services journey.service) at.0.id at.2));
      times = refl;
      room = not_le 20000 (length done) (omega (arith, few, length-append done (journey ∷ rest)));
    }

journey_grows : (region : Text) (is : Zone) (places : List Place) (points : List Point) (services : List Service) (done : List Journey) (journey : Journey)
    → journey.service < length services → HaveOwn (λ (s : Service). s.id) services
    → declares region is places points services (ends_with done (with_calls journey []))
    ≡ grown (declares region is places points services done) (lines.Journey journey.id (label_at services journey.service) journey.line)
unfolding service_number
journey_grows region is places points services done journey of own =
    ap (λ (n : ℕ). declares region is places points services (done ++ record { id = journey.id; line = journey.line; service = n; calls = [] } ∷ [])) (sym (number_is services journey.service of own))

calls_part : (done : List Journey) (journey : Journey) (rest : List Journey) → calls_of (done ++ journey ∷ rest) ≡ calls_of done + (length journey.calls + calls_of rest)
calls_part done journey rest =
    sum_by-append (λ (j : Journey). length j.calls) done (journey ∷ rest) ∙ ap (λ (n : ℕ). calls_of done + n) (sum_by-cons (λ (j : Journey). length j.calls) journey rest)

pub takes_journeys : (zone region : Text) (is : Zone) (places : List Place) (points : List Point) (services : List Service) (all done rest : List Journey) → done ++ rest ≡ all
    → Each (IsSpelledJourney region places services) all → HaveOwn (λ (j : Journey). j.id) all → Each (λ (s : Service). is_label s.id ≡ true) services → HaveOwn (λ (s : Service). s.id) services
    → length all ≤ 20000 → calls_of all ≤ 100000
    → Takes zone (declares region is places points services done) Nothing (flat_map (journey_lines services) rest) (declares region is places points services all) Nothing
takes_journeys zone region is places points services all done [] e known own labels own_services few calls_few =
    takes_none zone (declares region is places points services done) (declares region is places points services all) Nothing
    (ap (λ (js : List Journey). declares region is places points services js) (sym (append-nil done) ∙ e))
takes_journeys zone region is places points services all done (journey ∷ rest) e known own labels own_services few calls_few =
    let its = each_at (IsSpelledJourney region places services) journey all known (among_of all done journey rest e) in
    let at = label_among services journey.service its.service in
    let label : is_label (label_at services journey.service) ≡ true = ap is_label at.2 ∙ each_at (λ (s : Service). is_label s.id ≡ true) at.0 services labels at.1 in
    let here : calls_of done + length journey.calls ≤ 100000 =
    let part = calls_part done journey rest in omega (arith, calls_few, ap (λ (js : List Journey). calls_of js) e, part) in
    takes_more zone (declares region is places points services done) (declares region is places points services (ends_with done journey)) (declares region is places points services all)
    Nothing Nothing Nothing (journey_lines services journey) (flat_map (journey_lines services) rest)
    (takes_line zone (declares region is places points services done) Nothing (lines.Journey journey.id (label_at services journey.service) journey.line)
    (map (λ (c : Call). lines.Call c) journey.calls) (declares region is places points services (ends_with done journey)) Nothing
    (record {
      says = journey_reads region Nothing journey.id (label_at services journey.service) journey.line refl its.labels.0 label its.labels.1;
      passes = journey_passes region is places points services done rest journey its.service (own_of (λ (j : Journey). j.id) all (done ++ journey ∷ rest) e own)
          (subst (λ (js : List Journey). length js ≤ 20000) (sym e) few);
      one = joined_line (codes "journey") (journey.id ∷ label_at services journey.service ∷ journey.line ∷ []) refl (
        word_line journey.id (label_word journey.id its.labels.0),
        (
          word_line (label_at services journey.service) (label_word (label_at services journey.service) label),
          (word_line journey.line (label_word journey.line its.labels.1), tt),
        ),
      );
    })
    (leads_from zone (declares region is places points services (ends_with done (with_calls journey [])))
    (grown (declares region is places points services done) (lines.Journey journey.id (label_at services journey.service) journey.line))
    (declares region is places points services (ends_with done journey)) Begun Nothing (map (λ (c : Call). lines.Call c) journey.calls)
    (journey_grows region is places points services done journey its.service own_services)
    (takes_calls zone region is places points services done journey [] journey.calls Begun refl (its.whole, its.times) its.calls here)))
    (takes_journeys zone region is places points services all (done ++ journey ∷ []) rest (append_assoc done (journey ∷ []) rest ∙ e) known own labels own_services few calls_few)
