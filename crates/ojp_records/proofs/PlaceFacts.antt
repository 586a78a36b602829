-- What told checks say of places, and that regions which answer by their timetables say what is so.
use Rattle.std.proofs.Common.{◌≡◌, ◌≢◌, ℕ, Bool, true, false, cond, List, [], ◌∷◌, ◌++◌, Option, Some, None, refl, sym, ◌∙◌, ap, subst, inl, inr}
use Rattle.std.proofs.lemmas.Bool.{true≢false, and_parts, and_from}
use Rattle.std.specs.Prelude.{MatchBool}
use Rattle.std.specs.List.{filter_map, cons_option}
use Rattle.ojp_values.specs.Lists.{Among, Each}
use Rattle.ojp_values.specs.Texts.{Text, same, home}
use Rattle.ojp_values.specs.declared.asks.TripAsk.{TripAsk}
use Rattle.ojp_values.specs.declared.asks.EventAsk.{EventAsk}
use Rattle.ojp_values.specs.declared.kinds.EventKind.TheVariants.{Departure}
use Rattle.ojp_values.specs.declared.trips.Event.{Event}
use Rattle.ojp_values.specs.declared.replies.Fault.TheVariants.{StopUnknown}
use Rattle.ojp_values.specs.declared.replies.EventsReply.TheVariants as events_replies
use Rattle.ojp_values.specs.declared.replies.Delivery.{Delivery}
use Rattle.ojp_values.specs.declared.replies.Delivery.TheVariants as deliveries
use Rattle.ojp_timetable.specs.Tables.{Timetable, has}
use Rattle.ojp_timetable.specs.Answers.{AreEvents, EventsAnswered}
use Rattle.ojp_timetable.proofs.TextFacts.{same_is, is_same}
use Rattle.ojp_exchange.specs.Book.{Book, Spot, has_region, is_declared}
use Rattle.ojp_records.specs.declared.queries.Query.{Query}
use Rattle.ojp_records.specs.declared.queries.Query.TheVariants.{Check, Reach}
use Rattle.ojp_records.specs.declared.queries.Entry.{Entry}
use Rattle.ojp_records.specs.Places.{ToldCheck, check_of, checks_in, PlaceState, Known, Unknown, Unheard, CheckFailed, reply_state, is_check, check_state, state_by, place_state, check_by, check, wanted_by_places}
use Rattle.ojp_records.specs.Headline.{AreTablesOf, ReplyGiven, EntryGiven}
use Rattle.ojp_values.proofs.ListFacts.{Member, member_first, member_later, each_at, among_append, among_append_left, among_append_right, among_filter_map_back}
use Rattle.ojp_exchange.proofs.BookFacts.{SpotTable, spot_table, is_region, is_declared_is, declared_is, one_table, code_listed, SpotOf, spot_listed}
use Rattle.ojp_timetable.specs.GatewayAnswers.{IsPlace, IsPlaceBy}

-- ---- states that differ

pub known_unknown : Known ≢ Unknown
known_unknown e = cc

pub known_unheard : Known ≢ Unheard
known_unheard e = cc

pub known_failed : Known ≢ CheckFailed
known_failed e = cc

pub unknown_unheard : Unknown ≢ Unheard
unknown_unheard e = cc

pub unknown_failed : Unknown ≢ CheckFailed
unknown_failed e = cc

pub failed_unheard : CheckFailed ≢ Unheard
failed_unheard e = cc

pub reply_is_heard : (reply : Option Delivery) → reply_state reply ≢ Unheard
reply_is_heard None e = cc
reply_is_heard (Some (deliveries.Events (events_replies.Fault (StopUnknown stop)))) e = cc
reply_is_heard (Some reply) e = cc

failed_reply : (reply : Option Delivery) → reply_state reply ≡ CheckFailed → reply ≡ None
failed_reply None e = refl
failed_reply (Some (deliveries.Events (events_replies.Fault (StopUnknown stop)))) e = absurd (cc)
failed_reply (Some reply) e = absurd (cc)

-- ---- told checks

is_check_is : (region stop : Text) (it : ToldCheck) → is_check region stop it ≡ true → (it.region ≡ region) × (it.stop ≡ stop)
is_check_is region stop it e =
    let parts : (same it.region region ≡ true) × (same it.stop stop ≡ true) = and_parts _ _ e in
    (same_is it.region region parts.0, same_is it.stop stop parts.1)

pub check_is_it : (region stop : Text) (it : ToldCheck) → it.region ≡ region → it.stop ≡ stop → is_check region stop it ≡ true
check_is_it region stop it r s = and_from _ _ (is_same it.region region r) (is_same it.stop stop s)

-- a told check of the stop by the region, whose reply tells the state
abbrev pub Tells : List ToldCheck → Text → Text → PlaceState → Type 0
Tells checks region stop s = Member checks (λ (it : ToldCheck). (it.region ≡ region) × (it.stop ≡ stop) × (reply_state it.reply ≡ s))

tells_step : (first : ToldCheck) (checks : List ToldCheck) (region stop : Text) (s : PlaceState) (b : Bool) → is_check region stop first ≡ b → cond b (reply_state first.reply) (check_state checks region stop) ≡ s → (check_state checks region stop ≡ s → Tells checks region stop s) → Tells (first ∷ checks) region stop s
tells_step first checks region stop s true this e later =
    let both : (first.region ≡ region) × (first.stop ≡ stop) = is_check_is region stop first this in
    member_first first checks _ (both.0, both.1, e)
tells_step first checks region stop s false other e later = member_later first checks _ (later e)

-- a state that is heard is told by a check
pub check_tells : (checks : List ToldCheck) (region stop : Text) (s : PlaceState) → s ≢ Unheard → check_state checks region stop ≡ s → Tells checks region stop s
check_tells [] region stop s heard e = absurd (heard (sym e))
check_tells (first ∷ checks) region stop s heard e = tells_step first checks region stop s (is_check region stop first) refl e (check_tells checks region stop s heard)

-- the first that is heard
abbrev pub first_heard : PlaceState → PlaceState → PlaceState
first_heard Unheard later = later
first_heard before later = before

first_step : (b : Bool) (reply before later : PlaceState) → reply ≢ Unheard → cond b reply (first_heard before later) ≡ first_heard (cond b reply before) later
first_step true reply before later heard = go reply heard
  where
    go : (s : PlaceState) → s ≢ Unheard → s ≡ first_heard s later
    go Unheard n = absurd (n refl)
    go s n = refl
first_step false reply before later heard = refl

pub check_state_append : (checks more : List ToldCheck) (region stop : Text) → check_state (checks ++ more) region stop ≡ first_heard (check_state checks region stop) (check_state more region stop)
check_state_append [] more region stop = refl
check_state_append (first ∷ checks) more region stop =
    ap (λ (s : PlaceState). cond (is_check region stop first) (reply_state first.reply) s) (check_state_append checks more region stop)
    ∙ first_step (is_check region stop first) (reply_state first.reply) (check_state checks region stop) (check_state more region stop) (reply_is_heard first.reply)

point_append : (b : Bool) → cond b Known Unknown ≡ first_heard (cond b Known Unknown) (cond b Known Unknown)
point_append true = refl
point_append false = refl

region_append : (b : Bool) (before later : PlaceState) → cond b (first_heard before later) Unknown ≡ first_heard (cond b before Unknown) (cond b later Unknown)
region_append true before later = refl
region_append false before later = refl

state_by_append : (book : Book) (checks more : List ToldCheck) (stop : Text) (code : Option Text) → state_by book (checks ++ more) stop code ≡ first_heard (state_by book checks stop code) (state_by book more stop code)
state_by_append book checks more stop None = point_append (is_declared book stop)
state_by_append book checks more stop (Some code) =
    ap (λ (s : PlaceState). cond (has_region book code) s Unknown) (check_state_append checks more code stop)
    ∙ region_append (has_region book code) (check_state checks code stop) (check_state more code stop)

-- the state of a place after more checks: the first that is heard
pub place_state_append : (book : Book) (checks more : List ToldCheck) (stop : Text) → place_state book (checks ++ more) stop ≡ first_heard (place_state book checks stop) (place_state book more stop)
unfolding place_state
place_state_append book checks more stop = state_by_append book checks more stop (home stop)

cons_append : (o : Option ToldCheck) (xs ys : List ToldCheck) → cons_option o (xs ++ ys) ≡ cons_option o xs ++ ys
cons_append None xs ys = refl
cons_append (Some x) xs ys = refl

-- the checks of a longer record
pub checks_append : (told more : List Entry) → checks_in (told ++ more) ≡ checks_in told ++ checks_in more
unfolding checks_in
checks_append [] more = refl
checks_append (entry ∷ told) more =
    ap (cons_option (check_of entry.query entry.reply)) (checks_append told more)
    ∙ cons_append (check_of entry.query entry.reply) (filter_map (λ (it : Entry). check_of it.query it.reply) told) (filter_map (λ (it : Entry). check_of it.query it.reply) more)

pub state_append : (book : Book) (told more : List Entry) (stop : Text) → place_state book (checks_in (told ++ more)) stop ≡ first_heard (place_state book (checks_in told) stop) (place_state book (checks_in more) stop)
state_append book told more stop =
    ap (λ (checks : List ToldCheck). place_state book checks stop) (checks_append told more) ∙ place_state_append book (checks_in told) (checks_in more) stop

first_is : (s later : PlaceState) → s ≢ Unheard → first_heard s later ≡ s
first_is Unheard later heard = absurd (heard refl)
first_is s later heard = refl

-- what is heard of a place stays so
pub state_more : (book : Book) (told more : List Entry) (stop : Text) (s : PlaceState) → s ≢ Unheard → place_state book (checks_in told) stop ≡ s → place_state book (checks_in (told ++ more)) stop ≡ s
state_more book told more stop s heard e =
    state_append book told more stop ∙ (ap (λ (x : PlaceState). first_heard x (place_state book (checks_in more) stop)) e ∙ first_is s (place_state book (checks_in more) stop) heard)

none_heard : (s later : PlaceState) → first_heard s later ≡ Unheard → s ≡ Unheard
none_heard Unheard later e = refl
none_heard s later e = e

pub state_before : (book : Book) (told more : List Entry) (stop : Text) → place_state book (checks_in (told ++ more)) stop ≡ Unheard → place_state book (checks_in told) stop ≡ Unheard
state_before book told more stop e =
    none_heard (place_state book (checks_in told) stop) (place_state book (checks_in more) stop) (sym (state_append book told more stop) ∙ e)

-- ---- where a state comes from

pub data PlaceBy (book : Book) (checks : List ToldCheck) (stop : Text) (s : PlaceState) : Type 0 where
  ByPoint : home stop ≡ None → cond (is_declared book stop) Known Unknown ≡ s → PlaceBy book checks stop s
  NoRegion : (code : Text) → home stop ≡ Some code → has_region book code ≡ false → Unknown ≡ s → PlaceBy book checks stop s
  ByCheck : (code : Text) → home stop ≡ Some code → has_region book code ≡ true → check_state checks code stop ≡ s → PlaceBy book checks stop s

place_by_region : (book : Book) (checks : List ToldCheck) (stop : Text) (s : PlaceState) (code : Text) (b : Bool) → home stop ≡ Some code → has_region book code ≡ b → cond b (check_state checks code stop) Unknown ≡ s → PlaceBy book checks stop s
place_by_region book checks stop s code true own known e = ByCheck code own known e
place_by_region book checks stop s code false own known e = NoRegion code own known e

place_by_home : (book : Book) (checks : List ToldCheck) (stop : Text) (s : PlaceState) (code : Option Text) → home stop ≡ code → state_by book checks stop code ≡ s → PlaceBy book checks stop s
place_by_home book checks stop s None own e = ByPoint own e
place_by_home book checks stop s (Some code) own e = place_by_region book checks stop s code (has_region book code) own refl e

pub place_by : (book : Book) (checks : List ToldCheck) (stop : Text) (s : PlaceState) → place_state book checks stop ≡ s → PlaceBy book checks stop s
unfolding place_state
place_by book checks stop s e = place_by_home book checks stop s (home stop) refl e

known_state : (b : Bool) → cond b Known Unknown ≡ Known → b ≡ true
known_state true e = refl
known_state false e = absurd (cc)

unknown_state : (b : Bool) → cond b Known Unknown ≡ Unknown → b ≡ false
unknown_state true e = absurd (cc)
unknown_state false e = refl

failed_point : (b : Bool) → cond b Known Unknown ≡ CheckFailed → ⊥
failed_point true e = cc
failed_point false e = cc

unheard_point : (b : Bool) → cond b Known Unknown ≡ Unheard → ⊥
unheard_point true e = cc
unheard_point false e = cc

-- the check of a place that was not heard of
pub unheard_check : (book : Book) (checks : List ToldCheck) (stop : Text) → place_state book checks stop ≡ Unheard → (region : Text) × Among (Check region stop) (check stop)
unheard_check book checks stop e = go (place_by book checks stop Unheard e)
  where
    go : PlaceBy book checks stop Unheard → (region : Text) × Among (Check region stop) (check stop)
    go (ByPoint own is) = absurd (unheard_point (is_declared book stop) is)
    go (NoRegion code own lacks is) = absurd (unknown_unheard is)
    go (ByCheck code own known is) = (code, subst (λ (c : Option Text). Among (Check code stop) (check_by stop c)) (sym own) (inl refl))

-- a told check of the stop that has no reply
pub record FailedCheck (checks : List ToldCheck) (stop : Text) : Type 0 where
  pub code : Text
  pub own : home stop ≡ Some code
  pub told : Tells checks code stop CheckFailed
  pub no_reply : told.item.reply ≡ None

-- a check failed where the state says so
pub failed_check_of : (book : Book) (checks : List ToldCheck) (stop : Text) → place_state book checks stop ≡ CheckFailed → FailedCheck checks stop
failed_check_of book checks stop e = go (place_by book checks stop CheckFailed e)
  where
    go : PlaceBy book checks stop CheckFailed → FailedCheck checks stop
    go (ByPoint own is) = absurd (failed_point (is_declared book stop) is)
    go (NoRegion code own lacks is) = absurd (unknown_failed is)
    go (ByCheck code own known is) =
        let it : Tells checks code stop CheckFailed = check_tells checks code stop CheckFailed failed_unheard is in
        record { code = code; own = own; told = it; no_reply = failed_reply it.item.reply it.holds.2 }

-- ---- what is wanted by the states of both places

pub data PlacesWant {Q : Type 0} (check_origin check_target rest : List Q) (origin target : PlaceState) (query : Q) : Type 0 where
  OriginCheck : origin ≡ Unheard → Among query check_origin → PlacesWant check_origin check_target rest origin target query
  TargetCheck : origin ≢ Unknown → target ≡ Unheard → Among query check_target → PlacesWant check_origin check_target rest origin target query
  AtPair : origin ≡ Known → target ≡ Known → Among query rest → PlacesWant check_origin check_target rest origin target query

pub places_want : {Q : Type 0} (check_origin check_target rest : List Q) (origin target : PlaceState) (query : Q) → Among query (wanted_by_places check_origin check_target rest origin target) → PlacesWant check_origin check_target rest origin target query
places_want check_origin check_target rest Unknown target query h = absurd h
places_want check_origin check_target rest Unheard Unheard query h =
    elim (among_append query check_origin check_target h) [
      | inl first ↦ OriginCheck refl first
      | inr second ↦ TargetCheck (λ e. cc) refl second
    ]
places_want check_origin check_target rest Unheard target query h = OriginCheck refl h
places_want check_origin check_target rest Known Unheard query h = TargetCheck known_unknown refl h
places_want check_origin check_target rest CheckFailed Unheard query h = TargetCheck (λ e. cc) refl h
places_want check_origin check_target rest Known Known query h = AtPair refl refl h
places_want check_origin check_target rest origin target query h = absurd h

origin_wanted : {Q : Type 0} (check_origin check_target rest : List Q) (target : PlaceState) (query : Q) → Among query check_origin → Among query (wanted_by_places check_origin check_target rest Unheard target)
origin_wanted check_origin check_target rest Unheard query h = among_append_left query check_origin check_target h
origin_wanted check_origin check_target rest target query h = h

target_wanted : {Q : Type 0} (check_origin check_target rest : List Q) (origin : PlaceState) (query : Q) → origin ≢ Unknown → Among query check_target → Among query (wanted_by_places check_origin check_target rest origin Unheard)
target_wanted check_origin check_target rest Unknown query known h = absurd (known refl)
target_wanted check_origin check_target rest Unheard query known h = among_append_right query check_origin check_target h
target_wanted check_origin check_target rest origin query known h = h

pub wanted_of_places : {Q : Type 0} (check_origin check_target rest : List Q) (origin target : PlaceState) (query : Q) → PlacesWant check_origin check_target rest origin target query → Among query (wanted_by_places check_origin check_target rest origin target)
wanted_of_places check_origin check_target rest origin target query (OriginCheck o h) =
    subst (λ (s : PlaceState). Among query (wanted_by_places check_origin check_target rest s target)) (sym o) (origin_wanted check_origin check_target rest target query h)
wanted_of_places check_origin check_target rest origin target query (TargetCheck known t h) =
    subst (λ (s : PlaceState). Among query (wanted_by_places check_origin check_target rest origin s)) (sym t) (target_wanted check_origin check_target rest origin query known h)
wanted_of_places check_origin check_target rest origin target query (AtPair o t h) =
    subst (λ (s : PlaceState). Among query (wanted_by_places check_origin check_target rest s target)) (sym o)
    (subst (λ (s : PlaceState). Among query (wanted_by_places check_origin check_target rest Known s)) (sym t) h)

-- ---- regions that answer checks by their timetables

-- the timetables give the reply to a check from the moment, where there is one
abbrev pub CheckAnswered : List Timetable → ℕ → Text → Text → Option Delivery → Type 0
CheckAnswered tables from region stop None = Unit {0}
CheckAnswered tables from region stop (Some reply) =
    (table : Timetable) × Among table tables × (table.region ≡ region) × EventsAnswered table (record { stop = stop; start = from; kind = Departure; number = 1 }) reply

abbrev pub CheckGiven : List Timetable → ℕ → ToldCheck → Type 0
CheckGiven tables from it = CheckAnswered tables from it.region it.stop it.reply

given_step : (tables : List Timetable) (book : Book) (ask : TripAsk) (query : Query) (reply : Option Delivery) (checks : List ToldCheck) → ReplyGiven tables book ask query reply → Each (CheckGiven tables ask.start) checks → Each (CheckGiven tables ask.start) (cons_option (check_of query reply) checks)
given_step tables book ask (Reach region stop start) reply checks given rest = rest
given_step tables book ask (Check region stop) None checks given rest = (tt, rest)
given_step tables book ask (Check region stop) (Some reply) checks given rest = (given, rest)

-- the checks of a record are given where the record is
pub checks_given : (tables : List Timetable) (book : Book) (ask : TripAsk) (told : List Entry) → Each (EntryGiven tables book ask) told → Each (CheckGiven tables ask.start) (checks_in told)
unfolding checks_in
checks_given tables book ask [] given = tt
checks_given tables book ask (entry ∷ told) given =
    given_step tables book ask entry.query entry.reply (filter_map (λ (it : Entry). check_of it.query it.reply) told) given.0 (checks_given tables book ask told given.1)

pub is_place : (tables : List Timetable) (stop : Text) (code : Option Text) → home stop ≡ code → IsPlaceBy tables stop code → IsPlace tables stop
is_place tables stop code e h = subst (IsPlaceBy tables stop) (sym e) h

pub place_is : (tables : List Timetable) (stop : Text) (code : Option Text) → home stop ≡ code → IsPlace tables stop → IsPlaceBy tables stop code
place_is tables stop code e h = subst (IsPlaceBy tables stop) e h

-- what the region answered to a check
data Checked (tables : List Timetable) (stop region : Text) (reply : Option Delivery) : Type 0 where
  HasStop : (table : Timetable) → Among table tables → table.region ≡ region → has table stop ≡ true → reply_state reply ≡ Known → Checked tables stop region reply
  HasNoStop : (table : Timetable) → Among table tables → table.region ≡ region → has table stop ≡ false → reply_state reply ≡ Unknown → Checked tables stop region reply
  NoAnswer : reply ≡ None → Checked tables stop region reply

checked_as :
    (tables : List Timetable) (region : Text) (table : Timetable) (ask : EventAsk) (reply : Delivery) (b : Bool)
    → Among table tables → table.region ≡ region → has table ask.stop ≡ b
    → MatchBool b ((events : List Event) × AreEvents table ask events × (reply ≡ deliveries.Events (events_replies.Events events))) (reply ≡ deliveries.Events (events_replies.Fault (StopUnknown ask.stop)))
    → Checked tables ask.stop region (Some reply)
checked_as tables region table ask reply true of_tables at e (events, are, is) = HasStop table of_tables at e (ap (λ (it : Delivery). reply_state (Some it)) is)
checked_as tables region table ask reply false of_tables at e is = HasNoStop table of_tables at e (ap (λ (it : Delivery). reply_state (Some it)) is)

checked : (tables : List Timetable) (from : ℕ) (region stop : Text) (reply : Option Delivery) → CheckAnswered tables from region stop reply → Checked tables stop region reply
checked tables from region stop None given = NoAnswer refl
checked tables from region stop (Some reply) (table, of_tables, at, answered) =
    checked_as tables region table (record { stop = stop; start = from; kind = Departure; number = 1 }) reply (has table stop) of_tables at refl answered

module _ (tables : List Timetable) (book : Book) (checks : List ToldCheck) (from : ℕ) (whole : AreTablesOf tables book) (given : Each (CheckGiven tables from) checks) where
  -- the answer to a check that tells the state
  tells_checked : (region stop : Text) (s : PlaceState) → (it : Tells checks region stop s) → Checked tables stop region it.item.reply
  tells_checked region stop s it =
      let own : CheckGiven tables from it.item = each_at (CheckGiven tables from) it.item checks given it.among in
      checked tables from region stop it.item.reply
      (subst (λ (x : Text). CheckAnswered tables from region x it.item.reply) it.holds.1
      (subst (λ (x : Text). CheckAnswered tables from x it.item.stop it.item.reply) it.holds.0 own))

  -- a place that is taken for unknown is none
  pub unknown_is : (stop : Text) → place_state book checks stop ≡ Unknown → IsPlace tables stop → ⊥
  unknown_is stop e place = go (place_by book checks stop Unknown e)
    where
      at_check : (code : Text) → IsPlaceBy tables stop (Some code) → (it : Tells checks code stop Unknown) → Checked tables stop code it.item.reply → ⊥
      at_check code by it (HasStop table of_tables at yes_has is) = known_unknown (sym is ∙ it.holds.2)
      at_check code by it (HasNoStop table of_tables at no_has is) =
          let same_table : by.0 ≡ table = one_table tables by.0 table whole.tables_well by.1 of_tables (by.2 ∙ sym at) in
          true≢false (sym by.3 ∙ (ap (λ (x : Timetable). has x stop) same_table ∙ no_has))
      at_check code by it (NoAnswer none) = unknown_failed (sym it.holds.2 ∙ ap reply_state none)

      go : PlaceBy book checks stop Unknown → ⊥
      go (ByPoint own is) =
          let by : IsPlaceBy tables stop None = place_is tables stop None own place in
          let spot : SpotOf book by.0.region by.2.0.stop = spot_listed tables book by.0 by.2.0 whole.book_of by.1 by.2.1 in
          true≢false (sym (subst (λ (x : Text). is_declared book x ≡ true) (spot.holds.1 ∙ by.2.2) (is_declared_is book spot.item spot.among)) ∙ unknown_state (is_declared book stop) is)
      go (NoRegion code own lacks is) =
          let by : IsPlaceBy tables stop (Some code) = place_is tables stop (Some code) own place in
          true≢false (sym (is_region book code (subst (λ (c : Text). Among c book.codes) by.2 (code_listed tables book by.0 whole.book_of by.1))) ∙ lacks)
      go (ByCheck code own known is) =
          let it : Tells checks code stop Unknown = check_tells checks code stop Unknown unknown_unheard is in
          at_check code (place_is tables stop (Some code) own place) it (tells_checked code stop Unknown it)

  -- a place that is taken for known is one
  pub known_is : (stop : Text) → place_state book checks stop ≡ Known → IsPlace tables stop
  known_is stop e = go (place_by book checks stop Known e)
    where
      at_check : (code : Text) → (it : Tells checks code stop Known) → Checked tables stop code it.item.reply → IsPlaceBy tables stop (Some code)
      at_check code it (HasStop table of_tables at yes_has is) = (table, of_tables, at, yes_has)
      at_check code it (HasNoStop table of_tables at no_has is) = absurd (known_unknown (sym it.holds.2 ∙ is))
      at_check code it (NoAnswer none) = absurd (known_failed (sym it.holds.2 ∙ ap reply_state none))

      go : PlaceBy book checks stop Known → IsPlace tables stop
      go (ByPoint own is) =
          let m : Member book.spots (λ (spot : Spot). spot.stop ≡ stop) = declared_is book stop (known_state (is_declared book stop) is) in
          let spot : SpotTable tables m.item = spot_table tables m.item ((whole.book_of.spots m.item).0 m.among) in
          is_place tables stop None own (spot.table, spot.of_tables, (spot.point, spot.listed, spot.at ∙ m.holds))
      go (NoRegion code own lacks is) = absurd (known_unknown (sym is))
      go (ByCheck code own known is) =
          let it : Tells checks code stop Known = check_tells checks code stop Known known_unheard is in
          is_place tables stop (Some code) own (at_check code it (tells_checked code stop Known it))

-- ---- the entry of a check

pub check_of_is : (query : Query) (reply : Option Delivery) (it : ToldCheck) → check_of query reply ≡ Some it → (query ≡ Check it.region it.stop) × (reply ≡ it.reply)
check_of_is (Reach region stop start) reply it e = absurd (cc)
check_of_is (Check region stop) reply it e =
    let same_one : record { region = region; stop = stop; reply = reply } ≡ it = cc in
    (ap (λ (x : ToldCheck). Check x.region x.stop) same_one, ap (λ (x : ToldCheck). x.reply) same_one)

-- the entry of a told check
pub check_entry : (told : List Entry) (it : ToldCheck) → Among it (checks_in told) → Member told (λ (entry : Entry). (entry.query ≡ Check it.region it.stop) × (entry.reply ≡ it.reply))
unfolding checks_in
check_entry told it h =
    let m : Member told (λ (entry : Entry). check_of entry.query entry.reply ≡ Some it) = among_filter_map_back (λ (entry : Entry). check_of entry.query entry.reply) it told h in
    record { item = m.item; among = m.among; holds = check_of_is m.item.query m.item.reply it m.holds }
