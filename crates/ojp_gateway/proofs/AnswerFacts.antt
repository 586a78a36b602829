-- What the gateway answers, by how its search ended.
use Rattle.std.proofs.Common.{◌≡◌, ◌≢◌, ◌⊎◌, List, [], ◌∷◌, Option, Some, None, refl, sym, ◌∙◌, ap, subst, inl, inr}
use Rattle.ojp_values.specs.Lists.{Each}
use Rattle.ojp_values.specs.Texts.{Text}
use Rattle.ojp_values.specs.declared.trips.Point.{Point}
use Rattle.ojp_values.specs.declared.asks.TripAsk.{TripAsk}
use Rattle.ojp_values.specs.declared.asks.MultiAsk.{MultiAsk}
use Rattle.ojp_values.specs.declared.asks.EventAsk.{EventAsk}
use Rattle.ojp_values.specs.declared.asks.PointsAsk.{PointsAsk}
use Rattle.ojp_values.specs.declared.asks.Ask.TheVariants as asks
use Rattle.ojp_values.specs.declared.replies.Fault.TheVariants as faults
use Rattle.ojp_values.specs.declared.replies.TripReply.{TripReply}
use Rattle.ojp_values.specs.declared.replies.TripReply.TheVariants as trip_replies
use Rattle.ojp_values.specs.declared.replies.MultiReply.TheVariants as multi_replies
use Rattle.ojp_values.specs.declared.replies.EventsReply.TheVariants as events_replies
use Rattle.ojp_values.specs.declared.replies.Delivery.{Delivery}
use Rattle.ojp_values.specs.declared.replies.Delivery.TheVariants as deliveries
use Rattle.ojp_timetable.specs.Tables.{Timetable}
use Rattle.ojp_timetable.specs.GatewayAnswers.{TripByTables}
use Rattle.ojp_exchange.specs.Book.{Book}
use Rattle.ojp_links.specs.Replies.{IsOfKind}
use Rattle.ojp_links.specs.Seen.{View}
use Rattle.ojp_records.specs.declared.queries.Entry.{Entry}
use Rattle.ojp_records.specs.Headline.{AreGiven}
use Rattle.ojp_join.specs.Outcomes.{Ended, IsRegionLost, IsTargetLost}
use Rattle.ojp_join.proofs.OutcomeFacts.{ends_answer}
use Rattle.ojp_turns.specs.declared.search.Outcome.{Outcome}
use Rattle.ojp_turns.specs.declared.search.Search.{Search}
use Rattle.ojp_turns.specs.Faults.{HasCause}
use Rattle.ojp_turns.specs.Searches.{IsNewFor, EndsAs, record_of}
use Rattle.ojp_gateway.specs.Passing.{Grows, Sought}
use Rattle.ojp_gateway.specs.Answers.{Answers, IsRight, NoneRejected, PointsByBook, delivery_of_points}
use Rattle.ojp_gateway.proofs.NamedFacts.{named_stands, place_rose, stands_rose}
use Rattle.ojp_gateway.proofs.PointFacts.{points_by_tables}

-- ---- without a search

pub none_rejected : (book : Book) (v : View) → NoneRejected book v v
none_rejected book v tables told region = refl

pub unserved_multi : (book : Book) (v : View) (ask : MultiAsk) (told : List Entry) (delivery : Delivery) → told ≡ [] → delivery ≡ deliveries.Multi (multi_replies.Fault faults.NotServed) → Answers book v v told (asks.Multi ask) delivery
unserved_multi book v ask told delivery none is =
    record {
      kind = subst (IsOfKind (asks.Multi ask)) (sym is) tt;
      right = λ tables own. is;
      names_failed = λ code e. let no : deliveries.Multi (multi_replies.Fault faults.NotServed) ≡ deliveries.Trip (trip_replies.Fault (faults.RegionFailed code)) = sym is ∙ e in absurd (cc);
      not_served = is;
      by_book = tt;
      ends = none;
      causes = subst (Each (HasCause v v)) (sym none) tt;
      given = tt;
    }

pub unserved_events : (book : Book) (v : View) (ask : EventAsk) (told : List Entry) (delivery : Delivery) → told ≡ [] → delivery ≡ deliveries.Events (events_replies.Fault faults.NotServed) → Answers book v v told (asks.Events ask) delivery
unserved_events book v ask told delivery none is =
    record {
      kind = subst (IsOfKind (asks.Events ask)) (sym is) tt;
      right = λ tables own. is;
      names_failed = λ code e. let no : deliveries.Events (events_replies.Fault faults.NotServed) ≡ deliveries.Trip (trip_replies.Fault (faults.RegionFailed code)) = sym is ∙ e in absurd (cc);
      not_served = is;
      by_book = tt;
      ends = none;
      causes = subst (Each (HasCause v v)) (sym none) tt;
      given = tt;
    }

-- a delivery of points is no reply for a trip
points_no_trip : (place : Option Text) (found : List Point) (reply : TripReply) → delivery_of_points place found ≡ deliveries.Trip reply → ⊥
points_no_trip None found reply e = absurd (cc)
points_no_trip (Some stop) [] reply e = absurd (cc)
points_no_trip (Some stop) (p ∷ found) reply e = absurd (cc)

-- but it is one for points
points_kind : (ask : PointsAsk) (place : Option Text) (found : List Point) → IsOfKind (asks.Points ask) (delivery_of_points place found)
points_kind ask None found = tt
points_kind ask (Some stop) [] = tt
points_kind ask (Some stop) (p ∷ found) = tt

pub points_answered : (book : Book) (v : View) (ask : PointsAsk) (told : List Entry) (delivery : Delivery) → told ≡ [] → PointsByBook book ask.place delivery → Answers book v v told (asks.Points ask) delivery
points_answered book v ask told delivery none by =
    record {
      kind = subst (IsOfKind (asks.Points ask)) (sym by.2) (points_kind ask ask.place by.0);
      right = λ tables own. points_by_tables tables book ask.place delivery own.1 by;
      names_failed = λ code e. absurd (points_no_trip ask.place by.0 (trip_replies.Fault (faults.RegionFailed code)) (sym by.2 ∙ e));
      not_served = tt;
      by_book = by;
      ends = none;
      causes = subst (Each (HasCause v v)) (sym none) tt;
      given = tt;
    }

-- ---- by a search

-- all that the search was told since it was new
begun : (book : Book) (ask : TripAsk) (old new : View) (s now : Search) (outcome : Outcome) → IsNewFor book ask s → Sought book old new s now outcome → Grows book ask old new [] (record_of now)
begun book ask old new s now outcome fresh sought =
    subst (λ (told : List Entry). Grows book ask old new told (record_of now)) fresh.nothing_told
    (subst (λ (a : TripAsk). Grows book a old new (record_of s) (record_of now)) fresh.asks_this sought.grows)

pub search_rejects : (book : Book) (ask : TripAsk) (old new : View) (s now : Search) (outcome : Outcome) → IsNewFor book ask s → Sought book old new s now outcome → NoneRejected book old new
search_rejects book ask old new s now outcome fresh sought tables own region = (begun book ask old new s now outcome fresh sought).rejects_none tables own.0 own.1 tt region

pub ended_so : (book : Book) (ask : TripAsk) (old new : View) (s now : Search) (outcome : Outcome) → IsNewFor book ask s → Sought book old new s now outcome → EndsAs book ask (record_of now) outcome
ended_so book ask old new s now outcome fresh sought = subst (λ (a : TripAsk). EndsAs book a (record_of now) outcome) fresh.asks_this sought.ends

module _ (book : Book) (ask : TripAsk) (old new : View) (told : List Entry) (reply : TripReply) (differ : ask.origin ≢ ask.target) (ended : Ended book ask told reply) (causes : Each (HasCause old new) told) where
  right_by : (tables : List Timetable) → TripByTables tables ask reply ⊎ (IsRegionLost book ask told reply ⊎ IsTargetLost tables ask told reply) → IsRight old new tables (asks.Trip ask) (deliveries.Trip reply)
  right_by tables (inl answers) = inl (reply, refl, answers)
  right_by tables (inr (inl (region, is, stands))) = inr (inl (region, ap (λ (r : TripReply). deliveries.Trip r) is, stands_rose book ask old new told region causes stands))
  right_by tables (inr (inr (is, unknown, (region, failed)))) =
      inr (inr (ap (λ (r : TripReply). deliveries.Trip r) is, unknown, (region, failed.0, place_rose old new told ask.origin region causes failed)))

same_reply : (a b : TripReply) → deliveries.Trip a ≡ deliveries.Trip b → a ≡ b
same_reply a b e = cc

searched_by : (book : Book) (ask : TripAsk) (old new : View) (told : List Entry) (reply : TripReply) → ask.origin ≢ ask.target → Ended book ask told reply → Grows book ask old new [] told → Answers book old new told (asks.Trip ask) (deliveries.Trip reply)
searched_by book ask old new told reply differ ended grown =
    let causes : Each (HasCause old new) told = subst (Each (HasCause old new)) (sym grown.grows) grown.causes in
    record {
      kind = tt;
      right = λ tables own.
          right_by book ask old new told reply differ ended causes tables (ends_answer tables book ask told reply own.1 differ (grown.given tables own.0 tt) ended);
      names_failed = λ code e.
          let is : reply ≡ trip_replies.Fault (faults.RegionFailed code) = same_reply reply (trip_replies.Fault (faults.RegionFailed code)) e in
          let by : Ended book ask told (trip_replies.Fault (faults.RegionFailed code)) = subst (Ended book ask told) is ended in
          stands_rose book ask old new told code causes (named_stands book ask told code by.ends_by);
      not_served = tt;
      by_book = λ alike. absurd (differ alike);
      ends = (λ other. (reply, refl, ended), λ alike. absurd (differ alike));
      causes = causes;
      given = λ tables tells. grown.given tables tells tt;
    }

pub searched : (book : Book) (ask : TripAsk) (old new : View) (s now : Search) (outcome : Outcome) (reply : TripReply) (told : List Entry) → IsNewFor book ask s → Sought book old new s now outcome → Ended book ask (record_of now) reply
    → told ≡ record_of now → Answers book old new told (asks.Trip ask) (deliveries.Trip reply)
searched book ask old new s now outcome reply told fresh sought ended is =
    let differ : ask.origin ≢ ask.target = subst (λ (a : TripAsk). a.origin ≢ a.target) fresh.asks_this fresh.is_search.differ in
    subst (λ (t : List Entry). Answers book old new t (asks.Trip ask) (deliveries.Trip reply)) (sym is)
    (searched_by book ask old new (record_of now) reply differ ended (begun book ask old new s now outcome fresh sought))
