-- What many timetables answer, and what book they make, does not depend on their order.
use Rattle.std.proofs.Common.{◌≡◌, ℕ, cond, List, [], ◌∷◌, Option, Some, None, map, refl, sym, ap, subst, inl, inr, arith}
use Rattle.std.specs.List.Sorted.{IsPermutation}
use Rattle.std.proofs.lemmas.List.Sorted.{IsPermutation-map, length_permutation, sum_by-IsPermutation}
use Rattle.ojp_values.specs.Lists.{Among, IsRising}
use Rattle.ojp_values.specs.Texts.{Text, home, same, text_lt}
use Rattle.ojp_values.specs.declared.asks.TripAsk.{TripAsk}
use Rattle.ojp_values.specs.declared.asks.Ask.{Ask}
use Rattle.ojp_values.specs.declared.asks.Ask.TheVariants as asks
use Rattle.ojp_values.specs.declared.trips.Leg.{Leg}
use Rattle.ojp_values.specs.declared.trips.Point.{Point}
use Rattle.ojp_values.specs.declared.replies.Fault.TheVariants as faults
use Rattle.ojp_values.specs.declared.replies.TripReply.{TripReply}
use Rattle.ojp_values.specs.declared.replies.TripReply.TheVariants as trip_replies
use Rattle.ojp_values.specs.declared.replies.Delivery.{Delivery}
use Rattle.ojp_timetable.specs.Tables.{Timetable}
use Rattle.ojp_timetable.specs.Journeys.{AllFollow, Arrives, MayFollow, Standing, United, after, alighted}
use Rattle.ojp_timetable.specs.GatewayAnswers.{EndsAreKnown, GatewayAnswers, IsDeclaredBy, IsPlace, IsPlaceBy, PointsByTables, TripByTables}
use Rattle.ojp_exchange.specs.declared.region_points.RegionPoints.{RegionPoints}
use Rattle.ojp_exchange.specs.declared.refusals.BookRefused.{BookRefused}
use Rattle.ojp_exchange.specs.declared.refusals.BookRefused.TheVariants as refusals
use Rattle.ojp_exchange.specs.Book.{Book, HasCode, HasLink, HasSpot, IsBookOf, Link, Spot, points_of}
use Rattle.ojp_exchange.specs.Joins.{AreTooMany, HaveOwnCodes, IsDispute, IsLeastTwice, JoinFails, times}
use Rattle.ojp_exchange.proofs.MadeFacts.{among_back, among_map, among_moved, code_list, map_among, own_codes}
use Rattle.ojp_links.specs.Seen.{region_of_table}
use Rattle.ojp_records.specs.declared.queries.Query.{Query}
use Rattle.ojp_records.specs.declared.queries.Entry.{Entry}
use Rattle.ojp_records.specs.Headline.{AreGiven, AreTablesOf, ReplyGiven}
use Rattle.ojp_traces.specs.Traces.{EndsWith, TraceOf}

-- ---- timetables that are all among others

module _ (us vs : List Timetable) (sub : (table : Timetable) → Among table us → Among table vs) where
  may_follow : (at : Standing) (leg : Leg) → MayFollow us at leg → MayFollow vs at leg
  may_follow at leg (inl (table, among, region, follows)) = inl (table, sub table among, region, follows)
  may_follow at leg (inr (left, right, l, r, region, crosses)) = inr (left, right, sub left l, sub right r, region, crosses)

  all_follow : (at : Standing) (legs : List Leg) → AllFollow (MayFollow us) at legs → AllFollow (MayFollow vs) at legs
  all_follow at [] h = tt
  all_follow at (leg ∷ legs) h = (may_follow at leg h.0, all_follow (after at leg) legs h.1)

  united : (o : Text) (t : ℕ) (d : Text) (a : ℕ) (legs : List Leg) → United us o t d a legs → United vs o t d a legs
  united o t d a [] h = absurd h
  united o t d a (leg ∷ legs) (differ, within, (table, among, ride), board, departs, follow, at, elsewhere) =
      (differ, within, (table, sub table among, ride), board, departs, all_follow (alighted leg) legs follow, at, elsewhere)

  arrives : (o : Text) (t : ℕ) (d : Text) (a : ℕ) → Arrives us o t d a → Arrives vs o t d a
  arrives o t d a (legs, h) = (legs, united o t d a legs h)

  place_by : (stop : Text) (of : Option Text) → IsPlaceBy us stop of → IsPlaceBy vs stop of
  place_by stop None (table, among, point) = (table, sub table among, point)
  place_by stop (Some code) (table, among, region, has) = (table, sub table among, region, has)

  place : (stop : Text) → IsPlace us stop → IsPlace vs stop
  place stop h = place_by stop (home stop) h

  declared : (point : Point) → IsDeclaredBy us point → IsDeclaredBy vs point
  declared point (table, among, h) = (table, sub table among, h)

  list_among : (list : RegionPoints) → Among list (map points_of us) → Among list (map points_of vs)
  list_among list a =
      let found = among_map points_of us list a in
      subst (λ (l : RegionPoints). Among l (map points_of vs)) found.2 (map_among points_of vs found.0 (sub found.0 found.1))

  has_code : (code : Text) → HasCode (map points_of us) code → HasCode (map points_of vs) code
  has_code code (list, among, is) = (list, list_among list among, is)

  has_spot : (spot : Spot) → HasSpot (map points_of us) spot → HasSpot (map points_of vs) spot
  has_spot spot h = record { list = h.list; of_lists = list_among h.list h.of_lists; code = h.code; point = h.point; listed = h.listed; at = h.at; time = h.time }

  has_link : (link : Link) → HasLink (map points_of us) link → HasLink (map points_of vs) link
  has_link link h = record {
    list = h.list;
    of_lists = list_among h.list h.of_lists;
    code = h.code;
    point = h.point;
    listed = h.listed;
    at = h.at;
    neighbour = h.neighbour;
    declared = h.declared;
    other = h.other;
    time = h.time;
  }

-- the codes of the lists are those of the timetables
codes_listed : (tables : List Timetable) → code_list (map points_of tables) ≡ map region_of_table tables
codes_listed [] = refl
codes_listed (table ∷ tables) = ap (λ (codes : List Text). table.region ∷ codes) (codes_listed tables)

-- ---- timetables in two orders

module _ (given rising : List Timetable) (p : IsPermutation given rising) where
  there : (table : Timetable) → Among table given → Among table rising
  there table a = among_moved given rising table p a

  back : (table : Timetable) → Among table rising → Among table given
  back table a = among_back given rising table p a

  ends_known : (ask : TripAsk) → EndsAreKnown rising ask → EndsAreKnown given ask
  ends_known ask h = record { differ = h.differ; origin = place rising given back ask.origin h.origin; target = place rising given back ask.target h.target }

  trip_by : (ask : TripAsk) (reply : TripReply) → TripByTables rising ask reply → TripByTables given ask reply
  trip_by ask (trip_replies.Trip trip) (known, right) = (
    ends_known ask known,
    record {
      journey = united rising given back ask.origin ask.start ask.target trip.end trip.legs right.journey;
      earliest = λ a h. right.earliest a (arrives given rising there ask.origin ask.start ask.target a h);
      totals = right.totals;
    },
  )
  trip_by ask (trip_replies.Fault (faults.SameStop stop)) h = h
  trip_by ask (trip_replies.Fault (faults.StopUnknown stop)) (differ, unknown, which) = (
    differ,
    λ h. unknown (place given rising there stop h),
    elim which [ inl e ↦ inl e | inr known ↦ inr (known.0, place rising given back ask.origin known.1) ],
  )
  trip_by ask (trip_replies.Fault (faults.NoTrip stop)) (is, known, none) =
      (is, ends_known ask known, λ a h. none a (arrives given rising there ask.origin ask.start ask.target a h))
  trip_by ask (trip_replies.Fault (faults.RegionFailed region)) h = absurd h
  trip_by ask (trip_replies.Fault faults.NotServed) h = absurd h

  points_by : (at : Option Text) (delivery : Delivery) → PointsByTables rising at delivery → PointsByTables given at delivery
  points_by at delivery (all, are, is) = (
    all,
    record {
      just_these = λ point. (λ a. declared rising given back point ((are.just_these point).0 a), λ h. (are.just_these point).1 (declared given rising there point h));
      rising = are.rising;
    },
    is,
  )

  -- the gateway's answer
  pub answers_given : (ask : Ask) (delivery : Delivery) → GatewayAnswers rising ask delivery → GatewayAnswers given ask delivery
  answers_given (asks.Trip ask) delivery (reply, is, by) = (reply, is, trip_by ask reply by)
  answers_given (asks.Multi ask) delivery h = h
  answers_given (asks.Events ask) delivery h = h
  answers_given (asks.Points ask) delivery h = points_by ask.place delivery h

  -- the book
  pub book_given : (book : Book) → IsBookOf (map points_of rising) book → IsBookOf (map points_of given) book
  book_given book b = record {
    codes = λ code. (λ a. has_code rising given back code ((b.codes code).0 a), λ h. (b.codes code).1 (has_code given rising there code h));
    spots = λ spot. (λ a. has_spot rising given back spot ((b.spots spot).0 a), λ h. (b.spots spot).1 (has_spot given rising there spot h));
    links = λ link. (λ a. has_link rising given back link ((b.links link).0 a), λ h. (b.links link).1 (has_link given rising there link h));
    codes_rise = b.codes_rise;
    spots_rise = b.spots_rise;
    links_rise = b.links_rise;
  }

  pub tables_given : (book : Book) → AreTablesOf rising book → AreTablesOf given book
  tables_given book h = record {
    tables_well = record {
      well = λ table a. h.tables_well.well table (there table a);
      one_each = λ x y a b e. h.tables_well.one_each x y (there x a) (there y b) e;
    };
    book_of = book_given book h.book_of;
    book_well = h.book_well;
  }

  -- the trace
  reply_given : (book : Book) (ask : TripAsk) (query : Query) (reply : Option Delivery) → ReplyGiven rising book ask query reply → ReplyGiven given book ask query reply
  reply_given book ask query None h = tt
  reply_given book ask query (Some reply) (table, among, region, answers) = (table, back table among, region, answers)

  told_given : (book : Book) (ask : TripAsk) (told : List Entry) → AreGiven rising book ask told → AreGiven given book ask told
  told_given book ask [] h = tt
  told_given book ask (entry ∷ told) h = (reply_given book ask entry.query entry.reply h.0, told_given book ask told h.1)

  pub trace_given : (book : Book) (ask : Ask) (order : ℕ) (text : Text) → TraceOf rising book ask order text → TraceOf given book ask order text
  trace_given book (asks.Trip ask) order text h = record {
    same_stop = h.same_stop;
    search = λ differ. ended book ask order text (h.search differ);
  }
    where
      ended : (book : Book) (ask : TripAsk) (order : ℕ) (text : Text) → EndsWith rising book ask order text → EndsWith given book ask order text
      ended book ask order text e = record { reply = e.reply; turns = e.turns; last = e.last; ends = e.ends; given = told_given book ask e.last.told e.given; is_text = e.is_text }
  trace_given book (asks.Multi ask) order text h = h
  trace_given book (asks.Events ask) order text h = h
  trace_given book (asks.Points ask) order text h = h

  times_given : (code : Text) → times (map points_of rising) code ≡ times (map points_of given) code
  times_given code =
      sum_by-IsPermutation (λ (list : RegionPoints). cond (same code list.code) 1 0) (map points_of given) (map points_of rising) (IsPermutation-map points_of given rising p)

  own_given : HaveOwnCodes (map points_of rising) → HaveOwnCodes (map points_of given)
  own_given own code = omega (arith, own code, times_given code)

  twice_given : (code : Text) → IsLeastTwice (map points_of rising) code → IsLeastTwice (map points_of given) code
  twice_given code h = record {
    twice = omega (arith, h.twice, times_given code);
    least = λ other two. h.least other (omega (arith, two, times_given other));
  }

  too_many_given : AreTooMany (map points_of rising) → AreTooMany (map points_of given)
  too_many_given (inl more) = inl (omega (arith, more, length_permutation (map points_of given) (map points_of rising) (IsPermutation-map points_of given rising p)))
  too_many_given (inr (book, of, more)) = inr (book, book_given book of, more)

  dispute_given : (point left right : Text) → IsDispute (map points_of rising) point left right → IsDispute (map points_of given) point left right
  dispute_given point left right h = record {
    own = own_given h.own;
    book = h.book;
    book_of = book_given h.book h.book_of;
    regions_few = h.regions_few;
    stops_few = h.stops_few;
    first = h.first;
  }

  -- the reason why there is no book
  pub refused_given : (reason : BookRefused) → JoinFails (map points_of rising) reason → JoinFails (map points_of given) reason
  refused_given (refusals.TwiceRegion code) h = twice_given code h
  refused_given refusals.TooMany (own, more) = (own_given own, too_many_given more)
  refused_given (refusals.Disagree point left right) h = dispute_given point left right h
  refused_given refusals.NoMemory h = tt

  -- each timetable is of a region of its own, where the codes rise
  pub own_of_rising : (rise : IsRising text_lt (map region_of_table rising)) → HaveOwnCodes (map points_of given)
  own_of_rising rise =
      own_codes (map points_of given) (map region_of_table rising)
      (subst (λ (codes : List Text). IsPermutation codes (map region_of_table rising)) (sym (codes_listed given)) (IsPermutation-map region_of_table given rising p)) rise
