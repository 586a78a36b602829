-- Where nothing is wanted and no pair failed, an arrival at least as early as that of any united journey was heard.
use Rattle.std.proofs.Common.{◌≡◌, ◌≢◌, ℕ, ◌+◌, ◌<◌, ◌≤◌, Bool, true, false, if◌then◌else◌, ◌⊎◌, List, [], ◌∷◌, Option, Some, None, nat_le, refl, sym, ◌∙◌, ap, subst, inl, inr, arith}
use Rattle.std.proofs.lemmas.Bool.{true≢false, cases_Bool, and_cases, ltb-false, leb-false}
use Rattle.ojp_values.specs.Lists.{Among, Each, Pairwise}
use Rattle.ojp_values.specs.Texts.{Text, same, home}
use Rattle.ojp_values.specs.declared.asks.TripAsk.{TripAsk}
use Rattle.ojp_values.specs.declared.asks.MultiAsk.{MultiAsk}
use Rattle.ojp_values.specs.declared.trips.Leg.{Leg}
use Rattle.ojp_values.specs.declared.replies.TripResult.{TripResult}
use Rattle.ojp_values.specs.declared.replies.TripResult.TheVariants as results
use Rattle.ojp_values.specs.declared.replies.MultiReply.TheVariants as multi_replies
use Rattle.ojp_values.specs.declared.replies.Delivery.{Delivery}
use Rattle.ojp_values.specs.declared.replies.Delivery.TheVariants as deliveries
use Rattle.ojp_timetable.specs.Tables.{Timetable}
use Rattle.ojp_timetable.specs.Runs.{IsWell, IsOfRegion, day_long, last_moment}
use Rattle.ojp_timetable.specs.Journeys.{alighted, Leads, IsCrossing}
use Rattle.ojp_timetable.specs.Stepwise.{LeadsOn, Stepwise}
use Rattle.ojp_timetable.specs.Answers.{TargetAnswered, targets_fault}
use Rattle.ojp_exchange.specs.Book.{Book, HasChange, serves, leads_out}
use Rattle.ojp_records.specs.declared.queries.Query.{Query}
use Rattle.ojp_records.specs.declared.queries.Query.TheVariants.{Reach}
use Rattle.ojp_records.specs.declared.queries.Entry.{Entry}
use Rattle.ojp_records.specs.Records.{is_told, is_failed}
use Rattle.ojp_records.specs.Starts.{Arrival, arrivals_heard, arrivals, known_starts, best, arrivals_told}
use Rattle.ojp_records.specs.Wanted.{is_before, can_improve, improving_start, reach_at, wanted_pairs, Improves}
use Rattle.ojp_records.specs.Ends.{failed_at, failed_pairs}
use Rattle.ojp_records.specs.Headline.{AreTablesOf, ReplyGiven, EntryGiven}
use Rattle.ojp_values.proofs.ListFacts.{Member, LeastBelow, least_below, least_among, each_at, among_filter_map}
use Rattle.ojp_timetable.proofs.TextFacts.{same_is, differ_is}
use Rattle.ojp_exchange.proofs.BookFacts.{LinkTable, link_table, is_region, SpotOf, serves_cases, region_served, spot_listed, change_listed, leads_out_listed, one_table, code_listed}
use Rattle.ojp_timetable.proofs.RideFacts.{leads_forward, leads_to_stop, leads_earlier, leg_boards}
use Rattle.ojp_timetable.proofs.Parts.{Parts, HasParts, split_at}
use Rattle.ojp_records.proofs.StartFacts.{way_on_end, goal_end, ResultAt, result_at, arrival_heard, IsAsked, IsAfter, known_start_back, asked_is_known, after_is_known, BestBelow, best_below, BestIs, best_is}
use Rattle.ojp_records.proofs.RecordFacts.{EntryOf, told_is, is_failed_is}
use Rattle.ojp_records.proofs.WantedFacts.{is_improving, is_pair_wanted, spot_pair, own_pair}
use Rattle.ojp_records.proofs.Chained.{start_low}
use Rattle.ojp_records.proofs.Replies.{results_of}
use Rattle.ojp_records.proofs.EarliestWays.{ChangeAt, earliest, Earlier, earliest_order, by_earliest}
use Rattle.ojp_ways.specs.Ways.{LeadsTo, HeardAsGood, KnownAsGood, Beaten, LeadsOut}
use Rattle.ojp_ways.proofs.Complete.{none_is_better}
use Rattle.ojp_records.specs.Pairs.{ends_towards, Pair, pairs_from}
use Rattle.ojp_records.specs.Told.{ReplyFits, EntryFits, IsRecord}

-- the record of a search that wants nothing more of its pairs, of which none failed
pub record IsSettled (tables : List Timetable) (book : Book) (ask : TripAsk) (told : List Entry) : Type 0 where
  pub whole : AreTablesOf tables book
  pub told_well : IsRecord book ask told
  pub given : Each (EntryGiven tables book ask) told
  pub no_wanted : wanted_pairs book ask told ≡ []
  pub no_failed : failed_pairs book ask told ≡ []

-- a pair with a known start is one of the pairs
pair_listed : (tables : List Timetable) (book : Book) (ask : TripAsk) (told : List Entry) (table : Timetable) (stop : Text) (start : ℕ) → AreTablesOf tables book → Among table tables → Among start (known_starts book ask told stop table.region) → Among (record { stop = stop; region = table.region }) (pairs_from book ask.origin)
pair_listed tables book ask told table stop start whole of_tables h = go (known_start_back book ask told stop table.region start h)
  where
    at_spot : (place : Text) → SpotOf book table.region place → Among (record { stop = place; region = table.region }) (pairs_from book ask.origin)
    at_spot place spot =
        subst (λ (r : Text). Among (record { stop = place; region = r }) (pairs_from book ask.origin)) spot.holds.0
        (subst (λ (s : Text). Among (record { stop = s; region = spot.item.region }) (pairs_from book ask.origin)) spot.holds.1 (spot_pair book ask.origin spot.item spot.among))

    at_origin : (home ask.origin ≡ Some table.region) ⊎ SpotOf book table.region ask.origin → Among (record { stop = ask.origin; region = table.region }) (pairs_from book ask.origin)
    at_origin (inl own) = own_pair book ask.origin table.region own (is_region book table.region (code_listed tables book table whole.book_of of_tables))
    at_origin (inr spot) = at_spot ask.origin spot

    at_change : (change : ℕ) (left : Text) → HasChange book stop left table.region change → Among (record { stop = stop; region = table.region }) (pairs_from book ask.origin)
    at_change change left has =
        let link : LinkTable tables has.link = link_table tables has.link ((whole.book_of.links has.link).0 has.listed) in
        let same_one : link.table ≡ table = one_table tables link.table table whole.tables_well link.of_tables of_tables (link.region ∙ has.declaring) in
        let spot : SpotOf book link.table.region link.declares.point.stop = spot_listed tables book link.table link.declares.point whole.book_of link.of_tables link.declares.of_table in
        at_spot stop (record { item = spot.item; among = spot.among; holds = (spot.holds.0 ∙ ap (λ (it : Timetable). it.region) same_one, spot.holds.1 ∙ (link.declares.at ∙ has.at)) })

    go : IsAsked book ask stop table.region start ⊎ IsAfter book ask told stop table.region start → Among (record { stop = stop; region = table.region }) (pairs_from book ask.origin)
    go (inl asked) =
        subst (λ (s : Text). Among (record { stop = s; region = table.region }) (pairs_from book ask.origin)) (sym asked.at)
        (at_origin (serves_cases book table.region ask.origin (subst (λ (s : Text). serves book table.region s ≡ true) asked.at asked.served)))
    go (inr after) = at_change after.change after.arrival.region after.has

nothing : {X : Type 0} (x : X) (xs : List X) → xs ≡ [] → Among x xs → ⊥
nothing x xs e h = subst (Among x) e h

-- a start that can not improve is at least the best arrival, or after the requested day, or after the last moment
not_before : (start : ℕ) (arrival : Option ℕ) → is_before start arrival ≡ false → (value : ℕ) × (arrival ≡ Some value) × (value ≤ start)
not_before start None e = absurd (true≢false e)
not_before start (Some value) e = (value, refl, ltb-false start value e)

improves_not : (ask : TripAsk) (arrival : Option ℕ) (start : ℕ) → start ≤ ask.start + day_long → start ≤ last_moment → can_improve ask arrival start ≡ false → (value : ℕ) × (arrival ≡ Some value) × (value ≤ start)
improves_not ask arrival start within bound e =
    elim (and_cases (is_before start arrival) _ e) [
      | inl best_first ↦ not_before start arrival best_first
      | inr late ↦
          absurd (elim (and_cases (nat_le start (ask.start + day_long)) _ late) [
            | inl day ↦ let over : ask.start + day_long < start = leb-false start (ask.start + day_long) day in omega arith
            | inr moment ↦ let over : last_moment < start = leb-false start last_moment moment in omega arith
          ])
    ]

-- an arrival at the end that is no later was heard
pub record EndHeard (book : Book) (ask : TripAsk) (told : List Entry) (region d : Text) (a : ℕ) : Type 0 where
  pub arrival : Arrival
  pub heard : Among arrival (arrivals book ask told)
  pub at : arrival.stop ≡ d
  pub by_region : arrival.region ≡ region
  pub soon : arrival.moment ≤ a

-- an entry of a pair that can improve has a reply
replied :
    (tables : List Timetable) (book : Book) (ask : TripAsk) (told : List Entry) (pair : Pair) (start : ℕ) (entry : Entry) (reply : Option Delivery)
    → IsSettled tables book ask told → Among pair (pairs_from book ask.origin) → Improves book ask told pair start
    → Among entry told → entry.query ≡ reach_at pair start → entry.reply ≡ reply → (delivery : Delivery) × (entry.reply ≡ Some delivery)
unfolding failed_pairs
replied tables book ask told pair start entry None settled listed improves of_record query none =
    let failed : is_failed told (reach_at pair start) ≡ true = is_failed_is told (reach_at pair start) (entry, of_record, query, none) in
    let at : failed_at told pair (improving_start book ask told pair) ≡ Some pair.region =
    ap (failed_at told pair) (is_improving book ask told pair start improves) ∙ ap (λ (b : Bool). if b then Some pair.region else None) failed in
    absurd (nothing pair.region _ settled.no_failed (among_filter_map (λ (p : Pair). failed_at told p (improving_start book ask told p)) pair pair.region (pairs_from book ask.origin) listed at))
replied tables book ask told pair start entry (Some delivery) settled listed improves of_record query e = (delivery, e)

-- a pair that can improve was told
was_told : (tables : List Timetable) (book : Book) (ask : TripAsk) (told : List Entry) (pair : Pair) (start : ℕ) → IsSettled tables book ask told → Among pair (pairs_from book ask.origin) → Improves book ask told pair start → EntryOf told (reach_at pair start)
was_told tables book ask told pair start settled listed improves =
    elim (cases_Bool (is_told told (reach_at pair start))) [
      | inl yes_told ↦ told_is told (reach_at pair start) yes_told
      | inr untold ↦ absurd (nothing (reach_at pair start) _ settled.no_wanted (is_pair_wanted book ask told pair start listed improves untold))
    ]

-- what the reply tells of a target
result_heard :
    (table : Timetable) (region o : Text) (start t : ℕ) (legs : List Leg) (d : Text) (a : ℕ) (stops : List Text) (found : List TripResult)
    → o ≢ d → a ≤ start + day_long → start ≤ t → Leads table o t legs d a → ResultAt (TargetAnswered table o start) region stops found d
    → Member (arrivals_told region stops found) (λ (it : Arrival). (it.stop ≡ d) × (it.region ≡ region) × (it.moment ≤ a))
result_heard table region o start t legs d a stops found elsewhere within earlier leads it = go it.result refl it.holds
  where
    leads_now : Leads table o start legs d a
    leads_now = leads_earlier table o start t legs d a earlier leads

    go : (result : TripResult) → it.result ≡ result → TargetAnswered table o start d result → Member (arrivals_told region stops found) (λ (x : Arrival). (x.stop ≡ d) × (x.region ≡ region) × (x.moment ≤ a))
    go (results.Trip trip) e answered =
        let m : Member (arrivals_told region stops found) (λ (x : Arrival). (x.stop ≡ d) × (x.region ≡ region) × (x.moment ≡ trip.end)) = it.told trip e in
        let soon : trip.end ≤ a = answered.earliest a legs (elsewhere, within, leads_now) in
        record { item = m.item; among = m.among; holds = (m.holds.0, m.holds.1, subst (λ (n : ℕ). n ≤ a) (sym m.holds.2) soon) }
    go (results.NoTrip stop) e answered = absurd (answered.1 a legs (elsewhere, within, leads_now))

-- a fitting reply that the timetable gives tells an arrival that is no later
reply_heard :
    (tables : List Timetable) (book : Book) (ask : TripAsk) (table : Timetable) (o : Text) (start t : ℕ) (legs : List Leg) (d : Text) (a : ℕ) (delivery : Delivery)
    → AreTablesOf tables book → Among table tables → o ≢ d → a ≤ start + day_long → start ≤ t → Leads table o t legs d a → Among d (ends_towards book ask.target o table.region)
    → ReplyFits book ask (Reach table.region o start) (Some delivery) → ReplyGiven tables book ask (Reach table.region o start) (Some delivery)
    → Member (arrivals_heard book ask (Reach table.region o start) (Some delivery)) (λ (it : Arrival). (it.stop ≡ d) × (it.region ≡ table.region) × (it.moment ≤ a))
reply_heard tables book ask table o start t legs d a (deliveries.Multi (multi_replies.Results found)) whole of_tables elsewhere within earlier leads target fits (own, of_own, region, answered) =
    let is : own ≡ table = one_table tables own table whole.tables_well of_own of_tables region in
    let multi : MultiAsk = record { origin = o; start = start; targets = ends_towards book ask.target o table.region } in
    let pairs_own : Pairwise (TargetAnswered own o start) (ends_towards book ask.target o table.region) found =
    results_of own multi found (targets_fault own o (ends_towards book ask.target o table.region)) answered in
    let pairs_now : Pairwise (TargetAnswered table o start) (ends_towards book ask.target o table.region) found =
    subst (λ (it : Timetable). Pairwise (TargetAnswered it o start) (ends_towards book ask.target o table.region) found) is pairs_own in
    result_heard table table.region o start t legs d a (ends_towards book ask.target o table.region) found elsewhere within earlier leads
    (result_at (TargetAnswered table o start) table.region (ends_towards book ask.target o table.region) found d pairs_now target)
reply_heard tables book ask table o start t legs d a (deliveries.Multi (multi_replies.Fault fault)) whole of_tables elsewhere within earlier leads target fits given = absurd fits
reply_heard tables book ask table o start t legs d a (deliveries.Trip reply) whole of_tables elsewhere within earlier leads target fits given = absurd fits
reply_heard tables book ask table o start t legs d a (deliveries.Events reply) whole of_tables elsewhere within earlier leads target fits given = absurd fits
reply_heard tables book ask table o start t legs d a (deliveries.Points reply) whole of_tables elsewhere within earlier leads target fits given = absurd fits

-- a query at which a pair can improve was told and did not fail, so the region's answer is as good
answered :
    (tables : List Timetable) (book : Book) (ask : TripAsk) (told : List Entry) (table : Timetable) (o : Text) (start t : ℕ) (legs : List Leg) (d : Text) (a : ℕ)
    → IsSettled tables book ask told → Among table tables → o ≢ d → a ≤ ask.start + day_long → ask.start ≤ start → start ≤ t → Leads table o t legs d a
    → Among d (ends_towards book ask.target o table.region) → Among (record { stop = o; region = table.region }) (pairs_from book ask.origin) → Improves book ask told (record { stop = o; region = table.region }) start
    → EndHeard book ask told table.region d a
answered tables book ask told table o start t legs d a settled of_tables elsewhere within low earlier leads target listed improves =
    let pair : Pair = record { stop = o; region = table.region } in
    let entry : EntryOf told (reach_at pair start) = was_told tables book ask told pair start settled listed improves in
    let reply : (delivery : Delivery) × (entry.item.reply ≡ Some delivery) =
    replied tables book ask told pair start entry.item entry.item.reply settled listed improves entry.among entry.holds refl in
    let fits_own : EntryFits book ask entry.item = each_at (EntryFits book ask) entry.item told settled.told_well.fits entry.among in
    let given_own : EntryGiven tables book ask entry.item = each_at (EntryGiven tables book ask) entry.item told settled.given entry.among in
    let fits : ReplyFits book ask (Reach table.region o start) (Some reply.0) =
    subst (λ (r : Option Delivery). ReplyFits book ask (Reach table.region o start) r) reply.1
    (subst (λ (q : Query). ReplyFits book ask q entry.item.reply) entry.holds fits_own) in
    let given : ReplyGiven tables book ask (Reach table.region o start) (Some reply.0) =
    subst (λ (r : Option Delivery). ReplyGiven tables book ask (Reach table.region o start) r) reply.1
    (subst (λ (q : Query). ReplyGiven tables book ask q entry.item.reply) entry.holds given_own) in
    let m : Member (arrivals_heard book ask (Reach table.region o start) (Some reply.0)) (λ (it : Arrival). (it.stop ≡ d) × (it.region ≡ table.region) × (it.moment ≤ a)) =
    reply_heard tables book ask table o start t legs d a reply.0 settled.whole of_tables elsewhere (omega arith) earlier leads target fits given in
    let heard : Among m.item (arrivals_heard book ask entry.item.query entry.item.reply) =
    subst (λ (q : Query). Among m.item (arrivals_heard book ask q entry.item.reply)) (sym entry.holds)
    (subst (λ (r : Option Delivery). Among m.item (arrivals_heard book ask (Reach table.region o start) r)) (sym reply.1) m.among) in
    let soon : m.item.moment ≤ a = m.holds.2 in
    record { arrival = m.item; heard = arrival_heard book ask told entry.item m.item entry.among heard (omega arith); at = m.holds.0; by_region = m.holds.1; soon = soon }

-- a query at which a pair can improve covers an end, or the end is beaten
data Chosen (book : Book) (ask : TripAsk) (told : List Entry) (pair : Pair) (known a : ℕ) : Type 0 where
  IsBeaten : BestBelow book ask told a → Chosen book ask told pair known a
  Covers : (start : ℕ) → Among pair (pairs_from book ask.origin) → Improves book ask told pair start → ask.start ≤ start → start ≤ known → Chosen book ask told pair known a

-- at the least known start of the pair
chosen :
    (tables : List Timetable) (book : Book) (ask : TripAsk) (told : List Entry) (table : Timetable) (o : Text) (known : ℕ) (legs : List Leg) (d : Text) (a : ℕ)
    → IsSettled tables book ask told → Among table tables → a ≤ ask.start + day_long → Leads table o known legs d a
    → Among d (ends_towards book ask.target o table.region) → Among known (known_starts book ask told o table.region)
    → Chosen book ask told (record { stop = o; region = table.region }) known a
chosen tables book ask told table o known legs d a settled of_tables within leads target is_known =
    let first : LeastBelow known (known_starts book ask told o table.region) = least_below known _ is_known in
    let of_starts : Among first.value (known_starts book ask told o table.region) = least_among first.value _ first.is in
    let low : ask.start ≤ first.value = start_low book ask told o table.region first.value settled.told_well of_starts in
    let below : first.value ≤ known = first.below in
    let forward : (known ≤ a) × (known ≤ last_moment) = leads_forward table o known legs d a (settled.whole.tables_well.well table of_tables) leads in
    let before_end : known ≤ a = forward.0 in
    let in_time : known ≤ last_moment = forward.1 in
    elim (cases_Bool (can_improve ask (best book ask told) first.value)) [
      | inl may ↦
          Covers first.value (pair_listed tables book ask told table o first.value settled.whole of_tables of_starts)
          (record { target = d; has_target = target; is_least = first.is; can = may }) low below
      | inr may_not ↦
          let value : (v : ℕ) × (best book ask told ≡ Some v) × (v ≤ first.value) = improves_not ask (best book ask told) first.value (omega arith) (omega arith) may_not in
          let small : value.0 ≤ first.value = value.2 in
          IsBeaten (record { value = value.0; is = value.1; below = omega arith })
    ]

best_later : (book : Book) (ask : TripAsk) (told : List Entry) (a b : ℕ) → a ≤ b → BestBelow book ask told a → BestBelow book ask told b
best_later book ask told a b h it = let below : it.value ≤ a = it.below in record { value = it.value; is = it.is; below = omega arith }

-- the end of a part before a change is a target
crossing_target :
    (tables : List Timetable) (book : Book) (ask : TripAsk) (left right : Timetable) (o stop : Text) (change : ℕ)
    → AreTablesOf tables book → Among left tables → Among right tables → IsWell left → o ≢ stop → IsOfRegion left stop → IsCrossing left stop right change
    → Among stop (ends_towards book ask.target o left.region)
crossing_target tables book ask left right o stop change whole of_left of_right well elsewhere served crossing =
    let spot : SpotOf book left.region crossing.left_declares.point.stop =
    spot_listed tables book left crossing.left_declares.point whole.book_of of_left crossing.left_declares.of_table in
    let at : spot.item.stop ≡ stop = spot.holds.1 ∙ crossing.left_declares.at in
    elim (cases_Bool (same ask.target stop)) [
      | inl is ↦
          let same_stop : ask.target ≡ stop = same_is ask.target stop is in
          subst (λ (s : Text). Among s (ends_towards book ask.target o left.region)) same_stop
          (goal_end book ask.target o left.region (subst (λ (s : Text). serves book left.region s ≡ true) (sym same_stop) (region_served tables book left stop whole.book_of of_left served)))
      | inr differ ↦
          let out : leads_out book left.region stop ≡ true = leads_out_listed tables book left right stop crossing.back whole.book_of of_left of_right crossing.left_declares in
          subst (λ (s : Text). Among s (ends_towards book ask.target o left.region)) at
          (way_on_end book ask.target o left.region spot.item spot.among (sym spot.holds.0) (subst (λ (s : Text). leads_out book left.region s ≡ true) (sym at) out)
          (λ e. elsewhere (e ∙ at)) (λ e. differ_is ask.target stop differ (e ∙ at)))
    ]

-- the search by earliest arrival as ways

abbrev KnownIn : Book → TripAsk → List Entry → Pair → ℕ → Type 0
KnownIn book ask told p l = Among l (known_starts book ask told p.stop p.region)

abbrev HeardIn : Book → TripAsk → List Entry → Pair → ℕ → Type 0
HeardIn book ask told q m = Among (record { stop = q.stop; region = q.region; moment = m }) (arrivals book ask told)

abbrev IsAtEnd : TripAsk → Pair → Type 0
IsAtEnd ask q = q.stop ≡ ask.target

as_crossing : (tables : List Timetable) (table : Timetable) (q p : Pair) (change : ℕ) → ((x y : Timetable) → Among x tables → Among y tables → x.region ≡ y.region → x ≡ y) → Among table tables → table.region ≡ q.region → (it : ChangeAt tables q p change) → IsCrossing table q.stop it.right change
as_crossing tables table q p change one_each of_tables there it =
    let same : it.left ≡ table = one_each it.left table it.of_left of_tables (it.from ∙ sym there) in
    subst (λ (t : Timetable). IsCrossing t q.stop it.right change) same
    it.crossing

settled_here :
    (tables : List Timetable) (book : Book) (ask : TripAsk) (told : List Entry) → IsSettled tables book ask told
    → (p : Pair) (l : ℕ) (q : Pair) (m : ℕ) → KnownIn book ask told p l → (earliest tables ask.origin ask.start).Rides p l q m → m ≤ ask.start + day_long
    → IsAtEnd ask q ⊎ LeadsOut (earliest tables ask.origin ask.start) q m
    → HeardAsGood (earliest tables ask.origin ask.start) Earlier (HeardIn book ask told) q m ⊎ Beaten (earliest tables ask.origin ask.start) Earlier (IsAtEnd ask) (HeardIn book ask told) m
settled_here tables book ask told settled p l q m known (legs, rides) within useful =
    go (chosen tables book ask told rides.table p.stop l legs q.stop m settled rides.of_tables within rides.leads (target useful) known_here)
  where
    well : IsWell rides.table
    well = settled.whole.tables_well.well rides.table rides.of_tables

    served : IsOfRegion rides.table q.stop
    served = leads_to_stop rides.table p.stop l legs q.stop m well rides.leads

    known_here : Among l (known_starts book ask told p.stop rides.table.region)
    known_here = subst (λ (r : Text). Among l (known_starts book ask told p.stop r)) (sym rides.here) known

    target : IsAtEnd ask q ⊎ LeadsOut (earliest tables ask.origin ask.start) q m → Among q.stop (ends_towards book ask.target p.stop rides.table.region)
    target (inl at_end) =
        subst (λ (s : Text). Among s (ends_towards book ask.target p.stop rides.table.region)) (sym at_end)
        (goal_end book ask.target p.stop rides.table.region (subst (λ (s : Text). serves book rides.table.region s ≡ true) at_end (region_served tables book rides.table q.stop settled.whole.book_of rides.of_tables served)))
    target (inr out) =
        crossing_target tables book ask rides.table out.change.1.right p.stop q.stop out.change.0 settled.whole rides.of_tables out.change.1.of_right well rides.elsewhere served
        (as_crossing tables rides.table q out.place out.change.0 settled.whole.tables_well.one_each rides.of_tables rides.there out.change.1)

    beaten : BestBelow book ask told m → Beaten (earliest tables ask.origin ask.start) Earlier (IsAtEnd ask) (HeardIn book ask told) m
    beaten below =
        let best_one : BestIs book ask told below.value = best_is book ask told below.value below.is in
        record {
          place = record { stop = best_one.arrival.stop; region = best_one.arrival.region };
          label = best_one.arrival.moment;
          at_end = best_one.at;
          heard = best_one.heard;
          as_good = subst (λ (n : ℕ). n ≤ m) best_one.is below.below;
        }

    heard_here : EndHeard book ask told rides.table.region q.stop m → HeardAsGood (earliest tables ask.origin ask.start) Earlier (HeardIn book ask told) q m
    heard_here it =
        let here : Among (record { stop = q.stop; region = q.region; moment = it.arrival.moment }) (arrivals book ask told) =
        subst (λ (r : Text). Among (record { stop = q.stop; region = r; moment = it.arrival.moment }) (arrivals book ask told)) (it.by_region ∙ rides.there)
        (subst (λ (s : Text). Among (record { stop = s; region = it.arrival.region; moment = it.arrival.moment }) (arrivals book ask told)) it.at it.heard) in
        record { label = it.arrival.moment; heard = here; as_good = it.soon }

    go : Chosen book ask told (record { stop = p.stop; region = rides.table.region }) l m → HeardAsGood (earliest tables ask.origin ask.start) Earlier (HeardIn book ask told) q m ⊎ Beaten (earliest tables ask.origin ask.start) Earlier (IsAtEnd ask) (HeardIn book ask told) m
    go (IsBeaten below) = inr (beaten below)
    go (Covers start listed improves low early) =
        inl (heard_here (answered tables book ask told rides.table p.stop start l legs q.stop m settled rides.of_tables rides.elsewhere within low early rides.leads (target useful) listed improves))

closed_here :
    (tables : List Timetable) (book : Book) (ask : TripAsk) (told : List Entry) → IsSettled tables book ask told
    → (q : Pair) (m : ℕ) (p : Pair) (l : ℕ) → HeardIn book ask told q m → (earliest tables ask.origin ask.start).Change q m p l
    → KnownAsGood (earliest tables ask.origin ask.start) Earlier (KnownIn book ask told) p l
closed_here tables book ask told settled q m p l heard (change, it, is) =
    let declared : HasChange book q.stop it.left.region it.right.region change =
    change_listed tables book it.left it.right q.stop change settled.whole.book_of it.of_left it.of_right it.crossing.right_declares in
    let has : HasChange book p.stop q.region p.region change =
    subst (λ (s : Text). HasChange book s q.region p.region change) (sym it.at)
    (subst (λ (r : Text). HasChange book q.stop q.region r change) it.to (subst (λ (r : Text). HasChange book q.stop r it.right.region change) it.from declared)) in
    record {
      label = m + change;
      known = after_is_known book ask told p.stop p.region (record { stop = q.stop; region = q.region; moment = m }) change heard (sym it.at) (λ e. it.crossing.other (it.from ∙ (sym e ∙ sym it.to))) has;
      as_good = omega arith;
    }

-- any row of rides and changes to the target ends not before the best arrival
row_not_before :
    (tables : List Timetable) (book : Book) (ask : TripAsk) (told : List Entry) (p : Pair) (l : ℕ) (q : Pair) (a : ℕ)
    → IsSettled tables book ask told → q.stop ≡ ask.target → a ≤ ask.start + day_long → Among l (known_starts book ask told p.stop p.region)
    → LeadsTo (earliest tables ask.origin ask.start) q a p l → BestBelow book ask told a
row_not_before tables book ask told p l q a settled at_end within known leads =
    best_later book ask told beaten.label a beaten.as_good (best_below book ask told (record { stop = beaten.place.stop; region = beaten.place.region; moment = beaten.label }) beaten.heard beaten.at_end)
  where
    beaten : Beaten (earliest tables ask.origin ask.start) Earlier (IsAtEnd ask) (HeardIn book ask told) a
    beaten =
        none_is_better (earliest tables ask.origin ask.start) Earlier (earliest_order tables ask.origin ask.start settled.whole.tables_well.well)
        (λ (m : ℕ). m ≤ ask.start + day_long) (IsAtEnd ask) (KnownIn book ask told) (HeardIn book ask told)
        (λ k m h i. omega (arith, h, i)) (settled_here tables book ask told settled) (closed_here tables book ask told settled)
        q a p l at_end within (record { label = l; known = known; as_good = omega arith }) leads

-- any united journey arrives not before the best arrival
pub journey_not_before : (tables : List Timetable) (book : Book) (ask : TripAsk) (told : List Entry) (a : ℕ) → IsSettled tables book ask told → (legs : List Leg) → Stepwise tables ask.origin ask.start ask.target a legs → BestBelow book ask told a
journey_not_before tables book ask told a settled [] steps = absurd steps
journey_not_before tables book ask told a settled (leg ∷ legs) (table, of_tables, differ, within, ride, boards, leaves, on) =
    let well : IsWell table = settled.whole.tables_well.well table of_tables in
    let served : IsOfRegion table ask.origin = subst (IsOfRegion table) boards (leg_boards table leg well ride) in
    let known : Among ask.start (known_starts book ask told ask.origin table.region) =
    asked_is_known book ask told table.region (region_served tables book table ask.origin settled.whole.book_of of_tables served) in
    let steps : LeadsOn tables leg.board table (alighted leg) legs ask.target a = subst (λ (from : Text). LeadsOn tables from table (alighted leg) legs ask.target a) (sym boards) on in
    let parts : HasParts tables ask.target a table leg.board leg.departs = split_at tables table leg legs ask.target a of_tables ride steps in
    let from_origin : Parts tables ask.target a table ask.origin leg.departs parts.rides = subst (λ (s : Text). Parts tables ask.target a table s leg.departs parts.rides) boards parts.parts in
    let leads : (region : Text) × LeadsTo (earliest tables ask.origin ask.start) (record { stop = ask.target; region = region }) a (record { stop = ask.origin; region = table.region }) ask.start =
    by_earliest tables ask.origin ask.start ask.target a table ask.origin ask.start leg.departs parts.rides leaves from_origin in
    row_not_before tables book ask told (record { stop = ask.origin; region = table.region }) ask.start (record { stop = ask.target; region = leads.0 }) a settled refl within known leads.1
