-- The region of an open query has each place that its subrequest names, and no target is the stop that is asked from.
use Rattle.std.proofs.Common.{◌≡◌, ◌≢◌, ℕ, Bool, true, false, not, cond, ◌&&◌, ◌||◌, ◌⊎◌, List, [], ◌∷◌, ◌++◌, map, find, option_map, Some, None, refl, sym, ◌∙◌, ap, subst, inl, inr}
use Rattle.std.proofs.lemmas.Bool.{and_parts, not-true}
use Rattle.std.specs.List.{filter, list_any}
use Rattle.ojp_values.specs.Lists.{Among, Each}
use Rattle.ojp_values.specs.Texts.{Text, same, home}
use Rattle.ojp_values.specs.declared.asks.TripAsk.{TripAsk}
use Rattle.ojp_values.specs.declared.trips.Point.{Point}
use Rattle.ojp_values.specs.declared.replies.Fault.TheVariants as faults
use Rattle.ojp_values.proofs.ListFacts.{Member, among_append, among_map_back, among_filter_back, among_list_any, least_among}
use Rattle.ojp_timetable.specs.Tables.{Timetable, Place, has}
use Rattle.ojp_timetable.specs.Runs.{IsWell, IsAt}
use Rattle.ojp_timetable.specs.Answers.{targets_fault}
use Rattle.ojp_timetable.specs.GatewayAnswers.{IsPlace, IsPlaceBy}
use Rattle.ojp_timetable.proofs.TextFacts.{same_is, is_same, is_differ, differ_is}
use Rattle.ojp_exchange.specs.Book.{Book, Spot, HasChange, leads_out, serves}
use Rattle.ojp_exchange.proofs.BookFacts.{SpotTable, spot_table, serves_cases, LinkTable, link_table, one_table}
use Rattle.ojp_records.specs.declared.queries.Query.TheVariants.{Check, Reach}
use Rattle.ojp_records.specs.declared.queries.Entry.{Entry}
use Rattle.ojp_records.specs.Places.{Known, place_state, checks_in, check}
use Rattle.ojp_records.specs.Pairs.{is_way_on, served_goal, ends_towards}
use Rattle.ojp_records.specs.Starts.{known_starts}
use Rattle.ojp_records.specs.Wanted.{wanted, Improves}
use Rattle.ojp_records.specs.Headline.{AreTablesOf, EntryGiven, AreGiven}
use Rattle.ojp_records.specs.Laws.{OpenIsSure}
use Rattle.ojp_records.proofs.StartFacts.{IsAsked, IsAfter, known_start_back}
use Rattle.ojp_records.proofs.PlaceFacts.{OriginCheck, TargetCheck, AtPair, checks_given, known_is, place_is}
use Rattle.ojp_records.proofs.WantedFacts.{WantedBy, wanted_by, check_is}
use Rattle.ojp_records.proofs.BoardFacts.{not_at_target, reach_improves}

-- ---- what a region has

-- an exchange point that a region declares is one of its places
point_placed : (table : Timetable) (point : Point) → IsWell table → Among point table.points → has table point.stop ≡ true
unfolding has
point_placed table point well listed =
    let it : (place : Place) × Among place table.places × IsAt point place = well.placed point listed in
    among_list_any (λ (place : Place). same point.stop place.stop) it.0 table.places it.1 (is_same point.stop it.0.stop it.2.0)

spot_placed : (tables : List Timetable) (book : Book) (table : Timetable) (spot : Spot) → AreTablesOf tables book → Among table tables → Among spot book.spots → spot.region ≡ table.region → has table spot.stop ≡ true
spot_placed tables book table spot whole of_tables listed of_region =
    let it : SpotTable tables spot = spot_table tables spot ((whole.book_of.spots spot).0 listed) in
    let is : it.table ≡ table = one_table tables it.table table whole.tables_well it.of_tables of_tables (it.region ∙ of_region) in
    subst (λ (s : Text). has table s ≡ true) it.at
    (subst (λ (x : Timetable). has x it.point.stop ≡ true) is (point_placed it.table it.point (whole.tables_well.well it.table it.of_tables) it.listed))

-- a place that the region serves it has
served_placed : (tables : List Timetable) (book : Book) (table : Timetable) (stop : Text) → AreTablesOf tables book → Among table tables → IsPlace tables stop → serves book table.region stop ≡ true → has table stop ≡ true
served_placed tables book table stop whole of_tables place served =
    elim (serves_cases book table.region stop served) [
      | inl own ↦
          let by : IsPlaceBy tables stop (Some table.region) = place_is tables stop (Some table.region) own place in
          let is : by.0 ≡ table = one_table tables by.0 table whole.tables_well by.1 of_tables by.2 in
          subst (λ (x : Timetable). has x stop ≡ true) is by.3
      | inr spot ↦ subst (λ (s : Text). has table s ≡ true) spot.holds.1 (spot_placed tables book table spot.item whole of_tables spot.among spot.holds.0)
    ]

-- one changes to a region only where it has the stop
change_placed : (tables : List Timetable) (book : Book) (table : Timetable) (stop left : Text) (change : ℕ) → AreTablesOf tables book → Among table tables → HasChange book stop left table.region change → has table stop ≡ true
change_placed tables book table stop left change whole of_tables it =
    let link : LinkTable tables it.link = link_table tables it.link ((whole.book_of.links it.link).0 it.listed) in
    let is : link.table ≡ table = one_table tables link.table table whole.tables_well link.of_tables of_tables (link.region ∙ it.declaring) in
    subst (λ (s : Text). has table s ≡ true) (link.declares.at ∙ it.at)
    (subst (λ (x : Timetable). has x link.declares.point.stop ≡ true) is (point_placed link.table link.declares.point (whole.tables_well.well link.table link.of_tables) link.declares.of_table))

-- the stop of a pair with a known start
start_placed : (tables : List Timetable) (book : Book) (ask : TripAsk) (told : List Entry) (table : Timetable) (stop : Text) (start : ℕ) → AreTablesOf tables book → Among table tables → IsPlace tables ask.origin → Among start (known_starts book ask told stop table.region) → has table stop ≡ true
start_placed tables book ask told table stop start whole of_tables origin known = go (known_start_back book ask told stop table.region start known)
  where
    go : IsAsked book ask stop table.region start ⊎ IsAfter book ask told stop table.region start → has table stop ≡ true
    go (inl asked) =
        subst (λ (s : Text). has table s ≡ true) (sym asked.at)
        (served_placed tables book table ask.origin whole of_tables origin (subst (λ (s : Text). serves book table.region s ≡ true) asked.at asked.served))
    go (inr after) = change_placed tables book table stop after.arrival.region after.change whole of_tables after.has

-- ---- the targets of a pair

goal_if : (b : Bool) (goal target : Text) → Among target (cond b (goal ∷ []) []) → (b ≡ true) × (target ≡ goal)
goal_if true goal target (inl e) = (refl, e)
goal_if true goal target (inr none) = absurd none
goal_if false goal target h = absurd h

-- a target is a place of the region, and not the stop
target_placed :
    (tables : List Timetable) (book : Book) (table : Timetable) (goal stop target : Text)
    → AreTablesOf tables book → Among table tables → IsPlace tables goal → stop ≢ goal → Among target (ends_towards book goal stop table.region)
    → (has table target ≡ true) × (stop ≢ target)
unfolding ends_towards
target_placed tables book table goal stop target whole of_tables place differ h =
    elim (among_append target (map (λ (spot : Spot). spot.stop) (filter (is_way_on book goal stop table.region) book.spots)) (served_goal book goal table.region) h) [
      | inl way ↦ by_way (among_map_back (λ (spot : Spot). spot.stop) target (filter (is_way_on book goal stop table.region) book.spots) way)
      | inr served ↦
          let is : (serves book table.region goal ≡ true) × (target ≡ goal) = goal_if (serves book table.region goal) goal target served in
          (subst (λ (s : Text). has table s ≡ true) (sym is.1) (served_placed tables book table goal whole of_tables place is.0), λ e. differ (e ∙ is.1))
    ]
  where
    by_way : Member (filter (is_way_on book goal stop table.region) book.spots) (λ (spot : Spot). target ≡ spot.stop) → (has table target ≡ true) × (stop ≢ target)
    by_way m =
        let listed : Among m.item book.spots × (is_way_on book goal stop table.region m.item ≡ true) = among_filter_back (is_way_on book goal stop table.region) m.item book.spots m.among in
        let of_region : (same table.region m.item.region ≡ true) × ((leads_out book table.region m.item.stop && (not (same stop m.item.stop) && not (same goal m.item.stop))) ≡ true) = and_parts _ _ listed.1 in
        let out : (leads_out book table.region m.item.stop ≡ true) × ((not (same stop m.item.stop) && not (same goal m.item.stop)) ≡ true) = and_parts _ _ of_region.1 in
        let away : (not (same stop m.item.stop) ≡ true) × (not (same goal m.item.stop) ≡ true) = and_parts _ _ out.1 in (
          subst (λ (s : Text). has table s ≡ true) (sym m.holds) (spot_placed tables book table m.item whole of_tables listed.0 (sym (same_is table.region m.item.region of_region.0))),
          λ e. differ_is stop m.item.stop (not-true _ away.0) (e ∙ m.holds),
        )

-- ---- no fault

none_same : (stop : Text) (targets : List Text) → ((target : Text) → Among target targets → stop ≢ target) → list_any (same stop) targets ≡ false
none_same stop [] differ = refl
none_same stop (target ∷ more) differ =
    ap (λ (b : Bool). b || list_any (same stop) more) (is_differ stop target (differ target (inl refl))) ∙ none_same stop more (λ x h. differ x (inr h))

none_lacks : (table : Timetable) (stops : List Text) → ((stop : Text) → Among stop stops → has table stop ≡ true) → find (λ (stop : Text). not (has table stop)) stops ≡ None
none_lacks table [] all = refl
none_lacks table (stop ∷ more) all =
    ap (λ (b : Bool). cond (not b) (Some stop) (find (λ (it : Text). not (has table it)) more)) (all stop (inl refl)) ∙ none_lacks table more (λ x h. all x (inr h))

no_fault : (table : Timetable) (stop : Text) (targets : List Text) → has table stop ≡ true → ((target : Text) → Among target targets → (has table target ≡ true) × (stop ≢ target)) → targets_fault table stop targets ≡ None
no_fault table stop targets here all =
    ap (λ (b : Bool). cond b (Some (faults.SameStop stop)) (option_map faults.StopUnknown (find (λ (it : Text). not (has table it)) (stop ∷ targets)))) (none_same stop targets (λ target h. (all target h).1))
    ∙ ap (option_map faults.StopUnknown) (none_lacks table (stop ∷ targets) places)
  where
    places : (it : Text) → Among it (stop ∷ targets) → has table it ≡ true
    places it (inl e) = subst (λ (s : Text). has table s ≡ true) (sym e) here
    places it (inr h) = (all it h).0

-- ---- an open query

each_front : (P : Entry → Type 0) (before since : List Entry) → Each P (before ++ since) → Each P before
each_front P [] since all = tt
each_front P (entry ∷ before) since all = (all.0, each_front P before since all.1)

pair_is_sure :
    (tables : List Timetable) (book : Book) (ask : TripAsk) (told : List Entry) (table : Timetable) (stop : Text) (start : ℕ)
    → AreTablesOf tables book → ask.origin ≢ ask.target → AreGiven tables book ask told → Among table tables
    → Among (Reach table.region stop start) (wanted book ask told)
    → targets_fault table stop (ends_towards book ask.target stop table.region) ≡ None
pair_is_sure tables book ask told table stop start whole differ given of_tables was = go (wanted_by book ask told (Reach table.region stop start) was)
  where
    no_check : (place : Text) → Among (Reach table.region stop start) (check place) → ⊥
    no_check place h =
        let is : (code : Text) × (home place ≡ Some code) × (Reach table.region stop start ≡ Check code place) = check_is place (Reach table.region stop start) h in
        let same_query : Reach table.region stop start ≡ Check is.0 place = is.2 in
        cc

    known : (place : Text) → place_state book (checks_in told) place ≡ Known → IsPlace tables place
    known place e = known_is tables book (checks_in told) ask.start whole (checks_given tables book ask told given) place e

    improves : Improves book ask told (record { stop = stop; region = table.region }) start
    improves = reach_improves book ask told table.region stop start was

    is_known : Among start (known_starts book ask told stop table.region)
    is_known = least_among start _ improves.is_least

    go : WantedBy book ask told (Reach table.region stop start) → targets_fault table stop (ends_towards book ask.target stop table.region) ≡ None
    go (OriginCheck o h) = absurd (no_check ask.origin h)
    go (TargetCheck heard t h) = absurd (no_check ask.target h)
    go (AtPair o t h) =
        no_fault table stop (ends_towards book ask.target stop table.region)
        (start_placed tables book ask told table stop start whole of_tables (known ask.origin o) is_known)
        (λ target listed. target_placed tables book table ask.target stop target whole of_tables (known ask.target t)
        (not_at_target book ask told table.region stop start differ is_known improves.can) listed)

pub open_is_sure : OpenIsSure
open_is_sure tables book ask told (Check region stop) table whole differ given it of_tables at = tt
open_is_sure tables book ask told (Reach region stop start) table whole differ given it of_tables at =
    subst (λ (r : Text). targets_fault table stop (ends_towards book ask.target stop r) ≡ None) at
    (pair_is_sure tables book ask it.before table stop start whole differ
    (each_front (EntryGiven tables book ask) it.before it.since (subst (AreGiven tables book ask) (sym it.split) given)) of_tables
    (subst (λ (r : Text). Among (Reach r stop start) (wanted book ask it.before)) (sym at) it.was_wanted))
