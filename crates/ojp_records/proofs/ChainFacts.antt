-- Chained trips are parts of a united journey.
use Rattle.std.proofs.Common.{◌≡◌, ◌≢◌, ℕ, ◌+◌, ◌≤◌, List, [], ◌∷◌, ◌++◌, Option, Some, refl, sym, ◌∙◌, subst, inl, inr}
use Rattle.std.specs.List.{flat_map}
use Rattle.ojp_values.specs.Lists.{Among, Pairwise}
use Rattle.ojp_values.specs.Texts.{Text}
use Rattle.ojp_values.specs.declared.asks.TripAsk.{TripAsk}
use Rattle.ojp_values.specs.declared.asks.MultiAsk.{MultiAsk}
use Rattle.ojp_values.specs.declared.trips.Leg.{Leg}
use Rattle.ojp_values.specs.declared.trips.Trip.{Trip}
use Rattle.ojp_values.specs.declared.replies.TripResult.{TripResult}
use Rattle.ojp_values.specs.declared.replies.TripResult.TheVariants as results
use Rattle.ojp_values.specs.declared.replies.MultiReply.TheVariants as multi_replies
use Rattle.ojp_values.specs.declared.replies.Delivery.{Delivery}
use Rattle.ojp_values.specs.declared.replies.Delivery.TheVariants as deliveries
use Rattle.ojp_timetable.specs.Tables.{Timetable}
use Rattle.ojp_timetable.specs.Runs.{day_long}
use Rattle.ojp_timetable.specs.Journeys.{Standing, alighted, after, reached, AllFollow, Follows, Leads, IsCrossing, United}
use Rattle.ojp_timetable.specs.Stepwise.{LeadsOn, Stepwise}
use Rattle.ojp_timetable.specs.Answers.{TargetAnswered, targets_fault}
use Rattle.ojp_timetable.proofs.FormFacts.{to_united}
use Rattle.ojp_exchange.specs.Book.{Book, HasChange}
use Rattle.ojp_records.specs.declared.queries.Query.{Query}
use Rattle.ojp_records.specs.declared.queries.Query.TheVariants.{Reach}
use Rattle.ojp_records.specs.declared.queries.Entry.{Entry}
use Rattle.ojp_records.specs.Headline.{AreTablesOf, ReplyGiven, EntryGiven, AreGiven}
use Rattle.ojp_values.proofs.ListFacts.{each_at}
use Rattle.ojp_exchange.proofs.BookFacts.{change_declared}
use Rattle.ojp_timetable.proofs.RideFacts.{leads_reach}
use Rattle.ojp_records.proofs.Replies.{results_of}
use Rattle.ojp_records.specs.Chains.{IsTripOf, ChainOn, Chain, legs_of}
use Rattle.ojp_records.specs.Pairs.{ends_towards}
use Rattle.ojp_records.specs.Laws.{ChainsAreJourneys}

-- a trip of the record, as rides of the table of its region
record IsTripPart (tables : List Timetable) (region stop : Text) (start : ℕ) (trip : Trip) : Type 0 where
  table : Timetable
  of_tables : Among table tables
  by_region : table.region ≡ region
  target : Text
  elsewhere : stop ≢ target
  leads : Leads table stop start trip.legs target trip.end

-- a listed result answers some target
pub record AnswersSome (R : Text → TripResult → Type 0) (result : TripResult) : Type 0 where
  pub target : Text
  pub answers : R target result

pub pairwise_at : (R : Text → TripResult → Type 0) (stops : List Text) (found : List TripResult) (result : TripResult) → Pairwise R stops found → Among result found → AnswersSome R result
pairwise_at R [] [] result pairs h = absurd h
pairwise_at R [] (first ∷ found) result pairs h = absurd pairs
pairwise_at R (stop ∷ stops) [] result pairs h = absurd h
pairwise_at R (stop ∷ stops) (first ∷ found) result pairs (inl e) = record { target = stop; answers = subst (R stop) (sym e) pairs.0 }
pairwise_at R (stop ∷ stops) (first ∷ found) result pairs (inr h) = pairwise_at R stops found result pairs.1 h

trip_part : (tables : List Timetable) (book : Book) (ask : TripAsk) (told : List Entry) (region stop : Text) (start : ℕ) (trip : Trip) → AreGiven tables book ask told → IsTripOf book ask told region stop start trip → IsTripPart tables region stop start trip
trip_part tables book ask told region stop start trip given it =
    let own : EntryGiven tables book ask it.entry = each_at (EntryGiven tables book ask) it.entry told given it.of_record in
    let answered : ReplyGiven tables book ask (Reach region stop start) (Some (deliveries.Multi (multi_replies.Results it.found))) =
    subst (λ (r : Option Delivery). ReplyGiven tables book ask (Reach region stop start) r) it.reply
    (subst (λ (q : Query). ReplyGiven tables book ask q it.entry.reply) it.query own) in
    let multi : MultiAsk = record { origin = stop; start = start; targets = ends_towards book ask.target stop region } in
    let pairs : Pairwise (TargetAnswered answered.0 stop start) (ends_towards book ask.target stop region) it.found =
    results_of answered.0 multi it.found (targets_fault answered.0 stop (ends_towards book ask.target stop region)) answered.3 in
    let some : AnswersSome (TargetAnswered answered.0 stop start) (results.Trip trip) =
    pairwise_at (TargetAnswered answered.0 stop start) (ends_towards book ask.target stop region) it.found (results.Trip trip) pairs it.listed in
    record {
      table = answered.0;
      of_tables = answered.1;
      by_region = answered.2;
      target = some.target;
      elsewhere = some.answers.journey.0;
      leads = some.answers.journey.2;
    }

-- rides of a row, and then what follows
go_on :
    (tables : List Timetable) (from : Text) (table : Timetable) (at : Standing) (legs more : List Leg) (d : Text) (a : ℕ)
    → AllFollow (Follows table) at legs → LeadsOn tables from table (reached at legs) more d a → LeadsOn tables from table at (legs ++ more) d a
go_on tables from table at [] more d a follow on = on
go_on tables from table at (leg ∷ legs) more d a follow on = inl (follow.0, go_on tables from table (after at leg) legs more d a follow.1 on)

-- by a change of region, the rides of a part and then what follows
crossing_then :
    (tables : List Timetable) (left : Timetable) (at : Standing) (right : Timetable) (change : ℕ) (legs : List Leg) (s : Text) (b : ℕ) (more : List Leg) (d : Text) (a : ℕ)
    → Among right tables → IsCrossing left at.stop right change → at.stop ≢ s → Leads right at.stop (at.moment + change) legs s b
    → ((from : Text) → from ≢ s → LeadsOn tables from right (record { region = right.region; stop = s; moment = b }) more d a)
    → (from : Text) → from ≢ at.stop → LeadsOn tables from left at (legs ++ more) d a
crossing_then tables left at right change [] s b more d a of_right crossing elsewhere leads then from other = absurd leads
crossing_then tables left at right change (leg ∷ legs) s b more d a of_right crossing elsewhere leads then from other =
    let away : leg.board ≢ s = λ e. elsewhere (sym leads.1 ∙ e) in
    let rest : LeadsOn tables leg.board right (reached (alighted leg) legs) more d a =
    subst (λ (x : Standing). LeadsOn tables leg.board right x more d a) (sym (leads_reach right at.stop (at.moment + change) (leg ∷ legs) s b at leads)) (then leg.board away) in
    inr (right, of_right, other, (leads.0, leads.1, change, crossing, leads.2), go_on tables leg.board right (alighted leg) legs more d a leads.3 rest)

-- the rides of a first part, and then what follows
first_then :
    (tables : List Timetable) (table : Timetable) (o : Text) (t : ℕ) (legs : List Leg) (s : Text) (b : ℕ) (more : List Leg) (d : Text) (a : ℕ)
    → Among table tables → o ≢ s → o ≢ d → a ≤ t + day_long → Leads table o t legs s b
    → ((from : Text) → from ≢ s → LeadsOn tables from table (record { region = table.region; stop = s; moment = b }) more d a)
    → Stepwise tables o t d a (legs ++ more)
first_then tables table o t [] s b more d a of_tables elsewhere differ within leads then = absurd leads
first_then tables table o t (leg ∷ legs) s b more d a of_tables elsewhere differ within leads then =
    let from : Standing = record { region = table.region; stop = o; moment = t } in
    let rest : LeadsOn tables o table (reached (alighted leg) legs) more d a =
    subst (λ (x : Standing). LeadsOn tables o table x more d a) (sym (leads_reach table o t (leg ∷ legs) s b from leads)) (then o elsewhere) in
    (table, of_tables, differ, within, leads.0, leads.1, leads.2, go_on tables o table (alighted leg) legs more d a leads.3 rest)

chain_on :
    (tables : List Timetable) (book : Book) (ask : TripAsk) (told : List Entry) (table : Timetable) (at : Standing) (trips : List Trip) (a : ℕ)
    → AreTablesOf tables book → AreGiven tables book ask told → Among table tables → at.region ≡ table.region → ChainOn book ask told at trips a
    → (from : Text) → from ≢ at.stop → LeadsOn tables from table at (flat_map legs_of trips) ask.target a
chain_on tables book ask told table at [] a whole given of_tables here chain from elsewhere = (λ e. elsewhere (e ∙ sym chain.0), chain)
chain_on tables book ask told table at (trip ∷ trips) a whole given of_tables here (next, goes, chain) from elsewhere =
    let it : IsTripPart tables next at.stop (at.moment + goes.change) trip = trip_part tables book ask told next at.stop (at.moment + goes.change) trip given goes.of_record in
    let has : HasChange book at.stop table.region it.table.region goes.change =
    subst (λ (r : Text). HasChange book at.stop table.region r goes.change) (sym it.by_region) (subst (λ (r : Text). HasChange book at.stop r next goes.change) here goes.has) in
    let crossing : IsCrossing table at.stop it.table goes.change =
    change_declared tables book table it.table at.stop goes.change whole.tables_well whole.book_of whole.book_well.sound.agreed of_tables it.of_tables (λ e. goes.other (here ∙ (e ∙ it.by_region))) has in
    let rest : ChainOn book ask told (record { region = it.table.region; stop = it.target; moment = trip.end }) trips a =
    subst (λ (x : Standing). ChainOn book ask told x trips a) (leads_reach it.table at.stop (at.moment + goes.change) trip.legs it.target trip.end at it.leads) chain in
    crossing_then tables table at it.table goes.change trip.legs it.target trip.end (flat_map legs_of trips) ask.target a it.of_tables crossing it.elsewhere it.leads
    (chain_on tables book ask told it.table (record { region = it.table.region; stop = it.target; moment = trip.end }) trips a whole given it.of_tables refl rest) from elsewhere

chained_steps : (tables : List Timetable) (book : Book) (ask : TripAsk) (told : List Entry) (trips : List Trip) (a : ℕ) → AreTablesOf tables book → ask.origin ≢ ask.target → AreGiven tables book ask told → Chain book ask told trips a → a ≤ ask.start + day_long → Stepwise tables ask.origin ask.start ask.target a (flat_map legs_of trips)
chained_steps tables book ask told [] a whole differ given chain within = absurd chain
chained_steps tables book ask told (trip ∷ trips) a whole differ given (region, first, chain) within =
    let it : IsTripPart tables region ask.origin ask.start trip = trip_part tables book ask told region ask.origin ask.start trip given first in
    let from : Standing = record { region = region; stop = ask.origin; moment = ask.start } in
    let rest : ChainOn book ask told (record { region = it.table.region; stop = it.target; moment = trip.end }) trips a =
    subst (λ (x : Standing). ChainOn book ask told x trips a) (leads_reach it.table ask.origin ask.start trip.legs it.target trip.end from it.leads) chain in
    first_then tables it.table ask.origin ask.start trip.legs it.target trip.end (flat_map legs_of trips) ask.target a it.of_tables it.elsewhere differ within it.leads
    (chain_on tables book ask told it.table (record { region = it.table.region; stop = it.target; moment = trip.end }) trips a whole given it.of_tables refl rest)

pub chains_are_journeys : ChainsAreJourneys
chains_are_journeys tables book ask told legs a whole differ given it =
    subst (λ (list : List Leg). United tables ask.origin ask.start ask.target a list) (sym it.joined)
    (to_united tables ask.origin ask.start ask.target a (flat_map legs_of it.trips) (chained_steps tables book ask told it.trips a whole differ given it.chain it.within))
