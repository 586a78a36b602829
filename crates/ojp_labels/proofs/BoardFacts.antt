-- The board after one more entry of a pair.
use Rattle.std.proofs.Common.{◌≡◌, ◌≢◌, ℕ, ◌+◌, Bool, true, false, not, cond, ◌&&◌, ◌⊎◌, List, [], ◌∷◌, ◌++◌, map, Option, Some, None, length, refl, sym, ◌∙◌, ap, subst, inl, inr, slice_get, IsTrue, is_some}
use Rattle.ojp_exchange.proofs.SpotFacts.{declaring_at}
use Rattle.ojp_timetable.proofs.ReadFacts.{among_at}
use Rattle.ojp_records.specs.declared.places.PlaceState.{PlaceState}
use Rattle.ojp_records.specs.Places.{ToldCheck, state_after, place_state, checks_in, reply_state}
use Rattle.ojp_records.proofs.BoardFacts.{record_more}
use Rattle.ojp_records.proofs.WantedFacts.{open_start}
use Rattle.ojp_records.proofs.CheckedFacts.{check_open, checks_same, state_checked}
use Rattle.ojp_labels.specs.Boards.{IsBoardOf, IsUnchanged, starts_by, IsLabel, AreLabels, own_spot, IsOwnLabel, own_told, IsKept}
use Rattle.ojp_records.proofs.StartFacts.{start_after_back}
use Rattle.ojp_labels.proofs.LabelFacts.{new_arrivals, told_other, labels_told, label_told_here, label_told_elsewhere, known_told, known_starts_by, starts_more, arrivals_push, best_is_by, best_more}
use Rattle.ojp_records.specs.Starts.{arrivals_heard, Arrival, arrivals, is_within, starts_after, lesser_of}
use Rattle.ojp_labels.specs.Hearing.{heard_in, AnswersEach, told_in, IsMarked, Follow, best_by}
use Rattle.ojp_values.specs.Lists.{Among, least}
use Rattle.ojp_values.specs.Texts.{Text, same, home}
use Rattle.ojp_labels.proofs.HearFacts.{pairwise_length}
use Rattle.ojp_exchange.specs.Book.{Book, is_home, has_region, HasChange}
use Rattle.ojp_exchange.specs.Places.{IsPairAt, NoPairAt}
use Rattle.ojp_exchange.specs.Kept.{IsWellBook}
use Rattle.ojp_records.specs.Records.{is_told, has_reply}
use Rattle.ojp_records.specs.Pairs.{ends_towards}
use Rattle.ojp_records.specs.Told.{IsOpenQuery, ReplyFits, EntryFits}
use Rattle.ojp_labels.specs.Labels.{marked}
use Rattle.ojp_timetable.proofs.TextFacts.{same_is, is_same}
use Rattle.std.specs.List.{filter, flat_map, list_any}
use Rattle.std.specs.Prelude.{Result, Ok, Err, OnOk, OnErr}
use Rattle.std.proofs.lemmas.Bool.{true≢false, and_parts, and_from}
use Rattle.std.proofs.lemmas.List.{append-nil, append_assoc}
use Rattle.ojp_records.proofs.PairFacts.{no_home}
use Rattle.std.proofs.lemmas.Option.{none-some}
use Rattle.ojp_values.specs.declared.asks.TripAsk.{TripAsk}
use Rattle.ojp_values.specs.declared.replies.Delivery.{Delivery}
use Rattle.ojp_values.specs.declared.replies.Delivery.TheVariants as deliveries
use Rattle.ojp_values.specs.declared.replies.MultiReply.TheVariants as multi_replies
use Rattle.ojp_records.specs.declared.queries.Query.{Query}
use Rattle.ojp_records.specs.declared.queries.Query.TheVariants.{Check, Reach}
use Rattle.ojp_records.specs.declared.queries.Entry.{Entry}
use Rattle.ojp_labels.specs.declared.labels.Label.{Label}
use Rattle.ojp_labels.specs.declared.board.Board.{Board}

-- the labels of the places

labels_nowhere :
    (book : Book) (ask : TripAsk) (told : List Entry) (heard : List Arrival) (labels : List Label) (entry : Entry) (stop region : Text) (start : ℕ)
    → NoPairAt book stop region → entry.query ≡ Reach region stop start → Among start (starts_by book ask heard stop region)
    → AreLabels book ask told heard labels → AreLabels book ask (told ++ entry ∷ []) heard labels
labels_nowhere book ask told heard labels entry stop region start nowhere query_is listed it =
    record {
      count = it.count;
      known = known_told book ask told heard entry stop region start query_is listed it.known;
      each = λ place spot label at is_label.
          label_told_elsewhere book ask told heard entry spot label (λ t same_one.
          let both : Reach region stop start ≡ Reach spot.region spot.stop t = sym query_is ∙ same_one in
          let regions : region ≡ spot.region = cc in
          let stops : stop ≡ spot.stop = cc in
          nowhere place (record { spot = spot; at = at; stop_is = sym stops; region_is = sym regions })) (it.each place spot label at is_label);
    }

labels_marked :
    (book : Book) (ask : TripAsk) (told : List Entry) (heard : List Arrival) (old new : List Label) (entry : Entry) (stop region : Text) (start : ℕ)
    → IsWellBook book → entry.query ≡ Reach region stop start → is_told told (Reach region stop start) ≡ false → Among start (starts_by book ask heard stop region)
    → IsMarked book region stop start (not (has_reply entry.reply)) old new → AreLabels book ask told heard old → AreLabels book ask (told ++ entry ∷ []) heard new
labels_marked book ask told heard old new entry stop region start well query_is untold listed (inl here) it =
    subst (λ (ls : List Label). AreLabels book ask (told ++ entry ∷ []) heard ls) (sym here.2) (labels_told book ask told heard old entry here.0 stop region start well here.1 query_is untold listed it)
labels_marked book ask told heard old new entry stop region start well query_is untold listed (inr nowhere) it =
    subst (λ (ls : List Label). AreLabels book ask (told ++ entry ∷ []) heard ls) (sym nowhere.1) (labels_nowhere book ask told heard old entry stop region start nowhere.0 query_is listed it)

-- the own label: no change leads to an own stop

own_starts : (book : Book) (ask : TripAsk) (code : Text) (heard more : List Arrival) → IsWellBook book → home ask.origin ≡ Some code → starts_by book ask (heard ++ more) ask.origin code ≡ starts_by book ask heard ask.origin code
own_starts book ask code heard [] well own = ap (λ (hs : List Arrival). starts_by book ask hs ask.origin code) (append-nil heard)
own_starts book ask code heard (a ∷ more) well own =
    ap (λ (hs : List Arrival). starts_by book ask hs ask.origin code) (sym (append_assoc heard (a ∷ []) more))
    ∙ (own_starts book ask code (heard ++ a ∷ []) more well own
    ∙ (starts_more book ask heard a ask.origin code
    ∙ (ap (λ (xs : List ℕ). starts_by book ask heard ask.origin code ++ xs) (none_there (starts_after book ask.origin code a) no_start) ∙ append-nil (starts_by book ask heard ask.origin code))))
  where
    none_there : (xs : List ℕ) → ((t : ℕ) → Among t xs → ⊥) → xs ≡ []
    none_there [] h = refl
    none_there (x ∷ xs) h = absurd (h x (inl refl))

    no_start : (t : ℕ) → Among t (starts_after book ask.origin code a) → ⊥
    no_start t h =
        let it : (change : ℕ) × (a.stop ≡ ask.origin) × (code ≢ a.region) × HasChange book ask.origin a.region code change × (t ≡ a.moment + change) = start_after_back book ask.origin code a t h in
        let there : (place : ℕ) × IsPairAt book place it.3.link.stop it.3.link.region = declaring_at book it.3.link well it.3.listed in
        let none : home there.1.spot.stop ≡ None = no_home there.1.spot.stop (well.exchange there.1.spot (among_at book.spots there.0 there.1.spot there.1.at)) in
        let is : there.1.spot.stop ≡ ask.origin = there.1.stop_is ∙ it.3.at in
        none-some code (sym none ∙ (ap home is ∙ own))

pub own_marked :
    (book : Book) (ask : TripAsk) (told : List Entry) (entry : Entry) (stop region : Text) (start : ℕ) (own : Label) (code : Option Text)
    → IsWellBook book → home ask.origin ≡ code → entry.query ≡ Reach region stop start → is_told told (Reach region stop start) ≡ false
    → IsOwnLabel book ask told own code → IsOwnLabel book ask (told ++ entry ∷ []) (cond (is_home region code && same ask.origin stop) (marked own start (not (has_reply entry.reply))) own) code
own_marked book ask told entry stop region start own None well home_is query_is untold it = tt
own_marked book ask told entry stop region start own (Some code) well home_is query_is untold it = go (same region code && same ask.origin stop) refl
  where
    heard_more : (label : Label) → IsLabel book ask (told ++ entry ∷ []) (arrivals book ask told) (own_spot ask.origin code) label → IsLabel book ask (told ++ entry ∷ []) (arrivals book ask (told ++ entry ∷ [])) (own_spot ask.origin code) label
    heard_more label is = record {
      start_is = is.start_is ∙ ap least (sym (ap (λ (hs : List Arrival). starts_by book ask hs ask.origin code) (arrivals_push book ask told entry) ∙ own_starts book ask code (arrivals book ask told) _ well home_is));
      told_is = is.told_is;
      failed_is = is.failed_is;
      targets_are = is.targets_are;
    }

    go : (b : Bool) → (same region code && same ask.origin stop) ≡ b → IsLabel book ask (told ++ entry ∷ []) (arrivals book ask (told ++ entry ∷ [])) (own_spot ask.origin code) (cond b (marked own start (not (has_reply entry.reply))) own)
    go true e =
        let parts : (same region code ≡ true) × (same ask.origin stop ≡ true) = and_parts _ _ e in
        let query' : entry.query ≡ Reach code ask.origin start = query_is ∙ (λ i. Reach (same_is region code parts.0 i) (sym (same_is ask.origin stop parts.1) i) start) in
        heard_more _ (label_told_here book ask told (arrivals book ask told) entry (own_spot ask.origin code) own start query' (ap (is_told told) (sym query' ∙ query_is) ∙ untold) it)
    go false e =
        heard_more own (label_told_elsewhere book ask told (arrivals book ask told) entry (own_spot ask.origin code) own (λ t same_one.
        let both : Reach region stop start ≡ Reach code ask.origin t = sym query_is ∙ same_one in
        let regions : region ≡ code = cc in
        let stops : stop ≡ ask.origin = cc in
        true≢false (sym (and_from _ _ (is_same region code regions) (is_same ask.origin stop (sym stops))) ∙ e)) it)

-- no check is told by an entry of a pair

state_same : (book : Book) (told : List Entry) (entry : Entry) (stop region : Text) (start : ℕ) (place : Text) → entry.query ≡ Reach region stop start → place_state book (checks_in (told ++ entry ∷ [])) place ≡ place_state book (checks_in told) place
state_same book told entry stop region start place query_is = ap (λ (checks : List ToldCheck). place_state book checks place) (checks_same told entry region stop start query_is)

-- what a reply to a query of a pair tells

heard_reach : (book : Book) (ask : TripAsk) (stop region : Text) (start : ℕ) (reply : Option Delivery) → heard_in region (ends_towards book ask.target stop region) reply ≡ arrivals_heard book ask (Reach region stop start) reply
heard_reach book ask stop region start None = refl
heard_reach book ask stop region start (Some (deliveries.Multi (multi_replies.Results found))) = refl
heard_reach book ask stop region start (Some (deliveries.Multi (multi_replies.Fault fault))) = refl
heard_reach book ask stop region start (Some (deliveries.Trip reply)) = refl
heard_reach book ask stop region start (Some (deliveries.Events reply)) = refl
heard_reach book ask stop region start (Some (deliveries.Points reply)) = refl

heard_told : (book : Book) (ask : TripAsk) (entry : Entry) (stop region : Text) (start : ℕ) → entry.query ≡ Reach region stop start → told_in ask region (ends_towards book ask.target stop region) entry.reply ≡ new_arrivals book ask entry
heard_told book ask entry stop region start query_is =
    ap (filter (is_within ask)) (heard_reach book ask stop region start entry.reply ∙ ap (λ (q : Query). arrivals_heard book ask q entry.reply) (sym query_is))

pub answers_each : (book : Book) (ask : TripAsk) (entry : Entry) (stop region : Text) (start : ℕ) → EntryFits book ask entry → entry.query ≡ Reach region stop start → AnswersEach (ends_towards book ask.target stop region) entry.reply
answers_each book ask entry stop region start fits query_is = go entry.reply (subst (λ (q : Query). ReplyFits book ask q entry.reply) query_is fits)
  where
    go : (reply : Option Delivery) → ReplyFits book ask (Reach region stop start) reply → AnswersEach (ends_towards book ask.target stop region) reply
    go None f = tt
    go (Some (deliveries.Multi (multi_replies.Results found))) f = pairwise_length _ (ends_towards book ask.target stop region) found f
    go (Some reply) f = tt

-- what the board keeps after an entry of a pair
pub reached :
    (book : Book) (ask : TripAsk) (told : List Entry) (arrival : Option ℕ) (origin target : PlaceState) (own : Label) (labels mid new : List Label)
    (entry : Entry) (stop region : Text) (start : ℕ)
    → IsKept book ask told arrival origin target own labels
    → IsOpenQuery book ask told entry.query → EntryFits book ask entry → entry.query ≡ Reach region stop start
    → IsMarked book region stop start (not (has_reply entry.reply)) labels mid
    → Follow book ask (told_in ask region (ends_towards book ask.target stop region) entry.reply) mid new
    → IsKept book ask (told ++ entry ∷ []) (lesser_of arrival (best_by ask (told_in ask region (ends_towards book ask.target stop region) entry.reply))) origin target (own_told ask region stop start (not (has_reply entry.reply)) own) new
reached book ask told arrival origin target own labels mid new entry stop region start it is_open fits query_is is_marked follow =
    let is_open' : IsOpenQuery book ask told (Reach region stop start) = subst (λ (q : Query). IsOpenQuery book ask told q) query_is is_open in
    let listed : Among start (starts_by book ask (arrivals book ask told) stop region) = subst (λ (xs : List ℕ). Among start xs) (known_starts_by book ask told stop region) (open_start book ask told region stop start is_open') in
    let marked_ones : AreLabels book ask (told ++ entry ∷ []) (arrivals book ask told) mid = labels_marked book ask told (arrivals book ask told) labels mid entry stop region start it.book_well query_is is_open'.untold listed is_marked it.labels_are in
    let more : List Arrival = told_in ask region (ends_towards book ask.target stop region) entry.reply in
    let heard : arrivals book ask (told ++ entry ∷ []) ≡ arrivals book ask told ++ more =
    arrivals_push book ask told entry ∙ ap (λ (hs : List Arrival). arrivals book ask told ++ hs) (sym (heard_told book ask entry stop region start query_is)) in
    record {
      book_well = it.book_well;
      origin_well = it.origin_well;
      record_of = record_more book ask told entry it.record_of is_open fits;
      best_is = ap (λ (o : Option ℕ). lesser_of o (best_by ask more)) (it.best_is ∙ best_is_by book ask told)
          ∙ (sym (best_more ask (arrivals book ask told) more) ∙ (ap (best_by ask) (sym heard) ∙ sym (best_is_by book ask (told ++ entry ∷ []))));
      origin_is = it.origin_is ∙ sym (state_same book told entry stop region start ask.origin query_is);
      target_is = it.target_is ∙ sym (state_same book told entry stop region start ask.target query_is);
      own_is = own_marked book ask told entry stop region start own (home ask.origin) it.book_well refl query_is is_open'.untold it.own_is;
      labels_are = subst (λ (hs : List Arrival). AreLabels book ask (told ++ entry ∷ []) hs new) (sym heard) (follow (told ++ entry ∷ []) (arrivals book ask told) marked_ones);
    }

pub failed_is_none : (reply : Option Delivery) (failed : Bool) → is_some reply ≡ not failed → failed ≡ not (has_reply reply)
failed_is_none None true e = refl
failed_is_none None false e = absurd (cc)
failed_is_none (Some reply) true e = absurd (cc)
failed_is_none (Some reply) false e = refl

pub kept_same :
    (book : Book) (ask : TripAsk) (told told' : List Entry) (arrival arrival' : Option ℕ) (origin target : PlaceState) (own own' : Label) (labels : List Label)
    → told' ≡ told → arrival' ≡ arrival → own' ≡ own → IsKept book ask told arrival origin target own labels → IsKept book ask told' arrival' origin target own' labels
kept_same book ask told told' arrival arrival' origin target own own' labels t a o it =
    subst (λ (ts : List Entry). IsKept book ask ts arrival' origin target own' labels) (sym t)
    (subst (λ (b : Option ℕ). IsKept book ask told b origin target own' labels) (sym a)
    (subst (λ (l : Label). IsKept book ask told arrival origin target l labels) (sym o) it))

-- ---- an entry of a check

-- a check tells no arrival, and nothing of a pair
labels_checked : (book : Book) (ask : TripAsk) (told : List Entry) (heard : List Arrival) (labels : List Label) (entry : Entry) (region stop : Text) → entry.query ≡ Check region stop → AreLabels book ask told heard labels → AreLabels book ask (told ++ entry ∷ []) heard labels
labels_checked book ask told heard labels entry region stop query_is it =
    record {
      count = it.count;
      known = λ stop' region' start' e. it.known stop' region' start' (sym (told_other told entry (Reach region' stop' start') (λ same_one. let both : Check region stop ≡ Reach region' stop' start' = sym query_is ∙ same_one in cc)).0 ∙ e);
      each = λ place spot label at is_label. label_told_elsewhere book ask told heard entry spot label (λ t same_one. let both : Check region stop ≡ Reach spot.region spot.stop t = sym query_is ∙ same_one in cc) (it.each place spot label at is_label);
    }

own_checked : (book : Book) (ask : TripAsk) (told : List Entry) (entry : Entry) (region stop : Text) (own : Label) (code : Option Text) → entry.query ≡ Check region stop → arrivals book ask (told ++ entry ∷ []) ≡ arrivals book ask told → IsOwnLabel book ask told own code → IsOwnLabel book ask (told ++ entry ∷ []) own code
own_checked book ask told entry region stop own None query_is heard it = tt
own_checked book ask told entry region stop own (Some code) query_is heard it =
    subst (λ (hs : List Arrival). IsLabel book ask (told ++ entry ∷ []) hs (own_spot ask.origin code) own) (sym heard)
    (label_told_elsewhere book ask told (arrivals book ask told) entry (own_spot ask.origin code) own (λ t same_one. let both : Check region stop ≡ Reach code ask.origin t = sym query_is ∙ same_one in cc) it)

-- what the board keeps after an entry of a check
pub checked :
    (book : Book) (ask : TripAsk) (told : List Entry) (arrival : Option ℕ) (origin target : PlaceState) (own : Label) (labels : List Label) (entry : Entry) (region stop : Text)
    → IsKept book ask told arrival origin target own labels → IsOpenQuery book ask told entry.query → EntryFits book ask entry → entry.query ≡ Check region stop
    → IsKept book ask (told ++ entry ∷ []) arrival (state_after ask.origin stop (reply_state entry.reply) origin) (state_after ask.target stop (reply_state entry.reply) target) own labels
checked book ask told arrival origin target own labels entry region stop it is_open fits query_is =
    let is_open' : IsOpenQuery book ask told (Check region stop) = subst (λ (q : Query). IsOpenQuery book ask told q) query_is is_open in
    let own_region : (home stop ≡ Some region) × (has_region book region ≡ true) = check_open book ask told region stop is_open' in
    let heard : arrivals book ask (told ++ entry ∷ []) ≡ arrivals book ask told =
    arrivals_push book ask told entry ∙ (ap (λ (q : Query). arrivals book ask told ++ filter (is_within ask) (arrivals_heard book ask q entry.reply)) query_is ∙ append-nil (arrivals book ask told)) in
    record {
      book_well = it.book_well;
      origin_well = it.origin_well;
      record_of = record_more book ask told entry it.record_of is_open fits;
      best_is = it.best_is ∙ (best_is_by book ask told ∙ (ap (best_by ask) (sym heard) ∙ sym (best_is_by book ask (told ++ entry ∷ []))));
      origin_is = ap (λ (s : PlaceState). state_after ask.origin stop (reply_state entry.reply) s) it.origin_is ∙ sym (state_checked book told entry stop region ask.origin query_is is_open'.untold own_region.0 own_region.1);
      target_is = ap (λ (s : PlaceState). state_after ask.target stop (reply_state entry.reply) s) it.target_is ∙ sym (state_checked book told entry stop region ask.target query_is is_open'.untold own_region.0 own_region.1);
      own_is = own_checked book ask told entry region stop own (home ask.origin) query_is heard it.own_is;
      labels_are = subst (λ (hs : List Arrival). AreLabels book ask (told ++ entry ∷ []) hs labels) (sym heard) (labels_checked book ask told (arrivals book ask told) labels entry region stop query_is it.labels_are);
    }

-- a board that keeps the same is one of the same book
pub unchanged_board : (book : Book) (old new : Board) → IsUnchanged old new → IsBoardOf old book → IsBoardOf new book
unchanged_board book old new it is =
    let asks : new.ask ≡ old.ask = it.ask in
    subst (λ (ask : TripAsk). IsKept book ask new.told.items new.best new.origin new.target new.own new.labels.items) (sym asks)
    (subst (λ (told : List Entry). IsKept book old.ask told new.best new.origin new.target new.own new.labels.items) (sym it.told)
    (subst (λ (b : Option ℕ). IsKept book old.ask old.told.items b new.origin new.target new.own new.labels.items) (sym it.best)
    (subst (λ (s : PlaceState). IsKept book old.ask old.told.items old.best s new.target new.own new.labels.items) (sym it.origin)
    (subst (λ (s : PlaceState). IsKept book old.ask old.told.items old.best old.origin s new.own new.labels.items) (sym it.target)
    (subst (λ (l : Label). IsKept book old.ask old.told.items old.best old.origin old.target l new.labels.items) (sym it.own)
    (subst (λ (ls : List Label). IsKept book old.ask old.told.items old.best old.origin old.target old.own ls) (sym it.labels) is))))))

pub unchanged_or : {X E : Type 0} (book : Book) (old new : Board) (r : Result X E) → OnOk r (IsBoardOf new book) → OnErr r (IsUnchanged old new) → IsBoardOf old book → IsBoardOf new book
unchanged_or book old new (Ok x) well err is = well
unchanged_or book old new (Err x) well err is = unchanged_board book old new err is
