-- What is known of a place after one more entry.
use Rattle.std.proofs.Common.{◌≡◌, ◌≢◌, ℕ, Bool, true, false, cond, ◌||◌, List, [], ◌∷◌, ◌++◌, Option, Some, None, refl, sym, ◌∙◌, ap, append-nil}
use Rattle.std.proofs.lemmas.Bool.{true≢false, and_parts}
use Rattle.std.specs.List.{filter_map, cons_option}
use Rattle.ojp_values.specs.Lists.{Among}
use Rattle.ojp_values.specs.Texts.{Text, same, home}
use Rattle.ojp_values.specs.declared.asks.TripAsk.{TripAsk}
use Rattle.ojp_values.specs.declared.replies.Delivery.{Delivery}
use Rattle.ojp_timetable.proofs.TextFacts.{same_is, is_same, is_differ, differ_is}
use Rattle.ojp_exchange.specs.Book.{Book, has_region, is_declared}
use Rattle.ojp_records.specs.declared.queries.Query.{Query}
use Rattle.ojp_records.specs.declared.queries.Query.TheVariants.{Check, Reach}
use Rattle.ojp_records.specs.declared.queries.Entry.{Entry}
use Rattle.ojp_records.specs.Records.{same_query, is_told}
use Rattle.ojp_records.specs.Places.{ToldCheck, check_of, checks_in, PlaceState, Known, Unknown, Unheard, CheckFailed, reply_state, is_check, check_state, state_by, place_state, state_after, check}
use Rattle.ojp_records.specs.Told.{IsOpenQuery}
use Rattle.ojp_records.proofs.PlaceFacts.{OriginCheck, TargetCheck, AtPair, check_is_it, first_heard, check_state_append, checks_append}
use Rattle.ojp_records.specs.Wanted.{PairWanted}
use Rattle.ojp_records.proofs.WantedFacts.{WantedBy, wanted_by, pair_wanted, check_is}
use Rattle.ojp_records.proofs.BoardFacts.{unheard_place}

-- an open check is of an own stop whose region is one of the book
pub check_open : (book : Book) (ask : TripAsk) (told : List Entry) (region stop : Text) → IsOpenQuery book ask told (Check region stop) → (home stop ≡ Some region) × (has_region book region ≡ true)
check_open book ask told region stop it = go (wanted_by book ask it.before (Check region stop) it.was_wanted)
  where
    of_place : (place : Text) → place_state book (checks_in it.before) place ≡ Unheard → Among (Check region stop) (check place) → (home stop ≡ Some region) × (has_region book region ≡ true)
    of_place place e h =
        let is : (code : Text) × (home place ≡ Some code) × (Check region stop ≡ Check code place) = check_is place (Check region stop) h in
        let both : Check region stop ≡ Check is.0 place = is.2 in
        let regions : region ≡ is.0 = cc in
        let stops : stop ≡ place = cc in
        (ap home stops ∙ (is.1 ∙ ap Some (sym regions)), ap (has_region book) regions ∙ (unheard_place book (checks_in it.before) place is.0 is.1 e).0)

    go : WantedBy book ask it.before (Check region stop) → (home stop ≡ Some region) × (has_region book region ≡ true)
    go (OriginCheck o h) = of_place ask.origin o h
    go (TargetCheck known t h) = of_place ask.target t h
    go (AtPair o t h) =
        let w : PairWanted book ask it.before (Check region stop) = pair_wanted book ask it.before (Check region stop) h in
        let is : Check region stop ≡ Reach w.pair.region w.pair.stop w.start = w.is in
        absurd (cc)

-- ---- an entry of a pair tells of no place

checks_of : (query : Query) (reply : Option Delivery) (region stop : Text) (start : ℕ) → query ≡ Reach region stop start → check_of query reply ≡ None
checks_of query reply region stop start e = ap (λ (q : Query). check_of q reply) e

pub checks_same : (told : List Entry) (entry : Entry) (region stop : Text) (start : ℕ) → entry.query ≡ Reach region stop start → checks_in (told ++ entry ∷ []) ≡ checks_in told
unfolding checks_in
checks_same told entry region stop start e =
    checks_append told (entry ∷ [])
    ∙ (ap (λ (o : Option ToldCheck). checks_in told ++ cons_option o []) (checks_of entry.query entry.reply region stop start e) ∙ append-nil (checks_in told))

-- ---- an entry of a check

untold_step : (query : Query) (reply : Option Delivery) (checks : List ToldCheck) (region stop : Text) (rest : Bool) → (same_query query (Check region stop) || rest) ≡ false → (rest ≡ false → check_state checks region stop ≡ Unheard) → check_state (cons_option (check_of query reply) checks) region stop ≡ Unheard
untold_step (Reach r s t) reply checks region stop rest e later = later e
untold_step (Check r s) reply checks region stop rest e later = go (same_query (Check r s) (Check region stop)) refl e
  where
    go : (b : Bool) → same_query (Check r s) (Check region stop) ≡ b → (b || rest) ≡ false → cond (same_query (Check r s) (Check region stop)) (reply_state reply) (check_state checks region stop) ≡ Unheard
    go true is f = absurd (true≢false f)
    go false is f = ap (λ (b : Bool). cond b (reply_state reply) (check_state checks region stop)) is ∙ later f

-- of a check that was not told nothing is heard
pub untold_unheard : (told : List Entry) (region stop : Text) → is_told told (Check region stop) ≡ false → check_state (checks_in told) region stop ≡ Unheard
unfolding is_told checks_in
untold_unheard [] region stop e = refl
untold_unheard (entry ∷ told) region stop e = untold_step entry.query entry.reply (checks_in told) region stop (is_told told (Check region stop)) e (untold_unheard told region stop)

-- the check that the entry tells
told_check : Text → Text → Option Delivery → ToldCheck
told_check region stop reply = record { region = region; stop = stop; reply = reply }

checks_push : (told : List Entry) (entry : Entry) (region stop : Text) → entry.query ≡ Check region stop → checks_in (told ++ entry ∷ []) ≡ checks_in told ++ told_check region stop entry.reply ∷ []
unfolding checks_in told_check
checks_push told entry region stop e =
    checks_append told (entry ∷ []) ∙ ap (λ (q : Query). checks_in told ++ cons_option (check_of q entry.reply) []) e

after_none : (s : PlaceState) → first_heard s Unheard ≡ s
after_none Known = refl
after_none Unknown = refl
after_none Unheard = refl
after_none CheckFailed = refl

-- what is known of a place after an open check was told
pub state_checked :
    (book : Book) (told : List Entry) (entry : Entry) (stop region place : Text) → entry.query ≡ Check region stop → is_told told (Check region stop) ≡ false → home stop ≡ Some region → has_region book region ≡ true
    → place_state book (checks_in (told ++ entry ∷ [])) place ≡ state_after place stop (reply_state entry.reply) (place_state book (checks_in told) place)
unfolding place_state told_check
state_checked book told entry stop region place query_is untold own known =
    ap (λ (checks : List ToldCheck). place_state book checks place) (checks_push told entry region stop query_is) ∙ go (same place stop) refl
  where
    more : List ToldCheck
    more = checks_in told ++ told_check region stop entry.reply ∷ []

    here : state_by book more stop (Some region) ≡ reply_state entry.reply
    here =
        ap (λ (b : Bool). cond b (check_state more region stop) Unknown) known
        ∙ (check_state_append (checks_in told) (told_check region stop entry.reply ∷ []) region stop
        ∙ (ap (λ (s : PlaceState). first_heard s (check_state (told_check region stop entry.reply ∷ []) region stop)) (untold_unheard told region stop untold)
        ∙ ap (λ (b : Bool). cond b (reply_state entry.reply) Unheard) (check_is_it region stop (told_check region stop entry.reply) refl refl)))

    apart : (code : Text) → same place stop ≡ false → is_check code place (told_check region stop entry.reply) ≡ false
    apart code e = false_by (is_check code place (told_check region stop entry.reply)) (λ t. differ_is place stop e (sym (same_is stop place (and_parts (same region code) (same stop place) t).1)))
      where
        false_by : (b : Bool) → (b ≡ true → ⊥) → b ≡ false
        false_by true never = absurd (never refl)
        false_by false never = refl

    other : (code : Option Text) → same place stop ≡ false → state_by book more place code ≡ state_by book (checks_in told) place code
    other None e = refl
    other (Some code) e =
        ap (λ (s : PlaceState). cond (has_region book code) s Unknown)
        (check_state_append (checks_in told) (told_check region stop entry.reply ∷ []) code place
        ∙ (ap (λ (b : Bool). first_heard (check_state (checks_in told) code place) (cond b (reply_state entry.reply) Unheard)) (apart code e)
        ∙ after_none (check_state (checks_in told) code place)))

    go : (b : Bool) → same place stop ≡ b → state_by book more place (home place) ≡ cond b (reply_state entry.reply) (state_by book (checks_in told) place (home place))
    go true e =
        let is : place ≡ stop = same_is place stop e in
        ap (λ (p : Text). state_by book more p (home p)) is ∙ (ap (state_by book more stop) own ∙ here)
    go false e = other (home place) e
