-- What a board keeps before anything was told.
use Rattle.std.proofs.Common.{◌≡◌, ℕ, zero, suc, ◌+◌, ◌<◌, ◌≤◌, Bool, true, false, cond, ◌&&◌, ◌⊎◌, List, [], ◌∷◌, ◌++◌, Option, Some, None, length, refl, sym, ◌∙◌, ap, subst, inl, inr, arith, slice_get, IsTrue}
use Rattle.std.proofs.lemmas.Bool.{true≢false}
use Rattle.std.proofs.lemmas.List.{append-nil, length_push}
use Rattle.std.proofs.lemmas.Option.{none-some, same_Some}
use Rattle.ojp_values.specs.Lists.{least}
use Rattle.ojp_values.specs.Texts.{Text, same, home, is_stop_ref}
use Rattle.ojp_values.specs.declared.asks.TripAsk.{TripAsk}
use Rattle.ojp_exchange.specs.Book.{Book, Spot, serves, has_region, is_declared}
use Rattle.ojp_exchange.specs.Kept.{IsWellBook}
use Rattle.ojp_exchange.specs.Places.{IsSpotAt}
use Rattle.ojp_records.specs.declared.queries.Query.{Query}
use Rattle.ojp_records.specs.declared.queries.Query.TheVariants.{Reach}
use Rattle.ojp_records.specs.declared.places.PlaceState.{PlaceState}
use Rattle.ojp_records.specs.declared.places.PlaceState.TheVariants.{Known, Unknown, Unheard}
use Rattle.ojp_records.specs.Records.{is_told, is_failed}
use Rattle.ojp_records.specs.Places.{checks_in, state_by, place_state}
use Rattle.ojp_records.specs.Pairs.{ends_towards}
use Rattle.ojp_records.specs.Starts.{arrivals, asked_start, best}
use Rattle.ojp_labels.specs.declared.labels.Label.{Label}
use Rattle.ojp_labels.specs.Boards.{start_at, starts_by, has_any, IsLabel, AreLabels, own_spot, IsOwnLabel, IsKept}

pub untold : (query : Query) → is_told [] query ≡ false
unfolding is_told
untold query = refl

pub unfailed : (query : Query) → is_failed [] query ≡ false
unfolding is_failed
unfailed query = refl

no_arrivals : (book : Book) (ask : TripAsk) → arrivals book ask [] ≡ []
unfolding arrivals
no_arrivals book ask = refl

-- the label of a pair of which only the asked start may be known
pub first_label : (book : Book) (ask : TripAsk) (spot : Spot) (start : Option ℕ) (has_target : Bool) → serves book spot.region spot.stop ≡ true → start ≡ start_at ask spot.stop → has_target ≡ has_any (ends_towards book ask.target spot.stop spot.region)
    → IsLabel book ask [] [] spot (record { start = start; told = false; failed = false; has_target = has_target })
unfolding starts_by asked_start
first_label book ask spot start has_target served is targets =
    record {
      start_is = is ∙ go (same spot.stop ask.origin);
      told_is = λ t e. sym (untold (Reach spot.region spot.stop t));
      failed_is = λ t e. sym (unfailed (Reach spot.region spot.stop t));
      targets_are = targets;
    }
  where
    go : (b : Bool) → cond b (Some ask.start) None ≡ least (cond (b && serves book spot.region spot.stop) (ask.start ∷ []) [] ++ [])
    go true = sym (ap (λ (s : Bool). least (cond s (ask.start ∷ []) [] ++ [])) served)
    go false = refl

-- the labels of the first places
pub record LabelledTo (book : Book) (ask : TripAsk) (labels : List Label) (n : ℕ) : Type 0 where
  pub count : length labels ≡ n
  pub each : (place : ℕ) (spot : Spot) (label : Label) → IsSpotAt book place spot → slice_get labels place ≡ Some label → IsLabel book ask [] [] spot label

pub labelled_none : (book : Book) (ask : TripAsk) → LabelledTo book ask [] 0
labelled_none book ask = record { count = refl; each = λ place spot label at is. absurd (none-some label is) }

push_get : {X : Type 0} (xs : List X) (x y : X) (k : ℕ) → slice_get (xs ++ x ∷ []) k ≡ Some y → (slice_get xs k ≡ Some y) ⊎ ((k ≡ length xs) × (x ≡ y))
push_get [] x y zero e = inr (refl, same_Some x y e)
push_get [] x y (suc k) e = absurd (none-some y e)
push_get (z ∷ xs) x y zero e = inl e
push_get (z ∷ xs) x y (suc k) e = elim (push_get xs x y k e) [ inl h ↦ inl h | inr h ↦ (let n : k ≡ length xs = h.0 in inr (omega arith, h.1)) ]

pub labelled_more : (book : Book) (ask : TripAsk) (labels : List Label) (n : ℕ) (spot : Spot) (label : Label) → IsSpotAt book n spot → IsLabel book ask [] [] spot label → LabelledTo book ask labels n → LabelledTo book ask (labels ++ label ∷ []) (n + 1)
labelled_more book ask labels n spot label at is it =
    record {
      count = length_push labels label ∙ ap (λ (k : ℕ). k + 1) it.count;
      each = λ place other last here stands.
          elim (push_get labels label last place stands) [
            | inl before ↦ it.each place other last here before
            | inr now ↦
                let place_is : place ≡ n = now.0 ∙ it.count in
                let same_spot : spot ≡ other = same_Some spot other (sym at ∙ (ap (λ (k : ℕ). slice_get book.spots k) (sym place_is) ∙ here)) in
                subst (λ (l : Label). IsLabel book ask [] [] other l) now.1 (subst (λ (s : Spot). IsLabel book ask [] [] s label) same_spot is)
          ];
    }

pub labelled_all : (book : Book) (ask : TripAsk) (labels : List Label) → LabelledTo book ask labels (length book.spots) → AreLabels book ask [] [] labels
labelled_all book ask labels it =
    record {
      count = it.count;
      known = λ stop region start e. absurd (true≢false (sym e ∙ untold (Reach region stop start)));
      each = it.each;
    }

-- the own pair's label
pub own_label : (book : Book) (ask : TripAsk) (code : Text) (label : Label) → home ask.origin ≡ Some code → IsLabel book ask [] [] (own_spot ask.origin code) label → IsOwnLabel book ask [] label (home ask.origin)
own_label book ask code label own is =
    subst (λ (o : Option Text). IsOwnLabel book ask [] label o) (sym own)
    (subst (λ heard. IsLabel book ask [] heard (own_spot ask.origin code) label) (sym (no_arrivals book ask)) is)

pub no_own_label : (book : Book) (ask : TripAsk) (label : Label) → home ask.origin ≡ None → IsOwnLabel book ask [] label (home ask.origin)
no_own_label book ask label none = subst (λ (o : Option Text). IsOwnLabel book ask [] label o) (sym none) tt

-- what is known of a place before anything was told
pub point_state : (book : Book) (stop : Text) (b : Bool) → home stop ≡ None → is_declared book stop ≡ b → cond b Known Unknown ≡ place_state book [] stop
unfolding place_state
point_state book stop b none is = sym (ap (state_by book [] stop) none ∙ ap (λ (c : Bool). cond c Known Unknown) is)

pub own_state : (book : Book) (stop code : Text) (b : Bool) → home stop ≡ Some code → has_region book code ≡ b → cond b Unheard Unknown ≡ place_state book [] stop
unfolding place_state
own_state book stop code b own is = sym (ap (state_by book [] stop) own ∙ ap (λ (c : Bool). cond c Unheard Unknown) is)

-- what the first board keeps
pub first_kept : (book : Book) (ask : TripAsk) (origin target : PlaceState) (own : Label) (labels : List Label)
    → IsWellBook book → IsTrue (is_stop_ref ask.origin) → origin ≡ place_state book [] ask.origin → target ≡ place_state book [] ask.target
    → IsOwnLabel book ask [] own (home ask.origin) → AreLabels book ask [] [] labels → IsKept book ask [] None origin target own labels
unfolding best arrivals checks_in
first_kept book ask origin target own labels well ref origin_is target_is own_is labels_are =
    record {
      book_well = well;
      origin_well = ref;
      record_of = record { in_turn = tt; fits = tt };
      best_is = refl;
      origin_is = origin_is;
      target_is = target_is;
      own_is = own_is;
      labels_are = labels_are;
    }
