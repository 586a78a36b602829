-- How labels keep the least start, as a record grows.
use Rattle.std.proofs.Common.{◌≡◌, ◌≢◌, ℕ, ◌+◌, ◌<◌, ◌≤◌, Bool, true, false, not, cond, ◌&&◌, ◌||◌, List, [], ◌∷◌, ◌++◌, map, Option, Some, None, length, set, nat_lt, min, refl, sym, ◌∙◌, ap, subst, inl, inr, arith, slice_get, eqb}
use Rattle.std.proofs.lemmas.Bool.{true≢false, and_parts, cases_Bool, ltb-true, lt-ltb, not-true}
use Rattle.std.proofs.lemmas.List.{length-set, get_or-set_same, get_or-set_other, flat_map_more, map-append, append-nil}
use Rattle.std.proofs.lemmas.Option.{same_Some, slice_get_within, slice_get-get_or, get_or_from_slice_get}
use Rattle.std.specs.List.{filter}
use Rattle.ojp_values.specs.Lists.{Among, least}
use Rattle.ojp_values.specs.Texts.{Text, same}
use Rattle.ojp_exchange.specs.Book.{Spot, Link, Book, HasChange, has_region}
use Rattle.ojp_exchange.specs.Places.{IsSpotAt, IsPairAt, IsEdge, edge_to, AreEdges}
use Rattle.ojp_exchange.specs.Kept.{IsWellBook}
use Rattle.ojp_timetable.proofs.TextFacts.{same_is, differ_is}
use Rattle.ojp_records.specs.Records.{same_query, is_told, is_failed, has_reply, Failed}
use Rattle.ojp_records.specs.Starts.{Arrival, arrivals_heard, arrivals, is_within, is_change, may_change, asked_start, starts_after, known_starts, best, moment_of, is_at_target, lesser_of}
use Rattle.ojp_records.specs.Wanted.{is_before}
use Rattle.ojp_labels.specs.Labels.{no_label, label_at, lowered, lowered_by, is_start, marked, marked_at}
use Rattle.ojp_labels.specs.Hearing.{best_by}
use Rattle.ojp_labels.specs.Boards.{starts_by, IsLabel, TellsKnown, AreLabels}
use Rattle.ojp_values.proofs.ListFacts.{Member, LeastBelow, among_append_left, among_map_back, among_filter_back, least_below, least_among, least_none}
use Rattle.ojp_records.proofs.RecordFacts.{same_query_is, is_same_query, is_told_is, failed_is}
use Rattle.ojp_exchange.proofs.BookFacts.{region_is}
use Rattle.ojp_exchange.proofs.SpotFacts.{one_place, known_at}
use Rattle.ojp_records.proofs.BoardFacts.{least_append, filter_append, arrivals_append, is_told_append, is_failed_append, lesser_assoc}
use Rattle.ojp_records.proofs.StartFacts.{after_is_start, start_after_back}
use Rattle.ojp_values.specs.declared.asks.TripAsk.{TripAsk}
use Rattle.ojp_exchange.specs.declared.spots.Edge.{Edge}
use Rattle.ojp_records.specs.declared.queries.Query.{Query}
use Rattle.ojp_records.specs.declared.queries.Query.TheVariants.{Reach}
use Rattle.ojp_records.specs.declared.queries.Entry.{Entry}
use Rattle.ojp_labels.specs.declared.labels.Label.{Label}

-- the least of two lists in a row

pub lesser_none : (o : Option ℕ) → lesser_of o None ≡ o
lesser_none None = refl
lesser_none (Some x) = refl

pub lesser_of_assoc : (o p q : Option ℕ) → lesser_of (lesser_of o p) q ≡ lesser_of o (lesser_of p q)
lesser_of_assoc None p q = refl
lesser_of_assoc (Some x) p q = ap Some (sym (lesser_assoc x p q))

-- lists with the same numbers have the same least one
pub least_same : (xs ys : List ℕ) → ((x : ℕ) → Among x xs → Among x ys) → ((x : ℕ) → Among x ys → Among x xs) → least xs ≡ least ys
least_same xs ys there back = go (least xs) (least ys) refl refl
  where
    go : (o p : Option ℕ) → least xs ≡ o → least ys ≡ p → least xs ≡ least ys
    go None None e f = e ∙ sym f
    go None (Some m) e f = absurd (least_none m xs e (back m (least_among m ys f)))
    go (Some m) None e f = absurd (least_none m ys f (there m (least_among m xs e)))
    go (Some m) (Some n) e f =
        let low : LeastBelow m ys = least_below m ys (there m (least_among m xs e)) in
        let high : LeastBelow n xs = least_below n xs (back n (least_among n ys f)) in
        let low_is : low.value ≡ n = same_Some low.value n (sym low.is ∙ f) in
        let high_is : high.value ≡ m = same_Some high.value m (sym high.is ∙ e) in
        let l : low.value ≤ m = low.below in
        let h : high.value ≤ n = high.below in
        let equal : m ≡ n = omega arith in
        e ∙ (ap Some equal ∙ sym f)

-- the moments at which one is at the place by the edges
abbrev pub times_to : ℕ → ℕ → List Edge → List ℕ
times_to place moment [] = []
times_to place moment (edge ∷ edges) = cond (eqb edge.to place) ((moment + edge.change) ∷ times_to place moment edges) (times_to place moment edges)

-- the label after these starts became known, one after another
abbrev pub lowered_all : Label → List ℕ → Label
lowered_all label [] = label
lowered_all label (t ∷ ts) = lowered_all (lowered label t) ts

-- what stands at a place after the changes
pub lowered_length : (edges : List Edge) (moment : ℕ) (labels : List Label) → length (lowered_by edges moment labels) ≡ length labels
lowered_length [] moment labels = refl
lowered_length (edge ∷ edges) moment labels =
    lowered_length edges moment _ ∙ length-set labels edge.to (lowered (label_at labels edge.to) (moment + edge.change))

eqb_is : (x y : ℕ) → eqb x y ≡ true → x ≡ y
eqb_is x y e = grind arith

eqb_not : (x y : ℕ) → eqb x y ≡ false → y ≢ x
eqb_not x y e h = grind arith

lowered_place : (edge : Edge) (moment place : ℕ) (labels : List Label) (b : Bool) → eqb edge.to place ≡ b → place < length labels
    → label_at (set labels edge.to (lowered (label_at labels edge.to) (moment + edge.change))) place ≡ cond b (lowered (label_at labels place) (moment + edge.change)) (label_at labels place)
lowered_place edge moment place labels true e within =
    let is : edge.to ≡ place = eqb_is edge.to place e in
    let there : edge.to < length labels = omega arith in
    subst (λ (p : ℕ). label_at (set labels edge.to (lowered (label_at labels edge.to) (moment + edge.change))) p ≡ lowered (label_at labels p) (moment + edge.change)) is
    (get_or-set_same labels edge.to (lowered (label_at labels edge.to) (moment + edge.change)) no_label there)
lowered_place edge moment place labels false e within =
    get_or-set_other labels edge.to place (lowered (label_at labels edge.to) (moment + edge.change)) no_label (eqb_not edge.to place e)

pub lowered_at : (edges : List Edge) (moment : ℕ) (labels : List Label) (place : ℕ) → place < length labels → label_at (lowered_by edges moment labels) place ≡ lowered_all (label_at labels place) (times_to place moment edges)
lowered_at [] moment labels place within = refl
lowered_at (edge ∷ edges) moment labels place within =
    let next : List Label = set labels edge.to (lowered (label_at labels edge.to) (moment + edge.change)) in
    let within' : place < length next = omega (arith, length-set labels edge.to (lowered (label_at labels edge.to) (moment + edge.change))) in
    lowered_at edges moment next place within' ∙ go (eqb edge.to place) refl
  where
    go : (b : Bool) → eqb edge.to place ≡ b →
        lowered_all (label_at (set labels edge.to (lowered (label_at labels edge.to) (moment + edge.change))) place) (times_to place moment edges)
        ≡ lowered_all (label_at labels place) (cond b ((moment + edge.change) ∷ times_to place moment edges) (times_to place moment edges))
    go true e = ap (λ (l : Label). lowered_all l (times_to place moment edges)) (lowered_place edge moment place labels true e within)
    go false e = ap (λ (l : Label). lowered_all l (times_to place moment edges)) (lowered_place edge moment place labels false e within)

-- which moments those are
time_to_back : (place moment : ℕ) (edges : List Edge) (t : ℕ) → Among t (times_to place moment edges) → (change : ℕ) × Among (edge_to place change) edges × (t ≡ moment + change)
time_to_back place moment [] t h = absurd h
time_to_back place moment (edge ∷ edges) t h = go (time_to_back place moment edges t) (eqb edge.to place) refl h
  where
    later : (Among t (times_to place moment edges) → (change : ℕ) × Among (edge_to place change) edges × (t ≡ moment + change)) → Among t (times_to place moment edges) → (change : ℕ) × Among (edge_to place change) (edge ∷ edges) × (t ≡ moment + change)
    later rest i = let it : (change : ℕ) × Among (edge_to place change) edges × (t ≡ moment + change) = rest i in (it.0, inr it.1, it.2)

    go : (Among t (times_to place moment edges) → (change : ℕ) × Among (edge_to place change) edges × (t ≡ moment + change)) → (b : Bool) → eqb edge.to place ≡ b → Among t (cond b ((moment + edge.change) ∷ times_to place moment edges) (times_to place moment edges)) → (change : ℕ) × Among (edge_to place change) (edge ∷ edges) × (t ≡ moment + change)
    go rest true e (inl is) = (edge.change, inl (ap (λ (p : ℕ). edge_to p edge.change) (sym (eqb_is edge.to place e))), is)
    go rest true e (inr i) = later rest i
    go rest false e i = later rest i

time_to : (place moment : ℕ) (edges : List Edge) (change : ℕ) → Among (edge_to place change) edges → Among (moment + change) (times_to place moment edges)
time_to place moment [] change h = absurd h
time_to place moment (edge ∷ edges) change (inl e) =
    let to : place ≡ edge.to = ap (λ (it : Edge). it.to) e in
    let time : change ≡ edge.change = ap (λ (it : Edge). it.change) e in
    let yes : eqb edge.to place ≡ true = grind arith in
    subst (λ (b : Bool). Among (moment + change) (cond b ((moment + edge.change) ∷ times_to place moment edges) (times_to place moment edges))) (sym yes) (inl (ap (λ (n : ℕ). moment + n) time))
time_to place moment (edge ∷ edges) change (inr h) = go (eqb edge.to place) (time_to place moment edges change h)
  where
    go : (b : Bool) → Among (moment + change) (times_to place moment edges) → Among (moment + change) (cond b ((moment + edge.change) ∷ times_to place moment edges) (times_to place moment edges))
    go true rest = inr rest
    go false rest = rest

-- two spots at one place are one
same_spot : (book : Book) (place : ℕ) (x y : Spot) → IsSpotAt book place x → IsSpotAt book place y → x ≡ y
same_spot book place x y ex ey = same_Some x y (sym ex ∙ ey)

-- two pairs at one place are one
pub same_pair : (book : Book) (place : ℕ) (stop region stop' region' : Text) → IsPairAt book place stop region → IsPairAt book place stop' region' → (stop ≡ stop') × (region ≡ region')
same_pair book place stop region stop' region' x y =
    let e : x.spot ≡ y.spot = same_spot book place x.spot y.spot x.at y.at in
    (sym x.stop_is ∙ (ap (λ (s : Spot). s.stop) e ∙ y.stop_is), sym x.region_is ∙ (ap (λ (s : Spot). s.region) e ∙ y.region_is))

pair_of_spot : (book : Book) (place : ℕ) (spot : Spot) → IsSpotAt book place spot → IsPairAt book place spot.stop spot.region
pair_of_spot book place spot at = record { spot = spot; at = at; stop_is = refl; region_is = refl }

-- the edges from where one arrived give the starts after the arrival
pub edge_starts :
    (book : Book) (from place : ℕ) (edges : List Edge) (arrival : Arrival) (spot : Spot)
    → IsWellBook book → AreEdges book from edges → IsPairAt book from arrival.stop arrival.region → IsSpotAt book place spot
    → least (times_to place arrival.moment edges) ≡ least (starts_after book spot.stop spot.region arrival)
edge_starts book from place edges arrival spot well edges_are here at = least_same _ _ there back
  where
    there : (t : ℕ) → Among t (times_to place arrival.moment edges) → Among t (starts_after book spot.stop spot.region arrival)
    there t h =
        let it : (change : ℕ) × Among (edge_to place change) edges × (t ≡ arrival.moment + change) = time_to_back place arrival.moment edges t h in
        let edge : IsEdge book from place it.0 = (edges_are place it.0).0 it.1 in
        let left : (arrival.stop ≡ edge.link.stop) × (arrival.region ≡ edge.link.other) = same_pair book from _ _ _ _ here edge.arrives in
        let right : (spot.stop ≡ edge.link.stop) × (spot.region ≡ edge.link.region) = same_pair book place _ _ _ _ (pair_of_spot book place spot at) edge.leaves in
        let other : spot.region ≢ arrival.region = λ e. well.differ edge.link edge.listed (sym (sym right.1 ∙ (e ∙ left.1))) in
        let known : Among arrival.region book.codes = subst (λ (r : Text). Among r book.codes) here.region_is (known_at book from here.spot well here.at) in
        let has : HasChange book spot.stop arrival.region spot.region it.0 =
        record { known = known; link = edge.link; listed = edge.listed; at = sym right.0; declaring = sym right.1; other = sym left.1; time = edge.time } in
        subst (λ (n : ℕ). Among n (starts_after book spot.stop spot.region arrival)) (sym it.2)
        (after_is_start book spot.stop spot.region arrival it.0 (left.0 ∙ sym right.0) other has)

    back : (t : ℕ) → Among t (starts_after book spot.stop spot.region arrival) → Among t (times_to place arrival.moment edges)
    back t h =
        let it : (change : ℕ) × (arrival.stop ≡ spot.stop) × (spot.region ≢ arrival.region) × HasChange book spot.stop arrival.region spot.region change × (t ≡ arrival.moment + change) =
        start_after_back book spot.stop spot.region arrival t h in
        let has : HasChange book spot.stop arrival.region spot.region it.0 = it.3 in
        let edge : IsEdge book from place it.0 =
        record {
          link = has.link;
          listed = has.listed;
          time = has.time;
          arrives = record { spot = here.spot; at = here.at; stop_is = here.stop_is ∙ (it.1 ∙ sym has.at); region_is = here.region_is ∙ sym has.other };
          leaves = record { spot = spot; at = at; stop_is = sym has.at; region_is = sym has.declaring };
        } in
        subst (λ (n : ℕ). Among n (times_to place arrival.moment edges)) (sym it.4)
        (time_to place arrival.moment edges it.0 ((edges_are place it.0).1 edge))

-- a label that is lowered keeps the least start

lowered_start : (label : Label) (t : ℕ) → (lowered label t).start ≡ lesser_of label.start (Some t)
lowered_start label t = go label.start refl
  where
    step : (m : ℕ) (b : Bool) → label.start ≡ Some m → nat_lt t m ≡ b → (cond b (record { start = Some t; told = false; failed = false; has_target = label.has_target }) label).start ≡ Some (min m t)
    step m true e lt = let less : t < m = ltb-true t m lt in ap Some (omega arith)
    step m false e lt = let more : m ≤ t = grind arith in e ∙ ap Some (omega arith)

    go : (o : Option ℕ) → label.start ≡ o → (cond (is_before t o) (record { start = Some t; told = false; failed = false; has_target = label.has_target }) label).start ≡ lesser_of o (Some t)
    go None e = refl
    go (Some m) e = step m (nat_lt t m) e refl

pub lowered_all_start : (label : Label) (ts : List ℕ) → (lowered_all label ts).start ≡ lesser_of label.start (least ts)
lowered_all_start label [] = sym (lesser_none label.start)
lowered_all_start label (t ∷ ts) =
    lowered_all_start (lowered label t) ts
    ∙ (ap (λ (o : Option ℕ). lesser_of o (least ts)) (lowered_start label t) ∙ lesser_of_assoc label.start (Some t) (least ts))

lowered_target : (label : Label) (t : ℕ) → (lowered label t).has_target ≡ label.has_target
lowered_target label t = go (is_before t label.start)
  where
    go : (b : Bool) → (cond b (record { start = Some t; told = false; failed = false; has_target = label.has_target }) label).has_target ≡ label.has_target
    go true = refl
    go false = refl

pub lowered_all_target : (label : Label) (ts : List ℕ) → (lowered_all label ts).has_target ≡ label.has_target
lowered_all_target label [] = refl
lowered_all_target label (t ∷ ts) = lowered_all_target (lowered label t) ts ∙ lowered_target label t

-- the label says of its start what the tests say
pub record Says (label : Label) (told failed : ℕ → Bool) : Type 0 where
  pub told_is : (t : ℕ) → label.start ≡ Some t → label.told ≡ told t
  pub failed_is : (t : ℕ) → label.start ≡ Some t → label.failed ≡ failed t

-- nothing was told of an earlier start than the label's
abbrev pub IsFresh : Option ℕ → (ℕ → Bool) → Type 0
IsFresh start test = (t : ℕ) → is_before t start ≡ true → test t ≡ false

lowered_says : (label : Label) (t : ℕ) (told failed : ℕ → Bool) → IsFresh label.start told → IsFresh label.start failed → Says label told failed → Says (lowered label t) told failed
lowered_says label t told failed fresh none says = go (is_before t label.start) refl
  where
    go : (b : Bool) → is_before t label.start ≡ b → Says (cond b (record { start = Some t; told = false; failed = false; has_target = label.has_target }) label) told failed
    go true e = record {
      told_is = λ u is. sym (subst (λ (n : ℕ). told n ≡ false) (same_Some t u is) (fresh t e));
      failed_is = λ u is. sym (subst (λ (n : ℕ). failed n ≡ false) (same_Some t u is) (none t e));
    }
    go false e = says

before_lesser : (t u : ℕ) (o : Option ℕ) → is_before u (lesser_of o (Some t)) ≡ true → is_before u o ≡ true
before_lesser t u None e = refl
before_lesser t u (Some m) e = let less : u < min m t = ltb-true u (min m t) e in lt-ltb u m (omega arith)

fresh_lowered : (label : Label) (t : ℕ) (test : ℕ → Bool) → IsFresh label.start test → IsFresh (lowered label t).start test
fresh_lowered label t test fresh u e = fresh u (before_lesser t u label.start (subst (λ (o : Option ℕ). is_before u o ≡ true) (lowered_start label t) e))

pub lowered_all_says : (label : Label) (ts : List ℕ) (told failed : ℕ → Bool) → IsFresh label.start told → IsFresh label.start failed → Says label told failed → Says (lowered_all label ts) told failed
lowered_all_says label [] told failed fresh none says = says
lowered_all_says label (t ∷ ts) told failed fresh none says =
    lowered_all_says (lowered label t) ts told failed (fresh_lowered label t told fresh) (fresh_lowered label t failed none) (lowered_says label t told failed fresh none says)

-- the labels after one more arrival

untold_failed : (told : List Entry) (query : Query) → is_told told query ≡ false → is_failed told query ≡ false
untold_failed told query e =
    elim (cases_Bool (is_failed told query)) [
      | inl failed ↦ let it : Failed told query = failed_is told query failed in absurd (true≢false (sym (is_told_is told it.0 query it.1 it.2) ∙ e))
      | inr none ↦ none
    ]

-- nothing was told before the least known start
pub fresh_told : (book : Book) (ask : TripAsk) (told : List Entry) (heard : List Arrival) (stop region : Text) → TellsKnown book ask told heard → IsFresh (least (starts_by book ask heard stop region)) (λ t. is_told told (Reach region stop t))
fresh_told book ask told heard stop region known t e =
    elim (cases_Bool (is_told told (Reach region stop t))) [
      | inl was ↦
          let below : LeastBelow t (starts_by book ask heard stop region) = least_below t _ (known stop region t was) in
          let less : nat_lt t below.value ≡ true = subst (λ (o : Option ℕ). is_before t o ≡ true) below.is e in
          let before : t < below.value = ltb-true t below.value less in
          let above : below.value ≤ t = below.below in
          absurd (omega arith)
      | inr none ↦ none
    ]

pub starts_more : (book : Book) (ask : TripAsk) (heard : List Arrival) (arrival : Arrival) (stop region : Text) → starts_by book ask (heard ++ arrival ∷ []) stop region ≡ starts_by book ask heard stop region ++ starts_after book stop region arrival
unfolding starts_by
starts_more book ask heard arrival stop region = sym (flat_map_more (starts_after book stop region) (asked_start book ask stop region) heard arrival)

pub known_more : (book : Book) (ask : TripAsk) (told : List Entry) (heard : List Arrival) (arrival : Arrival) → TellsKnown book ask told heard → TellsKnown book ask told (heard ++ arrival ∷ [])
known_more book ask told heard arrival known stop region start e =
    subst (λ (xs : List ℕ). Among start xs) (sym (starts_more book ask heard arrival stop region))
    (among_append_left start (starts_by book ask heard stop region) (starts_after book stop region arrival) (known stop region start e))

label_arrive :
    (book : Book) (ask : TripAsk) (told : List Entry) (heard : List Arrival) (arrival : Arrival) (spot : Spot) (label : Label) (ts : List ℕ)
    → TellsKnown book ask told heard → least ts ≡ least (starts_after book spot.stop spot.region arrival) → IsLabel book ask told heard spot label
    → IsLabel book ask told (heard ++ arrival ∷ []) spot (lowered_all label ts)
label_arrive book ask told heard arrival spot label ts known times is =
    let told_at : ℕ → Bool = λ t. is_told told (Reach spot.region spot.stop t) in
    let failed_at : ℕ → Bool = λ t. is_failed told (Reach spot.region spot.stop t) in
    let fresh : IsFresh label.start told_at = subst (λ (o : Option ℕ). IsFresh o told_at) (sym is.start_is) (fresh_told book ask told heard spot.stop spot.region known) in
    let none : IsFresh label.start failed_at = λ t e. untold_failed told (Reach spot.region spot.stop t) (fresh t e) in
    let says : Says (lowered_all label ts) told_at failed_at = lowered_all_says label ts told_at failed_at fresh none (record { told_is = is.told_is; failed_is = is.failed_is }) in
    record {
      start_is = lowered_all_start label ts ∙ (ap (λ (o : Option ℕ). lesser_of o (least ts)) is.start_is
          ∙ (ap (λ (o : Option ℕ). lesser_of (least (starts_by book ask heard spot.stop spot.region)) o) times
          ∙ (sym (least_append (starts_by book ask heard spot.stop spot.region) (starts_after book spot.stop spot.region arrival))
          ∙ ap least (sym (starts_more book ask heard arrival spot.stop spot.region)))));
      told_is = says.told_is;
      failed_is = says.failed_is;
      targets_are = lowered_all_target label ts ∙ is.targets_are;
    }

pub labels_arrive :
    (book : Book) (ask : TripAsk) (told : List Entry) (heard : List Arrival) (labels : List Label) (from : ℕ) (edges : List Edge) (arrival : Arrival)
    → IsWellBook book → AreEdges book from edges → IsPairAt book from arrival.stop arrival.region → AreLabels book ask told heard labels
    → AreLabels book ask told (heard ++ arrival ∷ []) (lowered_by edges arrival.moment labels)
labels_arrive book ask told heard labels from edges arrival well are here it =
    record {
      count = lowered_length edges arrival.moment labels ∙ it.count;
      known = known_more book ask told heard arrival it.known;
      each = λ place spot label at is_label.
          let within : place < length labels = let w : place < length book.spots = slice_get_within book.spots place spot at in omega (arith, it.count) in
          let old : Label = label_at labels place in
          let at_old : slice_get labels place ≡ Some old = slice_get-get_or labels place no_label within in
          let new : label ≡ lowered_all old (times_to place arrival.moment edges) = sym (get_or_from_slice_get _ place label no_label is_label) ∙ lowered_at edges arrival.moment labels place within in
          subst (λ (l : Label). IsLabel book ask told (heard ++ arrival ∷ []) spot l) (sym new)
          (label_arrive book ask told heard arrival spot old (times_to place arrival.moment edges) it.known (edge_starts book from place edges arrival spot well are here at) (it.each place spot old at at_old));
    }

-- the labels after one more entry

or_false : (b : Bool) → (b || false) ≡ b
or_false true = refl
or_false false = refl

told_alone : (entry : Entry) (query : Query) → is_told (entry ∷ []) query ≡ same_query entry.query query
unfolding is_told
told_alone entry query = or_false (same_query entry.query query)

failed_alone : (entry : Entry) (query : Query) → is_failed (entry ∷ []) query ≡ (same_query entry.query query && not (has_reply entry.reply))
unfolding is_failed
failed_alone entry query = or_false (same_query entry.query query && not (has_reply entry.reply))

told_push : (told : List Entry) (entry : Entry) (query : Query) → is_told (told ++ entry ∷ []) query ≡ (is_told told query || same_query entry.query query)
told_push told entry query = is_told_append told (entry ∷ []) query ∙ ap (λ (b : Bool). is_told told query || b) (told_alone entry query)

failed_push : (told : List Entry) (entry : Entry) (query : Query) → is_failed (told ++ entry ∷ []) query ≡ (is_failed told query || (same_query entry.query query && not (has_reply entry.reply)))
failed_push told entry query = is_failed_append told (entry ∷ []) query ∙ ap (λ (b : Bool). is_failed told query || b) (failed_alone entry query)

pub other_query : (p q : Query) → (p ≡ q → ⊥) → same_query p q ≡ false
other_query p q differ = elim (cases_Bool (same_query p q)) [ inl e ↦ absurd (differ (same_query_is p q e)) | inr e ↦ e ]

-- where the entry is of another query, nothing changes
pub told_other : (told : List Entry) (entry : Entry) (query : Query) → (entry.query ≡ query → ⊥) → (is_told (told ++ entry ∷ []) query ≡ is_told told query) × (is_failed (told ++ entry ∷ []) query ≡ is_failed told query)
told_other told entry query differ =
    let other : same_query entry.query query ≡ false = other_query entry.query query differ in (
      told_push told entry query ∙ (ap (λ (b : Bool). is_told told query || b) other ∙ or_false _),
      failed_push told entry query ∙ (ap (λ (b : Bool). is_failed told query || (b && not (has_reply entry.reply))) other ∙ or_false _),
    )

-- where it is of this one, it was told, and failed if there is no reply
told_this : (told : List Entry) (entry : Entry) (query : Query) → entry.query ≡ query → is_told told query ≡ false → (is_told (told ++ entry ∷ []) query ≡ true) × (is_failed (told ++ entry ∷ []) query ≡ not (has_reply entry.reply))
told_this told entry query is untold =
    let same_one : same_query entry.query query ≡ true = is_same_query entry.query query is in (
      told_push told entry query ∙ (ap (λ (b : Bool). b || same_query entry.query query) untold ∙ same_one),
      failed_push told entry query ∙ (ap (λ (b : Bool). b || (same_query entry.query query && not (has_reply entry.reply))) (untold_failed told query untold) ∙ ap (λ (b : Bool). b && not (has_reply entry.reply)) same_one),
    )

pub known_told : (book : Book) (ask : TripAsk) (told : List Entry) (heard : List Arrival) (entry : Entry) (stop region : Text) (start : ℕ) → entry.query ≡ Reach region stop start → Among start (starts_by book ask heard stop region) → TellsKnown book ask told heard → TellsKnown book ask (told ++ entry ∷ []) heard
known_told book ask told heard entry stop region start query_is listed known stop' region' start' e =
    elim (cases_Bool (is_told told (Reach region' stop' start'))) [
      | inl before ↦ known stop' region' start' before
      | inr untold ↦
          let now : same_query entry.query (Reach region' stop' start') ≡ true = sym (ap (λ (b : Bool). b || same_query entry.query (Reach region' stop' start')) untold) ∙ (sym (told_push told entry (Reach region' stop' start')) ∙ e) in
          let same_one : Reach region stop start ≡ Reach region' stop' start' = sym query_is ∙ same_query_is entry.query _ now in
          let regions : region ≡ region' = cc in
          let stops : stop ≡ stop' = cc in
          let starts : start ≡ start' = cc in
          subst (λ (t : ℕ). Among t (starts_by book ask heard stop' region')) starts
          (subst (λ (r : Text). Among start (starts_by book ask heard stop' r)) regions
          (subst (λ (s : Text). Among start (starts_by book ask heard s region)) stops listed))
    ]

pub label_told_here :
    (book : Book) (ask : TripAsk) (told : List Entry) (heard : List Arrival) (entry : Entry) (spot : Spot) (label : Label) (start : ℕ)
    → entry.query ≡ Reach spot.region spot.stop start → is_told told (Reach spot.region spot.stop start) ≡ false → IsLabel book ask told heard spot label
    → IsLabel book ask (told ++ entry ∷ []) heard spot (marked label start (not (has_reply entry.reply)))
label_told_here book ask told heard entry spot label start query_is untold is = go (is_start label.start start) refl
  where
    start_of_test : (o : Option ℕ) → is_start o start ≡ true → o ≡ Some start
    start_of_test None e = absurd (true≢false (sym e))
    start_of_test (Some known) e = ap Some (eqb_is known start e)

    other_start : (o : Option ℕ) (t : ℕ) → is_start o start ≡ false → o ≡ Some t → (start ≡ t → ⊥)
    other_start None t e f = absurd (cc)
    other_start (Some known) t e f = λ same_start. let here : known ≡ t = same_Some known t f in eqb_not known start e (same_start ∙ sym here)

    go : (b : Bool) → is_start label.start start ≡ b → IsLabel book ask (told ++ entry ∷ []) heard spot (cond b (record { start = label.start; told = true; failed = not (has_reply entry.reply); has_target = label.has_target }) label)
    go true e =
        let at : label.start ≡ Some start = start_of_test label.start e in
        let now : (is_told (told ++ entry ∷ []) (Reach spot.region spot.stop start) ≡ true) × (is_failed (told ++ entry ∷ []) (Reach spot.region spot.stop start) ≡ not (has_reply entry.reply)) =
        told_this told entry (Reach spot.region spot.stop start) query_is untold in
        record {
          start_is = is.start_is;
          told_is = λ t f. subst (λ (n : ℕ). true ≡ is_told (told ++ entry ∷ []) (Reach spot.region spot.stop n)) (same_Some start t (sym at ∙ f)) (sym now.0);
          failed_is = λ t f. subst (λ (n : ℕ). not (has_reply entry.reply) ≡ is_failed (told ++ entry ∷ []) (Reach spot.region spot.stop n)) (same_Some start t (sym at ∙ f)) (sym now.1);
          targets_are = is.targets_are;
        }
    go false e = record {
      start_is = is.start_is;
      told_is = λ t f. is.told_is t f ∙ sym (told_other told entry (Reach spot.region spot.stop t) (λ same_one. let both : Reach spot.region spot.stop start ≡ Reach spot.region spot.stop t = sym query_is ∙ same_one in let starts : start ≡ t = cc in other_start label.start t e f starts)).0;
      failed_is = λ t f. is.failed_is t f ∙ sym (told_other told entry (Reach spot.region spot.stop t) (λ same_one. let both : Reach spot.region spot.stop start ≡ Reach spot.region spot.stop t = sym query_is ∙ same_one in let starts : start ≡ t = cc in other_start label.start t e f starts)).1;
      targets_are = is.targets_are;
    }

pub label_told_elsewhere :
    (book : Book) (ask : TripAsk) (told : List Entry) (heard : List Arrival) (entry : Entry) (spot : Spot) (label : Label)
    → ((t : ℕ) → entry.query ≡ Reach spot.region spot.stop t → ⊥) → IsLabel book ask told heard spot label → IsLabel book ask (told ++ entry ∷ []) heard spot label
label_told_elsewhere book ask told heard entry spot label differ is =
    record {
      start_is = is.start_is;
      told_is = λ t f. is.told_is t f ∙ sym (told_other told entry (Reach spot.region spot.stop t) (differ t)).0;
      failed_is = λ t f. is.failed_is t f ∙ sym (told_other told entry (Reach spot.region spot.stop t) (differ t)).1;
      targets_are = is.targets_are;
    }

-- one more entry was told of the pair at a place
pub labels_told :
    (book : Book) (ask : TripAsk) (told : List Entry) (heard : List Arrival) (labels : List Label) (entry : Entry) (place : ℕ) (stop region : Text) (start : ℕ)
    → IsWellBook book → IsPairAt book place stop region → entry.query ≡ Reach region stop start → is_told told (Reach region stop start) ≡ false → Among start (starts_by book ask heard stop region)
    → AreLabels book ask told heard labels → AreLabels book ask (told ++ entry ∷ []) heard (marked_at labels place start (not (has_reply entry.reply)))
labels_told book ask told heard labels entry place stop region start well here query_is untold listed it =
    record {
      count = length-set labels place (marked (label_at labels place) start failed) ∙ it.count;
      known = known_told book ask told heard entry stop region start query_is listed it.known;
      each = λ p spot label at is_label. cases p spot label at is_label (eqb p place) refl;
    }
  where
    failed : Bool
    failed = not (has_reply entry.reply)

    cases : (p : ℕ) (spot : Spot) (label : Label) → IsSpotAt book p spot → slice_get (marked_at labels place start failed) p ≡ Some label → (b : Bool) → eqb p place ≡ b → IsLabel book ask (told ++ entry ∷ []) heard spot label
    cases p spot label at is_label true e =
        let same_place : p ≡ place = eqb_is p place e in
        let within : place < length labels = let w : p < length book.spots = slice_get_within book.spots p spot at in omega (arith, it.count) in
        let pair : (spot.stop ≡ stop) × (spot.region ≡ region) = same_pair book place _ _ _ _ (subst (λ (q : ℕ). IsPairAt book q spot.stop spot.region) same_place (pair_of_spot book p spot at)) here in
        let new : label ≡ marked (label_at labels place) start failed =
        sym (get_or_from_slice_get _ p label no_label is_label) ∙ (ap (λ (q : ℕ). label_at (marked_at labels place start failed) q) same_place ∙ get_or-set_same labels place (marked (label_at labels place) start failed) no_label within) in
        let at_old : slice_get labels p ≡ Some (label_at labels place) = ap (λ (q : ℕ). slice_get labels q) same_place ∙ slice_get-get_or labels place no_label within in
        let query' : entry.query ≡ Reach spot.region spot.stop start = query_is ∙ (λ i. Reach (sym pair.1 i) (sym pair.0 i) start) in
        let untold' : is_told told (Reach spot.region spot.stop start) ≡ false = ap (is_told told) (sym query' ∙ query_is) ∙ untold in
        subst (λ (l : Label). IsLabel book ask (told ++ entry ∷ []) heard spot l) (sym new)
        (label_told_here book ask told heard entry spot (label_at labels place) start query' untold' (it.each p spot (label_at labels place) at at_old))
    cases p spot label at is_label false e =
        let elsewhere : p ≢ place = λ same_place. eqb_not p place e (sym same_place) in
        let within : p < length labels = let w : p < length book.spots = slice_get_within book.spots p spot at in omega (arith, it.count) in
        let new : label ≡ label_at labels p =
        sym (get_or_from_slice_get _ p label no_label is_label) ∙ get_or-set_other labels place p (marked (label_at labels place) start failed) no_label elsewhere in
        let at_old : slice_get labels p ≡ Some (label_at labels p) = slice_get-get_or labels p no_label within in
        let differ : (t : ℕ) → entry.query ≡ Reach spot.region spot.stop t → ⊥ = λ t same_one.
        let both : Reach region stop start ≡ Reach spot.region spot.stop t = sym query_is ∙ same_one in
        let regions : region ≡ spot.region = cc in
        let stops : stop ≡ spot.stop = cc in
        elsewhere (one_place book p place stop region well (record { spot = spot; at = at; stop_is = sym stops; region_is = sym regions }) here) in
        subst (λ (l : Label). IsLabel book ask (told ++ entry ∷ []) heard spot l) (sym new)
        (label_told_elsewhere book ask told heard entry spot (label_at labels p) differ (it.each p spot (label_at labels p) at at_old))

-- arrivals and the best of them, as a record grows

-- the arrivals that the entry adds
abbrev pub new_arrivals : Book → TripAsk → Entry → List Arrival
new_arrivals book ask entry = filter (is_within ask) (arrivals_heard book ask entry.query entry.reply)

one_heard : (book : Book) (ask : TripAsk) (entry : Entry) → arrivals book ask (entry ∷ []) ≡ new_arrivals book ask entry
unfolding arrivals
one_heard book ask entry = ap (filter (is_within ask)) (append-nil (arrivals_heard book ask entry.query entry.reply))

pub arrivals_push : (book : Book) (ask : TripAsk) (told : List Entry) (entry : Entry) → arrivals book ask (told ++ entry ∷ []) ≡ arrivals book ask told ++ new_arrivals book ask entry
arrivals_push book ask told entry = arrivals_append book ask told (entry ∷ []) ∙ ap (λ (xs : List Arrival). arrivals book ask told ++ xs) (one_heard book ask entry)

pub best_is_by : (book : Book) (ask : TripAsk) (told : List Entry) → best book ask told ≡ best_by ask (arrivals book ask told)
unfolding best
best_is_by book ask told = refl

pub known_starts_by : (book : Book) (ask : TripAsk) (told : List Entry) (stop region : Text) → known_starts book ask told stop region ≡ starts_by book ask (arrivals book ask told) stop region
unfolding known_starts starts_by
known_starts_by book ask told stop region = refl

pub best_more : (ask : TripAsk) (heard more : List Arrival) → best_by ask (heard ++ more) ≡ lesser_of (best_by ask heard) (best_by ask more)
best_more ask heard more =
    ap (λ zs. least (map moment_of zs)) (filter_append (is_at_target ask) heard more)
    ∙ (ap least (map-append moment_of (filter (is_at_target ask) heard) (filter (is_at_target ask) more))
    ∙ least_append (map moment_of (filter (is_at_target ask) heard)) (map moment_of (filter (is_at_target ask) more)))
