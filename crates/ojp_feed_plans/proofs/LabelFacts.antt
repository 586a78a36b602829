-- The labels of journeys.
use Rattle.std.proofs.Common.{◌≡◌, ℕ, zero, suc, ◌+◌, ◌*◌, ◌<◌, ◌≤◌, ◌||◌, Bool, true, false, List, [], ◌∷◌, ◌++◌, length, get_or, map, take, Some, inl, inr, refl, sym, ap, ◌∙◌, append-nil, append_assoc, arith}
use Rattle.std.specs.Prelude.{slice_get}
use Rattle.std.specs.List.{flat_map, list_any, range_with_len}
use Rattle.std.specs.Map.{lookup}
use Rattle.std.specs.Option.{is_some}
use Rattle.std.specs.Str.{bytes_eq}
use Rattle.std.proofs.Math.Nat.{suc-mul}
use Rattle.std.proofs.lemmas.Bool.{cases_Bool, cases_lt, cond-false, cond-true}
use Rattle.std.proofs.lemmas.List.{get_or-map, length-append, length-map, length-take-le, take_all, take_more}
use Rattle.std.proofs.lemmas.List.Concat.{flat_map-append}
use Rattle.std.proofs.lemmas.List.Folds.{list_any-append, list_any_more}
use Rattle.std.proofs.lemmas.List.FromFn.{length-map-range_with_len, map-range_with_len_more}
use Rattle.indexmap.specs.IndexMap.{IndexMap, IsEmpty, Updates, get}
use Rattle.ojp_values.specs.Texts.{Text}
use Rattle.ojp_calendars.specs.declared.day_box.DayBox.{DayBox}
use Rattle.ojp_feed_labels.specs.Doubles.{own_label, own_labels}
use Rattle.ojp_feed_rows.specs.declared.feed.Feed.{Feed}
use Rattle.ojp_feed_trips.specs.declared.weighing.Pattern.{Pattern}
use Rattle.ojp_feed_plans.specs.Labels.{AreKeys, AreLabelled, is_among, is_key, is_trip_label, journey_label, labels_of, labels_of_trip, pattern_id, pattern_labels, start_labels, starts_labels, stem, stem_labels, trip_ids, trip_label}
use Rattle.ojp_feed_plans.specs.declared.plans.PlannedJourney.{PlannedJourney}

or_true : (b : Bool) → (b || true) ≡ true
or_true true = refl
or_true false = refl

or_false : (b : Bool) → (b || false) ≡ b
or_false true = refl
or_false false = refl

-- ---- keys

module _ {S : Type 0} where
  pub keys_none : (seen : IndexMap Text ℕ S) → IsEmpty seen → AreKeys [] seen
  keys_none seen empty label = ap (λ (es : List (Text × ℕ)). is_some (lookup (bytes_eq label) es)) empty

  pub keys_more : (labels : List Text) (i number : ℕ) (label : Text) (old new : IndexMap Text ℕ S) → i < length labels → label ≡ get_or labels i label → AreKeys (take i labels) old → Updates bytes_eq old new label (Some number)
      → AreKeys (take (i + 1) labels) new
  keys_more labels i number label old new h is before updates text =
      let more : is_among (take (i + 1) labels) text ≡ (is_among (take i labels) text || bytes_eq label text) =
      list_any_more (λ (one : Text). bytes_eq one text) labels i label h ∙ ap (λ (one : Text). is_among (take i labels) text || bytes_eq one text) (sym is) in
      ap is_some (updates.0 text) ∙ (elim (cases_Bool (bytes_eq label text)) [
        | inl e ↦ ap is_some (cond-true (bytes_eq label text) (Some number) (get bytes_eq old text) e) ∙ sym (ap (λ (b : Bool). is_among (take i labels) text || b) e ∙ or_true (is_among (take i labels) text))
        | inr e ↦
            ap is_some (cond-false (bytes_eq label text) (Some number) (get bytes_eq old text) e) ∙ (before text ∙ sym (ap (λ (b : Bool). is_among (take i labels) text || b) e ∙ or_false (is_among (take i labels) text)))
      ] ∙ sym more)

-- ---- the label of a pattern's trip

pub label_is : (feed : Feed) (patterns : List Pattern) (number : ℕ) (pattern : Pattern) (labels : List Text) (label : Text) → labels ≡ own_labels 21 (trip_ids feed patterns) → number < length patterns → pattern ≡ get_or patterns number pattern
    → ((other : Text) → number < length labels → label ≡ get_or labels number other) → label ≡ trip_label feed patterns pattern
unfolding own_labels trip_ids
label_is feed patterns number pattern labels label are h is read =
    let ids = map (pattern_id feed) patterns in
    let own = own_label 21 ids in
    let ids_long = length-map patterns (pattern_id feed) in
    let long : length labels ≡ length patterns = ap length are ∙ (length-map ids own ∙ ids_long) in
    read [] (omega (arith, long, h)) ∙ (ap (λ (all : List Text). get_or all number []) are ∙ (get_or-map own ids number [] [] (omega (arith, ids_long, h))
    ∙ (ap own (get_or-map (pattern_id feed) patterns number pattern [] h) ∙ ap (λ (p : Pattern). own (pattern_id feed p)) (sym is))))

-- ---- one label more

pub any_more : (p : Text → Bool) (f : ℕ → Text) (place : ℕ) (before now : Bool) → before ≡ list_any p (map f (range_with_len 0 place)) → now ≡ (before || p (f place)) → now ≡ list_any p (map f (range_with_len 0 (place + 1)))
any_more p f place before now was is =
    let more = ap (list_any p) (map-range_with_len_more f 0 place place (omega arith)) ∙ (list_any-append p (map f (range_with_len 0 place)) (f place ∷ [])
    ∙ ap (λ (b : Bool). list_any p (map f (range_with_len 0 place)) || b) (or_false (p (f place)))) in
    is ∙ (ap (λ (b : Bool). b || p (f place)) was ∙ sym more)

pub any_starts_more : (p : Text → Bool) (f : ℕ → List Text) (starts : List ℕ) (i d : ℕ) (before now : Bool) → i < length starts → before ≡ list_any p (flat_map f (take i starts)) → now ≡ (before || list_any p (f (get_or starts i d)))
    → now ≡ list_any p (flat_map f (take (i + 1) starts))
any_starts_more p f starts i d before now h was is =
    let start = get_or starts i d in
    let more : flat_map f (take (i + 1) starts) ≡ flat_map f (take i starts) ++ f start =
    ap (flat_map f) (take_more starts i d h) ∙ (flat_map-append f (take i starts) (get_or starts i d ∷ []) ∙ ap (λ (xs : List Text). flat_map f (take i starts) ++ xs) (append-nil (f start))) in
    is ∙ (ap (λ (b : Bool). b || list_any p (f start)) was ∙ sym (ap (list_any p) more ∙ list_any-append p (flat_map f (take i starts)) (f start)))

pub days_label_more : (f : ℕ → Text) (place : ℕ) (old mid new : List Text) (label : Text) → mid ≡ old ++ map f (range_with_len 0 place) → label ≡ f place → new ≡ mid ++ label ∷ [] → new ≡ old ++ map f (range_with_len 0 (place + 1))
days_label_more f place old mid new label before is step =
    let front = map f (range_with_len 0 place) in
    step ∙ (ap (λ (xs : List Text). xs ++ label ∷ []) before ∙ (append_assoc old front (label ∷ []) ∙ ap (λ (xs : List Text). old ++ xs)
    (ap (λ (text : Text). front ++ text ∷ []) is ∙ sym (map-range_with_len_more f 0 place place (omega arith)))))

pub starts_label_more : (f : ℕ → List Text) (starts : List ℕ) (i d : ℕ) (old mid new : List Text) → i < length starts → mid ≡ old ++ flat_map f (take i starts) → new ≡ mid ++ f (get_or starts i d) → new ≡ old ++ flat_map f (take (i + 1) starts)
starts_label_more f starts i d old mid new h before step =
    let front = flat_map f (take i starts) in
    let start = get_or starts i d in
    let more : flat_map f (take (i + 1) starts) ≡ front ++ f start =
    ap (flat_map f) (take_more starts i d h) ∙ (flat_map-append f (take i starts) (start ∷ []) ∙ ap (λ (xs : List Text). front ++ xs) (append-nil (f start))) in
    step ∙ (ap (λ (xs : List Text). xs ++ f start) before ∙ (append_assoc old front (f start) ∙ ap (λ (xs : List Text). old ++ xs) (sym more)))

-- ---- the labels of a trip

labels_count : (is_repeated : Bool) (count : ℕ) (trip : Text) (starts : List ℕ) → length (starts_labels is_repeated count trip starts) ≡ length starts * count
unfolding start_labels
labels_count is_repeated count trip [] = omega arith
labels_count is_repeated count trip (start ∷ starts) =
    length-append (start_labels is_repeated count trip start) (starts_labels is_repeated count trip starts)
    ∙ omega (arith, length-map-range_with_len (journey_label is_repeated count trip start) 0 count, labels_count is_repeated count trip starts, suc-mul (length starts) count)

labels_none : (is_repeated : Bool) (trip : Text) (starts : List ℕ) → starts_labels is_repeated 0 trip starts ≡ []
unfolding start_labels
labels_none is_repeated trip [] = refl
labels_none is_repeated trip (start ∷ starts) = labels_none is_repeated trip starts

stem_none : (is_taken : Text → Bool) (id : Text) (is_repeated : Bool) (trip : Text) (starts : List ℕ) → stem_labels is_taken id is_repeated 0 trip starts ≡ []
unfolding stem_labels
stem_none is_taken id is_repeated trip starts = labels_none is_repeated (stem is_taken id is_repeated 0 trip starts) starts

-- the first 20,001 departures give all labels where these are no more than 20,000
first_all : (is_taken : Text → Bool) (id : Text) (is_repeated : Bool) (count : ℕ) (trip named : Text) (starts all : List ℕ) → starts ≡ take 20001 all → length (starts_labels is_repeated count named starts) ≤ 20000
    → stem_labels is_taken id is_repeated count trip starts ≡ stem_labels is_taken id is_repeated count trip all
first_all is_taken id is_repeated zero trip named starts all is few = stem_none is_taken id is_repeated trip starts ∙ sym (stem_none is_taken id is_repeated trip all)
first_all is_taken id is_repeated (suc count) trip named starts all is few =
    elim (cases_lt 20001 (length all)) [
      | inr short ↦ ap (stem_labels is_taken id is_repeated (suc count) trip) (is ∙ take_all 20001 all short)
      | inl more ↦
          let full : length starts ≡ 20001 = ap length is ∙ length-take-le 20001 all (omega (arith, more)) in
          absurd (omega (arith, few, labels_count is_repeated (suc count) named starts, ap (λ (n : ℕ). n * suc count) full))
    ]

pub stem_all : (is_taken : Text → Bool) (id : Text) (is_repeated repeats : Bool) (count i : ℕ) (trip named : Text) (starts all : List ℕ) (old new : List Text) → is_repeated ≡ repeats → named ≡ stem is_taken id is_repeated count trip starts
    → starts ≡ take 20001 all → length starts ≤ i → length new ≤ 20000 → new ≡ old ++ flat_map (start_labels is_repeated count named) (take i starts) → new ≡ old ++ stem_labels is_taken id repeats count trip all
unfolding stem_labels
stem_all is_taken id is_repeated repeats count i trip named starts all old new same is first behind few made =
    let labels = starts_labels is_repeated count named starts in
    let whole : new ≡ old ++ labels = made ∙ ap (λ (xs : List ℕ). old ++ flat_map (start_labels is_repeated count named) xs) (take_all i starts behind) in
    let long : length new ≡ length old + length labels = ap length whole ∙ length-append old labels in
    whole ∙ ap (λ (xs : List Text). old ++ xs)
    (ap (λ (text : Text). starts_labels is_repeated count text starts) is ∙ (first_all is_taken id is_repeated count trip named starts all first (omega (arith, long, few))
    ∙ ap (λ (b : Bool). stem_labels is_taken id b count trip all) same))

-- ---- the labels of patterns

pub pattern_more : (feed : Feed) (boxes : List (List DayBox)) (patterns : List Pattern) (is_taken : Text → Bool) (i : ℕ) (pattern : Pattern) (label : Text) (mid new : List Text) → i < length patterns → pattern ≡ get_or patterns i pattern
    → ((text : Text) → is_taken text ≡ is_trip_label feed patterns text) → label ≡ trip_label feed patterns pattern → mid ≡ flat_map (pattern_labels feed boxes patterns) (take i patterns)
    → new ≡ mid ++ labels_of_trip is_taken boxes label (slice_get feed.trips.items pattern.trip) → new ≡ flat_map (pattern_labels feed boxes patterns) (take (i + 1) patterns)
unfolding pattern_labels
pattern_more feed boxes patterns is_taken i pattern label mid new h at taken is before step =
    let f = pattern_labels feed boxes patterns in
    let front = flat_map f (take i patterns) in
    let trip = slice_get feed.trips.items pattern.trip in
    let tests : is_taken ≡ is_trip_label feed patterns = λ k. λ text. taken text k in
    let own : labels_of_trip is_taken boxes label trip ≡ f pattern =
    ap (λ (test : Text → Bool). labels_of_trip test boxes label trip) tests ∙ ap (λ (text : Text). labels_of_trip (is_trip_label feed patterns) boxes text trip) is in
    let more : flat_map f (take (i + 1) patterns) ≡ front ++ f pattern =
    ap (flat_map f) (take_more patterns i pattern h ∙ ap (λ (p : Pattern). take i patterns ++ p ∷ []) (sym at)) ∙ (flat_map-append f (take i patterns) (pattern ∷ []) ∙ ap (λ (xs : List Text). front ++ xs) (append-nil (f pattern))) in
    step ∙ (ap (λ (xs : List Text). xs ++ labels_of_trip is_taken boxes label trip) before ∙ (ap (λ (xs : List Text). front ++ xs) own ∙ sym more))

pub all_labelled : (feed : Feed) (boxes : List (List DayBox)) (patterns : List Pattern) (i : ℕ) (journeys : List PlannedJourney) → length patterns ≤ i → labels_of journeys ≡ flat_map (pattern_labels feed boxes patterns) (take i patterns)
    → AreLabelled feed boxes patterns journeys
unfolding AreLabelled
all_labelled feed boxes patterns i journeys behind is = is ∙ ap (flat_map (pattern_labels feed boxes patterns)) (take_all i patterns behind)

-- the keys are the labels of the patterns' trips
pub keys_are : {S : Type 0} (feed : Feed) (patterns : List Pattern) (labels : List Text) (seen : IndexMap Text ℕ S) → labels ≡ own_labels 21 (trip_ids feed patterns) → AreKeys labels seen → (text : Text) → is_key seen text ≡ is_trip_label feed patterns text
unfolding is_trip_label
keys_are feed patterns labels seen is keys text = keys text ∙ ap (λ (all : List Text). is_among all text) is

pub keys_kept : {S : Type 0} (feed : Feed) (patterns : List Pattern) (labels : List Text) (old new : IndexMap Text ℕ S) → new ≡ old → labels ≡ own_labels 21 (trip_ids feed patterns) → AreKeys labels old → (text : Text)
    → is_key new text ≡ is_trip_label feed patterns text
keys_kept {S} feed patterns labels old new same is keys text = ap (λ (m : IndexMap Text ℕ S). is_key m text) same ∙ keys_are feed patterns labels old is keys text
