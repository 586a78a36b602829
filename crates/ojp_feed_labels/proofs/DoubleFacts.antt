-- Labels of ids among them all.
use Rattle.std.proofs.Common.{◌≡◌, ◌≢◌, ℕ, ◌+◌, ◌<◌, ◌≤◌, List, [], ◌∷◌, ◌++◌, length, get_or, map, take, Bor, Some, sym, ap, subst, ◌∙◌, arith}
use Rattle.std.specs.Prelude.{slice_get}
use Rattle.std.proofs.lemmas.List.{get_or-map, get_or-take, length-map, length-take-le, map_more, map_push, take-map, take_all}
use Rattle.std.proofs.lemmas.List.Quantifiers.{all_pairs_push}
use Rattle.std.proofs.lemmas.Option.{slice_get-get_or}
use Rattle.ojp_values.specs.Texts.{Text}
use Rattle.ojp_feed_labels.specs.Doubles.{AreApart, AreDoubled, own_label, own_labels}
use Rattle.ojp_feed_labels.proofs.SeenFacts.{StandsAt}

-- the ids up to the next one
pub ids_more : (ids : List (Bor Text)) (i : ℕ) (d : Bor Text) (id : Text) → i < length ids → id ≡ (get_or ids i d).now → map (λ (one : Bor Text). one.now) (take (i + 1) ids) ≡ map (λ (one : Bor Text). one.now) (take i ids) ++ id ∷ []
ids_more ids i d id h is = let now : Bor Text → Text = λ one. one.now in map_more now ids i d h ∙ ap (λ (text : Text). map now (take i ids) ++ text ∷ []) (sym is)

pub id_at : (ids : List (Bor Text)) (i : ℕ) (d : Bor Text) (id : Text) → i < length ids → id ≡ (get_or ids i d).now → slice_get (map (λ (one : Bor Text). one.now) ids) i ≡ Some id
id_at ids i d id h is =
    let now : Bor Text → Text = λ one. one.now in
    let within : i < length (map now ids) = omega (arith, h, length-map ids now) in
    slice_get-get_or (map now ids) i [] within ∙ ap Some (get_or-map now ids i d [] h ∙ sym is)

-- the labels up to the next one
pub labels_more : (most : ℕ) (ids given : List Text) (next : List Text) (id label : Text) (labels new : List Text) → next ≡ given ++ id ∷ [] → labels ≡ map (own_label most ids) given → label ≡ own_label most ids id → new ≡ labels ++ label ∷ []
    → new ≡ map (own_label most ids) next
labels_more most ids given next id label labels new more before is step =
    let own = own_label most ids in
    step ∙ (ap (λ (all : List Text). all ++ label ∷ []) before ∙ (ap (λ (text : Text). map own given ++ text ∷ []) is ∙ (sym (map_push own given id) ∙ ap (map own) (sym more))))

-- one more label that none before it is
pub apart_more : (labels new : List Text) (label : Text) → AreApart labels → ((k : ℕ) (d : Text) → k < length labels → get_or labels k d ≢ label) → new ≡ labels ++ label ∷ [] → AreApart new
apart_more labels new label before other step = subst AreApart (sym step) (all_pairs_push (λ (one two : Text). one ≢ two) labels label before other)

all_front : (most n : ℕ) (ids : List Text) → take n (own_labels most ids) ≡ map (own_label most ids) (take n ids)
unfolding own_labels
all_front most n ids = take-map (own_label most ids) n ids

-- all of them
pub labels_all : (most i : ℕ) (ids : List (Bor Text)) (all labels : List Text) → all ≡ map (λ (one : Bor Text). one.now) ids → length ids ≤ i → labels ≡ map (own_label most all) (map (λ (one : Bor Text). one.now) (take i ids)) → labels ≡ own_labels most all
unfolding own_labels
labels_all most i ids all labels whole behind are =
    let now : Bor Text → Text = λ one. one.now in
    are ∙ ap (map (own_label most all)) (ap (map now) (take_all i ids behind) ∙ sym whole)

-- the label of an id stands before it
pub doubled_at : (most first second : ℕ) (ids labels : List Text) (id label : Text) → labels ≡ map (own_label most ids) (take second ids) → second < length ids → slice_get ids second ≡ Some id → label ≡ own_label most ids id → StandsAt labels label first
    → AreApart labels → AreDoubled most ids first second
doubled_at most first second ids labels id label are within at is stands apart =
    let own = own_label most ids in
    let front = take second ids in
    let long : length front ≡ second = length-take-le second ids (omega (arith, within)) in
    let order : first < second = omega (arith, stands.within, ap length are, length-map front own, long) in
    let first_id = get_or ids first [] in
    record {
      first_id = first_id;
      second_id = id;
      order = order;
      first_at = slice_get-get_or ids first [] (omega (arith, order, within));
      second_at = at;
      label = sym (ap own (get_or-take second ids first [] order)) ∙ (sym (get_or-map own front first [] [] (omega (arith, order, long))) ∙ (ap (λ (all : List Text). get_or all first []) (sym are) ∙ (stands.at [] ∙ is)));
      before = subst AreApart (are ∙ sym (all_front most second ids)) apart;
    }
