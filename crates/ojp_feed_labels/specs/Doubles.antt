-- The labels of many ids.
use Rattle.std.specs.Prelude.{◌≡◌, ◌≢◌, ℕ, ◌<◌, ◌==◌, ◌&&◌, Bool, cond, not, nat_lt, List, Option, Some, None, bytes_eq, count_by, map, slice_get, take}
use Rattle.std.specs.List.{AllPairs}
use Rattle.indexmap.specs.IndexMap.{IndexMap, get}
use Rattle.ojp_values.specs.Texts.{Text}
use Rattle.ojp_feed_labels.specs.Labels.{hashed, label_of}
use Rattle.ojp_feed_labels.specs.declared.doubles.LabelsRefused.{LabelsRefused}
use Rattle.ojp_feed_labels.specs.declared.doubles.LabelsRefused.TheVariants.{Doubled, NoMemory}

-- how many of the ids have that label
unfoldable pub holders : ℕ → List Text → Text → ℕ
holders most ids label = count_by (λ (id : Text). bytes_eq (label_of most id) label) ids

-- what a map tells of a label that so many ids have: whether several have it, and nothing where none has
abbrev pub told : ℕ → Option Bool
told count = cond (count == 0) None (Some (nat_lt 1 count))

-- a map tells of each label whether several of the ids have it
abbrev pub AreShared : {S : Type 0} → ℕ → List Text → IndexMap Text Bool S → Type 0
AreShared most ids shared = (label : Text) → get bytes_eq shared label ≡ told (holders most ids label)

-- another of the ids has the label of this one, which is not the id itself
abbrev pub gives_way : ℕ → List Text → Text → Bool
gives_way most ids id = nat_lt 1 (holders most ids (label_of most id)) && not (bytes_eq (label_of most id) id)

-- the label of one of the ids among them all: its own, and the hashed form where it gives way to another
unfoldable pub own_label : ℕ → List Text → Text → Text
own_label most ids id = cond (gives_way most ids id) (hashed most id) (label_of most id)

-- the labels of them all, in their order
unfoldable pub own_labels : ℕ → List Text → List Text
own_labels most ids = map (own_label most ids) ids

-- no two of the labels are one
abbrev pub AreApart : List Text → Type 0
AreApart labels = AllPairs (λ (one other : Text). one ≢ other) labels

-- the ids at these two places have one label, and those before the second have each its own
pub record AreDoubled (most : ℕ) (ids : List Text) (first second : ℕ) : Type 0 where
  pub first_id : Text
  pub second_id : Text
  pub order : first < second
  pub first_at : slice_get ids first ≡ Some first_id
  pub second_at : slice_get ids second ≡ Some second_id
  pub label : own_label most ids first_id ≡ own_label most ids second_id
  pub before : AreApart (take second (own_labels most ids))

-- two of the ids have one label
abbrev pub AreLabelsRefused : ℕ → List Text → LabelsRefused → Type 0
AreLabelsRefused most ids (Doubled first second) = AreDoubled most ids first second
AreLabelsRefused most ids NoMemory = Unit {0}
