-- What a board keeps of a pair, and how it changes.
use Rattle.std.specs.Prelude.{◌≡◌, ◌==◌, ℕ, ◌+◌, ◌<◌, ◌&&◌, not, Bool, true, false, List, [], ◌∷◌, Option, Some, None, length, slice_get, slice_index_or, slice_set, if◌then◌else◌}
use Rattle.ojp_values.specs.Texts.{Text}
use Rattle.ojp_values.specs.declared.asks.TripAsk.{TripAsk}
use Rattle.ojp_exchange.specs.Book.{Spot}
use Rattle.ojp_exchange.specs.declared.spots.Edge.{Edge}
use Rattle.ojp_records.specs.declared.queries.Query.{Query}
use Rattle.ojp_records.specs.declared.queries.Query.TheVariants.{Reach}
use Rattle.ojp_records.specs.Wanted.{is_before, can_improve}
use Rattle.ojp_labels.specs.declared.labels.Label.{Label}

-- the label of a pair of which nothing is known
abbrev pub no_label : Label
no_label = record { start = None; told = false; failed = false; has_target = false }

-- the label at the place
abbrev pub label_at : List Label → ℕ → Label
label_at labels place = slice_index_or labels place no_label

-- the label after the start became known: where it is before the least one, nothing was told of it yet
abbrev pub lowered : Label → ℕ → Label
lowered label start =
    if is_before start label.start then record { start = Some start; told = false; failed = false; has_target = label.has_target } else label

-- the labels after each change from a moment of arrival
abbrev pub lowered_by : List Edge → ℕ → List Label → List Label
lowered_by [] moment labels = labels
lowered_by (edge ∷ edges) moment labels =
    lowered_by edges moment (slice_set labels edge.to (lowered (label_at labels edge.to) (moment + edge.change)))

-- the start is this one
abbrev pub is_start : Option ℕ → ℕ → Bool
is_start None start = false
is_start (Some known) start = known == start

-- the label after the pair was told at the start
abbrev pub marked : Label → ℕ → Bool → Label
marked label start failed =
    if is_start label.start start then record { start = label.start; told = true; failed = failed; has_target = label.has_target } else label

-- the labels after the pair of the place was told at the start
abbrev pub marked_at : List Label → ℕ → ℕ → Bool → List Label
marked_at labels place start failed = slice_set labels place (marked (label_at labels place) start failed)

-- each edge leads to one of so many places
abbrev pub IsWithin : List Edge → ℕ → Type 0
IsWithin edges places = (k : ℕ) (edge : Edge) → slice_get edges k ≡ Some edge → edge.to < places

-- the start, where the pair is open and the start can improve
abbrev pub open_at : TripAsk → Option ℕ → Bool → Option ℕ → Option ℕ
open_at ask best is_open None = None
open_at ask best is_open (Some start) = if is_open && can_improve ask best start then Some start else None

-- the start at which the label wants its pair: the least known one, where the pair has a target, was not told at it and
-- it can improve
abbrev pub open_start : TripAsk → Option ℕ → Label → Option ℕ
open_start ask best label = open_at ask best (label.has_target && not label.told) label.start

-- the query of the spot's pair at the start, if there is one
abbrev pub reach_from : Spot → Option ℕ → Option Query
reach_from spot None = None
reach_from spot (Some start) = Some (Reach spot.region spot.stop start)

-- what the label wants of the spot's pair
abbrev pub label_slot : TripAsk → Option ℕ → Spot → Label → Option Query
label_slot ask best spot label = reach_from spot (open_start ask best label)

-- the region, where its pair failed at a start that can improve
abbrev pub failed_when : TripAsk → Option ℕ → Text → Bool → Option ℕ → Option Text
failed_when ask best region failed None = None
failed_when ask best region failed (Some start) = if failed && can_improve ask best start then Some region else None

-- the region of the spot, where a failure of its pair stands
abbrev pub failed_by : TripAsk → Option ℕ → Spot → Label → Option Text
failed_by ask best spot label = failed_when ask best spot.region (label.has_target && label.failed) label.start
